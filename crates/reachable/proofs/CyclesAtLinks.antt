-- A delivery at a link keeps the law of probe cycles.
-- Assumes nothing.
use Rattle.std.specs.Prelude.{None, Option, Some}
use mathlib.Core.Bool.{Bool, false, true}
use mathlib.Core.List.{List, [], ◌∷◌}
use mathlib.Core.Logic.{◌⊎◌, inl, inr}
use mathlib.Core.Path.{◌≡◌, ap, refl, subst, sym, ◌∙◌}
use Prim.Native.Nat.{ℕ, ◌+◌, ◌<◌, ◌≤◌}
use native.Mathlib.Decide.{ℕ_discrete}
use native.Mathlib.Omega.{arith}
use Rattle.sending.specs.Sending.{burst_kind, next_hop, sent_from}
use Rattle.links.specs.declared.Place.{Place}
use Rattle.soundness.proofs.KeepsWaiting.{keeps_waiting}
use Rattle.soundness.proofs.SendsCycle.{sends_for_cycle, waits_where_sent}
use Rattle.soundness.specs.LinkDid.{GoesOn, is_join}
use Rattle.soundness.specs.ProbeCycle.{Waiting, in_cycle, is_response, sends_cycle}
use Rattle.soundness.specs.Sound.{Held}
use Rattle.table.specs.Words.{count_of, hop_of, hops_of, packet_of, place_of}
use Rattle.tasks.specs.declared.Burst.{Burst}
use Rattle.tasks.specs.declared.Burst.TheVariants as burst
use Rattle.tasks.specs.declared.Did.{Did}
use Rattle.tasks.specs.declared.Kind.{Kind}
use Rattle.tasks.specs.declared.Packet.{Packet}
use Rattle.tasks.specs.Packets.{goes_down}
use Rattle.reachable.specs.Cycle.{Awaited, Cycle, cycles_of, front_of}
use Rattle.reachable.specs.Invariant.{Every, Safe, also, none}
use Rattle.reachable.proofs.CycleCounts.{burst_cycles, cycles_append, onward_for}
use Rattle.reachable.proofs.CycleFrame.{Stays, front_down, front_up, hop_front, join_in_cycle, not_awaited, response_in_cycle, same_stays}
use Rattle.reachable.proofs.CyclesMoved.{alone, moved_cycle, taken_awaited}
use Rattle.reachable.proofs.Deliveries.{packet_at, rest}
use Rattle.reachable.proofs.Kept.{hop_same, one_or_other, same_hop}
use Rattle.reachable.proofs.LinkSteps.{LinkAfter, burst_sessions, hop_here, link_below, link_did, link_at, link_does, sent_by_link}
use Rattle.reachable.proofs.PacketLists.{every_append}
use Rattle.reachable.proofs.Sends.{burst_to, onward_to}
use Rattle.reachable.proofs.SentPackets.{join_down}

-- a burst is of no probe cycle
burst_other : (b : Burst) → in_cycle (burst_kind b) ≡ false
burst_other burst.Update = refl
burst_other burst.Bottleneck = refl

burst_awaited : (v w : List ℕ) (e : ℕ) (k : Kind) (l : List ℕ) → in_cycle k ≡ false → Every (Awaited v) (burst_to w e k l)
unfolding burst_to
burst_awaited v w e k [] n = none
burst_awaited v w e k (r ∷ l) n = also (not_awaited v (sent_from r (hop_of w r e) k) n) (burst_awaited v w e k l n)

module _ (w : List ℕ) (j : ℕ) (i : Safe w) (c : Cycle w) (h : j < count_of w)
    (low : 0 < (packet_of w j).hop) (high : (packet_of w j).hop ≤ hops_of w (packet_of w j).session) (v : List ℕ)
    (a : LinkAfter w (packet_of w j) (rest w j) v) where
  abbrev p : Packet
  p = packet_of w j

  abbrev s : ℕ
  s = p.session

  abbrev e : ℕ
  e = link_at w p

  abbrev d : Did
  d = link_does w p

  ls : s < 32
  ls = (packet_at w j i h).within.session

  e64 : e < 64
  e64 = link_below w j i h low high

  at : hop_of w s e ≡ p.hop
  at = hop_here w j i h low high

  abbrev others : List Packet
  others = rest w j

  held_here : (r : ℕ) → Held (place_of v e) r → Held d.place r
  held_here r u = subst (λ (x : Place). Held x r) a.here u

  -- THE OTHER PACKETS ---------------------------------------------------------------------------------------------------

  -- where another packet of a session's probe cycle is in flight, p is none of it
  module _ (r : ℕ) (n : 0 < cycles_of r others) where
    apart : r ≡ s → in_cycle p.kind ≡ true → ⊥
    apart q t = omega (arith, n, ap (λ (x : ℕ). cycles_of x others) q, alone w j i c h ls t)

    was_held : Held d.place r → Held (place_of w e) r
    was_held u = go ((link_did w j i h low high).held r u)
      where
        go : Held (place_of w e) r ⊎ ((r ≡ s) × (is_join p.kind ≡ true)) → Held (place_of w e) r
        go (inl g) = g
        go (inr g) = absurd (apart g.0 (join_in_cycle p.kind g.1))

    still_waits : Held d.place r → Waiting (place_of w e) r → Waiting d.place r
    still_waits u g = go (keeps_waiting e s r p.kind (place_of w e) ls (i.place e e64) g u)
      where
        go : Waiting d.place r ⊎ ((r ≡ s) × (is_response p.kind ≡ true)) → Waiting d.place r
        go (inl k) = k
        go (inr k) = absurd (apart k.0 (response_in_cycle p.kind k.1))

    stays : Stays w v r
    stays f l =
        one_or_other (λ (x : ℕ). Held (place_of v x) r → Held (place_of w x) r × (Waiting (place_of w x) r → Waiting (place_of v x) r)) e f
        (λ u.
        let g = held_here r u in
        (was_held g, λ k. subst (λ (x : Place). Waiting x r) (sym a.here) (still_waits g k)))
        (λ m u. same_stays w v r f (a.elsewhere f l m) u)

  -- THE PACKET THAT GOES ON ---------------------------------------------------------------------------------------------

  same : (f : ℕ) → hop_of v s f ≡ hop_of w s f
  same f = hop_same w v s (a.paths s ls) f

  -- at the other links nothing has changed
  module _ (f : ℕ) (l : f < 64) (m : f ≡ e → ⊥) (u : Held (place_of v f) s) where
    was : Held (place_of w f) s
    was = subst (λ (x : Place). Held x s) (a.elsewhere f l m) u

    other_waits : in_cycle p.kind ≡ true → hop_of v s f ≤ p.hop → Waiting (place_of v f) s
    other_waits t n =
        subst (λ (x : Place). Waiting x s) (sym (a.elsewhere f l m))
        ((taken_awaited w j i c h).waits t f l was (before (ℕ_discrete (hop_of w s f) p.hop)))
      where
        before : Dec (hop_of w s f ≡ p.hop) → hop_of w s f < front_of p
        before (yes q) = absurd (m (same_hop w s e f (omega (arith, at, low)) (q ∙ sym at)))
        before (no k) = omega (arith, same f, n, k, hop_front p)

  module _ (k : Kind) (on : GoesOn p.kind (Some k)) (for : in_cycle k ≡ true → in_cycle p.kind ≡ true)
      (here : in_cycle k ≡ true → goes_down p.kind ≡ true → Waiting d.place s) where
    abbrev q : Packet
    q = sent_from s p.hop k

    -- no link from its hop on holds the session of a Join
    on_new : is_join k ≡ true → (f : ℕ) → f < 64 → Held (place_of v f) s → hop_of v s f < q.hop
    on_new t f l u = subst (λ (b : Bool). hop_of v s f < next_hop b p.hop) (sym (join_down k t)) (go (ℕ_discrete f e))
      where
        go : Dec (f ≡ e) → hop_of v s f < p.hop + 1
        go (yes x) = omega (arith, same f, ap (hop_of w s) x, at)
        go (no m) = omega (arith, same f, (taken_awaited w j i c h).new (sym on.join ∙ t) f l (was f l m u))

    on_waits : in_cycle k ≡ true → (b : Bool) → goes_down k ≡ b → (f : ℕ) → f < 64 → Held (place_of v f) s → hop_of v s f < front_of q → Dec (f ≡ e)
        → Waiting (place_of v f) s
    on_waits t true g f l u n (yes x) =
        subst (λ (y : ℕ). Waiting (place_of v y) s) (sym x) (subst (λ (y : Place). Waiting y s) (sym a.here) (here t (sym on.way ∙ g)))
    on_waits t false g f l u n (yes x) = absurd (omega (arith, n, front_up s p.hop k g low, same f, ap (hop_of w s) x, at))
    on_waits t true g f l u n (no m) = other_waits f l m u (for t) (omega (arith, n, front_down s p.hop k g))
    on_waits t false g f l u n (no m) = other_waits f l m u (for t) (omega (arith, n, front_up s p.hop k g low))

    on_awaited : Awaited v q
    on_awaited = record { new = on_new; waits = λ t f l u n. on_waits t (goes_down k) refl f l u n (ℕ_discrete f e) }

  onward_awaited : (o : Option Kind) → GoesOn p.kind o → (sends_cycle o ≡ true → in_cycle p.kind ≡ true)
      → (sends_cycle o ≡ true → goes_down p.kind ≡ true → Waiting d.place s)
      → Every (Awaited v) (onward_to s p.hop o)
  onward_awaited None on for here = none
  onward_awaited (Some k) on for here = also (on_awaited k on for here) none

  for_cycle : sends_cycle d.on ≡ true → in_cycle p.kind ≡ true
  for_cycle t = sends_for_cycle e s p.kind (place_of w e) t

  pub link_cycle : Cycle v
  link_cycle =
      let b = burst_kind d.burst in
      let o = burst_other d.burst in
      moved_cycle w j i c h v (sent_by_link w p) a.packets a.sources (λ r l n. (a.paths r l, stays r n))
      (λ r.
      omega (
        arith,
        cycles_append r (burst_to w e b (burst_sessions w p)) (onward_to s p.hop d.on),
        burst_cycles r w e b (burst_sessions w p) o,
        onward_for r s p.hop p.kind d.on for_cycle,
      ))
      (every_append (burst_to w e b (burst_sessions w p)) _ (burst_awaited v w e b (burst_sessions w p) o)
      (onward_awaited d.on (link_did w j i h low high).on for_cycle
      (λ t g. waits_where_sent e s p.kind (place_of w e) ls (i.place e e64) t g)))
