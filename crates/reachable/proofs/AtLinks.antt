-- A delivery at a link keeps the invariant.
-- Assumes nothing.
use mathlib.Core.Bool.{true}
use mathlib.Core.List.{List, [], ◌++◌}
use mathlib.Core.Logic.{◌⊎◌, inl, inr}
use mathlib.Core.Path.{◌≡◌, ap, subst, sym, ◌∙◌}
use Prim.Native.Nat.{ℕ, ◌<◌, ◌≤◌}
use native.Mathlib.Omega.{arith}
use Rattle.ends.specs.declared.Source.{Source}
use Rattle.sending.specs.Sending.{burst_kind, in_turn_of}
use Rattle.fractions.proofs.Cases.{order}
use Rattle.links.specs.declared.Place.{Place}
use Rattle.soundness.specs.LinkDid.{LinkDid, is_join}
use Rattle.soundness.specs.Sound.{Held}
use Rattle.table.specs.Words.{count_of, hop_of, hops_of, packet_of, packets_of, place_of}
use Rattle.tasks.specs.declared.Did.{Did}
use Rattle.tasks.specs.declared.Packet.{Packet}
use Rattle.tasks.specs.Packets.{is_leave}
use Rattle.reachable.specs.Invariant.{AllFollowed, EntryOk, Inv, LeaveFor, Reaches, active_in}
use Rattle.reachable.proofs.Deliveries.{rest}
use Rattle.reachable.proofs.Follows.{followed_same}
use Rattle.reachable.proofs.Kept.{entry_kept, one_or_other, same_hop}
use Rattle.reachable.proofs.LinkSteps.{LinkAfter, burst_up, burst_sessions, hop_here, link_below, link_did, link_at, link_does, sent_by_link}
use Rattle.reachable.proofs.PacketLists.{every_map, some_left, some_right}
use Rattle.reachable.proofs.SafeRecords.{link_safe}
use Rattle.reachable.proofs.Sends.{burst_to, onward_to}
use Rattle.reachable.proofs.SentPackets.{burst_followed, onward_followed, onward_leave}
use Rattle.reachable.proofs.TakenOut.{followed_after, join_followed_by, reaches_after}

-- packet p of place j reaches link e
module _ (w : List ℕ) (j : ℕ) (i : Inv w) (h : j < count_of w) (turn : in_turn_of w j ≡ true)
    (low : 0 < (packet_of w j).hop) (high : (packet_of w j).hop ≤ hops_of w (packet_of w j).session) (v : List ℕ)
    (fine : (link_does w (packet_of w j)).fine ≡ true) (a : LinkAfter w (packet_of w j) (rest w j) v) where
  abbrev p : Packet
  p = packet_of w j

  abbrev e : ℕ
  e = link_at w p

  abbrev d : Did
  d = link_does w p

  abbrev sent : List Packet
  sent = sent_by_link w p

  did : LinkDid p.session p.kind (place_of w e) d
  did = link_did w j i.safe h low high

  at : hop_of w p.session e ≡ p.hop
  at = hop_here w j i.safe h low high

  active : (s : ℕ) → s < 32 → active_in v s ≡ active_in w s
  active s l = ap (λ (z : Source). z.active) (a.sources s l)

  -- a Leave that is delivered goes on to the next hop
  leave_on : (n : ℕ) → is_leave p.kind ≡ true → p.hop < n → Reaches p.session n sent
  leave_on n t m =
      some_right (burst_to w e (burst_kind d.burst) (burst_sessions w p)) _ (onward_leave p.session p.hop p.kind d.on did.on t n m)

  -- ENTRIES -------------------------------------------------------------------------------------------------------------

  -- an entry that was there: it is on its path, and a Leave that was to come still is
  entry_stays : (f s : ℕ) → s < 32 → EntryOk w f s → (LeaveFor s (hop_of w s f) p → Reaches s (hop_of w s f) sent) → EntryOk v f s
  entry_stays f s l o m =
      entry_kept w v f s (a.paths s l) o.on_path
      (λ t. subst (Reaches s (hop_of w s f)) (sym a.packets) (reaches_after w j h sent s (hop_of w s f) m (o.live (sym (active s l) ∙ t))))

  -- at another link its hop is not the packet's
  entry_other : (f s : ℕ) → s < 32 → (f ≡ e → ⊥) → EntryOk w f s → EntryOk v f s
  entry_other f s l n o = entry_stays f s l o (moved (order (hop_of w s f) p.hop))
    where
      hop_not : p.session ≡ s → hop_of w s f ≡ p.hop → ⊥
      hop_not q r =
          let b : hop_of w s e ≡ p.hop = ap (λ (x : ℕ). hop_of w x e) (sym q) ∙ at in
          n (same_hop w s e f (omega (arith, b, low)) (r ∙ sym b))

      moved : (hop_of w s f ≤ p.hop) ⊎ (p.hop < hop_of w s f) → LeaveFor s (hop_of w s f) p → Reaches s (hop_of w s f) sent
      moved (inl m) u = absurd (hop_not u.session (omega (arith, m, u.hop)))
      moved (inr m) u = subst (λ (x : ℕ). Reaches x (hop_of w s f) sent) u.session (leave_on (hop_of w s f) u.leave m)

  -- the Join made it, and what follows the Join will remove it
  entry_made : is_join p.kind ≡ true → p.session < 32 → EntryOk v e p.session
  entry_made t l =
      entry_kept w v e p.session (a.paths p.session l) (omega (arith, at, low))
      (λ n.
      subst (λ (m : ℕ). Reaches p.session m (packets_of v)) (sym at)
      (subst (Reaches p.session p.hop) (sym a.packets) (some_left (rest w j) sent (join_followed_by w j h i t (sym (active p.session l) ∙ n)))))

  -- at this link it was there, or the Join made it
  entry_here : (s : ℕ) → s < 32 → Held d.place s → EntryOk v e s
  entry_here s l u = go (did.held s u)
    where
      go : Held (place_of w e) s ⊎ ((s ≡ p.session) × (is_join p.kind ≡ true)) → EntryOk v e s
      go (inl g) =
          entry_stays e s l (i.entry e s (link_below w j i.safe h low high) l g)
          (λ f. absurd (did.gone f.leave (subst (Held d.place) (sym f.session) u)))
      go (inr g) = subst (EntryOk v e) (sym g.0) (entry_made g.1 (subst (λ (x : ℕ). x < 32) g.0 l))

  entry_after : (f s : ℕ) → f < 64 → s < 32 → Held (place_of v f) s → EntryOk v f s
  entry_after f s k l =
      one_or_other (λ (x : ℕ). Held (place_of v x) s → EntryOk v x s) e f
      (λ u. entry_here s l (subst (λ (x : Place). Held x s) a.here u))
      (λ n u. entry_other f s l n (i.entry f s k l (subst (λ (x : Place). Held x s) (a.elsewhere f k n) u)))

  -- JOINS ---------------------------------------------------------------------------------------------------------------

  joins_after : AllFollowed (active_in w) [] (rest w j ++ sent)
  joins_after =
      followed_after w j h i turn sent (λ n t m b. leave_on n t m)
      (λ c u.
      burst_followed (active_in w) w e (burst_kind d.burst) (burst_sessions w p) c (onward_to p.session p.hop d.on) (burst_up d.burst)
      (λ b g.
      onward_followed (active_in w) p.session p.hop p.kind d.on b did.on
      (λ t n. g p.session p.hop (u p.session p.hop (join_followed_by w j h i t n)))))

  pub link_kept : Inv v
  link_kept =
      let safe = link_safe w j i.safe h v low high fine a in
      record {
        safe = safe;
        entry = entry_after;
        joins = followed_same (active_in w) (active_in v) [] (packets_of v) (every_map (packets_of v) (λ q o. active q.session o.within.session) safe.packets)
            (subst (AllFollowed (active_in w) []) (sym a.packets) joins_after);
      }
