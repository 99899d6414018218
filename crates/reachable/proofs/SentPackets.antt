-- What a task sends: the packets are in range and on their paths, and a Leave that goes on still follows the Join before it.
-- Assumes nothing.
use Rattle.std.specs.Prelude.{None, Option, Some}
use mathlib.Core.Bool.{Bool, false, true}
use mathlib.Core.List.{List, [], ◌∷◌, ◌++◌}
use mathlib.Core.Logic.{◌⊎◌, inl, inr}
use mathlib.Core.Path.{◌≡◌, ap, refl, subst, sym, ◌∙◌}
use Prim.Native.Nat.{ℕ, ◌+◌, ◌-◌, ◌<◌, ◌≤◌}
use native.Mathlib.Omega.{arith}
use Rattle.sending.specs.Sending.{next_hop, sent_from}
use Rattle.records.proofs.Somes.{clash}
use Rattle.soundness.specs.LinkDid.{GoesOn, is_join}
use Rattle.soundness.specs.ProbeCycle.{is_response}
use Rattle.table.specs.Values.{KindWithin}
use Rattle.table.specs.Words.{hop_of, hops_of}
use Rattle.table.proofs.InRange.{hops_most}
use Rattle.tasks.specs.declared.Kind.{Kind}
use Rattle.tasks.specs.declared.Kind.TheVariants as kind
use Rattle.tasks.specs.declared.Packet.{Packet}
use Rattle.tasks.specs.Packets.{goes_down, is_leave}
use Rattle.reachable.specs.Invariant.{AllFollowed, Every, PacketOk, Reaches, also, end, here, later, next, none}
use Rattle.reachable.proofs.Follows.{JoinOnPath, reaches_later}
use Rattle.reachable.proofs.PacketLists.{no_packet}
use Rattle.reachable.proofs.Sends.{Each, burst_to, more, nobody, onward_to}

-- WAYS ----------------------------------------------------------------------------------------------------------------

pub join_down : (k : Kind) → is_join k ≡ true → goes_down k ≡ true
join_down (kind.Join x η) t = refl
join_down (kind.Probe x η) t = refl
join_down (kind.Response τ x η) t = t
join_down kind.Update t = t
join_down kind.Bottleneck t = t
join_down (kind.SetBottleneck β) t = refl
join_down kind.Leave t = refl

pub leave_down : (k : Kind) → is_leave k ≡ true → goes_down k ≡ true
leave_down (kind.Join x η) t = refl
leave_down (kind.Probe x η) t = refl
leave_down (kind.Response τ x η) t = t
leave_down kind.Update t = t
leave_down kind.Bottleneck t = t
leave_down (kind.SetBottleneck β) t = refl
leave_down kind.Leave t = refl

pub response_up : (k : Kind) → is_response k ≡ true → goes_down k ≡ false
response_up (kind.Join x η) t = sym t
response_up (kind.Probe x η) t = sym t
response_up (kind.Response τ x η) t = refl
response_up kind.Update t = refl
response_up kind.Bottleneck t = refl
response_up (kind.SetBottleneck β) t = sym t
response_up kind.Leave t = sym t

-- the destination's hop
abbrev pub last_of : List ℕ → ℕ → ℕ
last_of w s = hops_of w s + 1

pub join_on_path : (w : List ℕ) (q : Packet) → PacketOk w q → JoinOnPath (last_of w) q
join_on_path w q o = record { on = λ j. o.down (join_down q.kind j) }

-- ONWARD --------------------------------------------------------------------------------------------------------------

-- a packet sent from hop h of the path is on it
pub sent_ok : (w : List ℕ) (s h : ℕ) (k : Kind) → s < 32 → 0 < hops_of w s → (goes_down k ≡ true → h ≤ hops_of w s) → h ≤ hops_of w s + 1 → KindWithin k
    → PacketOk w (sent_from s h k)
sent_ok w s h k l j d u r = record {
  within = record { session = l; hop = most (goes_down k) refl; kind = r };
  known = j;
  way = refl;
  down = λ t. rw t (omega arith, omega (arith, d t));
  up = λ t. rw t (omega (arith, u));
}
  where
    most : (b : Bool) → goes_down k ≡ b → next_hop b h ≤ 9
    most true t = omega (arith, d t, hops_most w s)
    most false t = omega (arith, u, hops_most w s)

pub onward_ok : (w : List ℕ) (s h : ℕ) (k : Kind) (o : Option Kind) → GoesOn k o → s < 32 → 0 < hops_of w s → (goes_down k ≡ true → h ≤ hops_of w s) → h ≤ hops_of w s + 1
    → Every (PacketOk w) (onward_to s h o)
onward_ok w s h k None g l j d u = none
onward_ok w s h k (Some i) g l j d u = also (sent_ok w s h i l j (λ t. d (sym g.way ∙ t)) u g.within) none

-- a Leave goes on to the next hop
pub onward_leave : (s h : ℕ) (k : Kind) (o : Option Kind) → GoesOn k o → is_leave k ≡ true → (n : ℕ) → h < n → Reaches s n (onward_to s h o)
onward_leave s h k None g t n l = absurd (clash (is_leave k) t g)
onward_leave s h k (Some i) g t n l =
    let d : goes_down i ≡ true = g.way ∙ leave_down k t in
    here {q = sent_from s h i} (record { leave = g.leave ∙ t; session = refl; hop = rw d (omega arith) })

-- a Join that goes on is followed where the one before it was
pub onward_followed : (active : ℕ → Bool) (s h : ℕ) (k : Kind) (o : Option Kind) (c : List Packet) → GoesOn k o
    → (is_join k ≡ true → active s ≡ false → Reaches s h c)
    → AllFollowed active c (onward_to s h o)
onward_followed active s h k None c g f = end
onward_followed active s h k (Some i) c g f = next (λ j n. inl (go j n)) end
  where
    go : is_join i ≡ true → active s ≡ false → Reaches s (next_hop (goes_down i) h - 1) c
    go j n =
        let e : next_hop (goes_down i) h ≡ h + 1 = ap (λ (b : Bool). next_hop b h) (join_down i j) in
        let m : next_hop (goes_down i) h - 1 ≡ h = omega (arith, e) in
        subst (λ (x : ℕ). Reaches s x c) (sym m) (f (sym g.join ∙ j) n)

-- A BURST -------------------------------------------------------------------------------------------------------------

-- link e is on the path of session r
pub record Crosses (w : List ℕ) (e r : ℕ) : Type 0 where
  pub session : r < 32
  pub joined : 0 < hops_of w r
  pub upto : hop_of w r e ≤ hops_of w r

abbrev pub Crossing : List ℕ → ℕ → List ℕ → Type 0
Crossing w e l = Each (Crosses w e) l

pub burst_ok : (w : List ℕ) (e : ℕ) (k : Kind) (l : List ℕ) → goes_down k ≡ false → KindWithin k → Crossing w e l → Every (PacketOk w) (burst_to w e k l)
unfolding burst_to
burst_ok w e k [] d r nobody = none
burst_ok w e k (s ∷ l) d r (more o c) =
    also (sent_ok w s (hop_of w s e) k o.session o.joined (λ t. absurd (clash (goes_down k) t d)) (omega (arith, o.upto)) r) (burst_ok w e k l d r c)

-- there is no Join among them
pub burst_followed : (active : ℕ → Bool) (w : List ℕ) (e : ℕ) (k : Kind) (l : List ℕ) (c rest : List Packet) → goes_down k ≡ false
    → ((b : List Packet) → ((s h : ℕ) → Reaches s h c → Reaches s h b) → AllFollowed active b rest)
    → AllFollowed active c (burst_to w e k l ++ rest)
unfolding burst_to
burst_followed active w e k [] c rest d f = f c (λ s h u. u)
burst_followed active w e k (r ∷ l) c rest d f =
    next (λ j n. absurd (clash (goes_down k) (join_down k j) d))
    (burst_followed active w e k l (sent_from r (hop_of w r e) k ∷ c) rest d (λ b g. f b (λ s h u. g s h (later u))))

-- A JOIN THAT IS TAKEN OUT --------------------------------------------------------------------------------------------

-- what follows a Join of a session that is not active stays when the Join is taken out
pub join_followed : (active : ℕ → Bool) (b xs : List Packet) (p : Packet) (ys : List Packet) → AllFollowed active b (xs ++ p ∷ ys)
    → is_join p.kind ≡ true
    → active p.session ≡ false
    → Reaches p.session p.hop b ⊎ Reaches p.session p.hop (xs ++ ys)
join_followed active b [] p ys (next k c) j n = go (k j n)
  where
    go : Reaches p.session (p.hop - 1) b ⊎ Reaches p.session p.hop ys → Reaches p.session p.hop b ⊎ Reaches p.session p.hop ys
    go (inl u) = inl (reaches_later p.session (p.hop - 1) p.hop b (omega arith) u)
    go (inr u) = inr u
join_followed active b (q ∷ xs) p ys (next k c) j n = go (join_followed active (q ∷ b) xs p ys c j n)
  where
    at_q : Reaches p.session p.hop (q ∷ b) → Reaches p.session p.hop b ⊎ Reaches p.session p.hop (q ∷ (xs ++ ys))
    at_q (here u) = inr (here u)
    at_q (later u) = inl u

    go : Reaches p.session p.hop (q ∷ b) ⊎ Reaches p.session p.hop (xs ++ ys)
        → Reaches p.session p.hop b ⊎ Reaches p.session p.hop (q ∷ (xs ++ ys))
    go (inl u) = at_q u
    go (inr u) = inr (later u)

-- with nothing before it
pub join_still_followed : (active : ℕ → Bool) (xs : List Packet) (p : Packet) (ys : List Packet) → AllFollowed active [] (xs ++ p ∷ ys)
    → is_join p.kind ≡ true
    → active p.session ≡ false
    → Reaches p.session p.hop (xs ++ ys)
join_still_followed active xs p ys c j n = go (join_followed active [] xs p ys c j n)
  where
    go : Reaches p.session p.hop [] ⊎ Reaches p.session p.hop (xs ++ ys) → Reaches p.session p.hop (xs ++ ys)
    go (inl u) = absurd (no_packet [] refl u)
    go (inr u) = u
