-- The list of packets: what a delivery, and what is sent, do to the Leaves that follow Joins.
-- Assumes nothing.
use mathlib.Core.Bool.{Bool, true}
use mathlib.Core.List.{List, [], ◌∷◌, ◌++◌}
use mathlib.Core.Logic.{◌⊎◌, inl, inr}
use mathlib.Core.Path.{◌≡◌, refl, subst, sym, ◌∙◌}
use Prim.Native.Nat.{ℕ, ◌-◌, ◌<◌, ◌≤◌}
use native.Mathlib.Omega.{arith}
use Rattle.fractions.proofs.Cases.{order}
use Rattle.soundness.specs.LinkDid.{is_join}
use Rattle.tasks.specs.declared.Packet.{Packet}
use Rattle.tasks.specs.Packets.{is_leave}
use Rattle.reachable.specs.Invariant.{AllFollowed, Every, LeaveFor, Reaches, also, end, here, later, next, none}
use Rattle.reachable.proofs.PacketLists.{no_packet, some_first, some_left, some_map, some_right, some_split}

-- hops 1 to the last of the session's path
pub record JoinOnPath (last : ℕ → ℕ) (q : Packet) : Type 0 where
  pub on : is_join q.kind ≡ true → (0 < q.hop) × (q.hop ≤ last q.session)

-- a Leave p is not delivered while a Join q of its session stands before it at its hop
pub record NotOvertaken (p q : Packet) : Type 0 where
  pub apart : is_leave p.kind ≡ true → is_join q.kind ≡ true → p.session ≡ q.session → q.hop ≡ p.hop → ⊥

-- who is active counts of the sessions of the list alone
pub followed_same : (f g : ℕ → Bool) (b l : List Packet) → Every (λ q. g q.session ≡ f q.session) l → AllFollowed f b l → AllFollowed g b l
followed_same f g b [] none end = end
followed_same f g b (q ∷ l) (also e h) (next k c) = next (λ j n. k j (sym e ∙ n)) (followed_same f g (q ∷ b) l h c)

-- a Leave that reaches a hop reaches the later ones
leave_later : (s h k : ℕ) → h ≤ k → (q : Packet) → LeaveFor s h q → LeaveFor s k q
leave_later s h k m q u = record { leave = u.leave; session = u.session; hop = omega (arith, u.hop, m) }

pub reaches_later : (s h k : ℕ) (l : List Packet) → h ≤ k → Reaches s h l → Reaches s k l
reaches_later s h k l m u = some_map l (leave_later s h k m) u

-- a Leave that still reaches h does so after a delivery of p, or it is p, and then what p sends must
pub reaches_moved : (s h : ℕ) (xs ys : List Packet) (p : Packet) (sent : List Packet)
    → Reaches s h (xs ++ p ∷ ys)
    → (LeaveFor s h p → Reaches s h sent)
    → Reaches s h ((xs ++ ys) ++ sent)
reaches_moved s h xs ys p sent u f = go (some_split xs (p ∷ ys) u)
  where
    of_rest : LeaveFor s h p ⊎ Reaches s h ys → Reaches s h ((xs ++ ys) ++ sent)
    of_rest (inl v) = some_right (xs ++ ys) sent (f v)
    of_rest (inr v) = some_left (xs ++ ys) sent (some_right xs ys v)

    go : Reaches s h xs ⊎ Reaches s h (p ∷ ys) → Reaches s h ((xs ++ ys) ++ sent)
    go (inl v) = some_left (xs ++ ys) sent (some_left xs ys v)
    go (inr v) = of_rest (some_first p ys v)

-- A PACKET p IS TAKEN OUT, AND `sent` GOES TO THE END -----------------------------------------------------------------

module _ (active : ℕ → Bool) (last : ℕ → ℕ) (p : Packet) (sent : List Packet)
    (moves : (h : ℕ) → is_leave p.kind ≡ true → p.hop < h → h ≤ last p.session → Reaches p.session h sent) where
  -- what is sent is followed, whatever stands before it, if only the Leaves of b and l do
  abbrev pub SentFollowed : List Packet → List Packet → Type 0
  SentFollowed b l =
      (c : List Packet) → ((s h : ℕ) → Reaches s h b → Reaches s h c) → ((s h : ℕ) → Reaches s h l → Reaches s h c) → AllFollowed active c sent

  sent_next : (q : Packet) (b l : List Packet) → SentFollowed b (q ∷ l) → SentFollowed (q ∷ b) l
  sent_next q b l f c u v = f c (λ s h t. u s h (later t)) (λ s h t. go s h (some_first q l t))
    where
      go : (s h : ℕ) → LeaveFor s h q ⊎ Reaches s h l → Reaches s h c
      go s h (inl t) = u s h (here t)
      go s h (inr t) = v s h t

  sent_end : (b : List Packet) → SentFollowed b [] → AllFollowed active b sent
  sent_end b f = f b (λ s h t. t) (λ s h t. absurd (no_packet [] refl t))

  -- what p followed among those at later hops, what it sends follows
  instead : (q : Packet) → JoinOnPath last q → is_join q.kind ≡ true → is_leave p.kind ≡ true → p.session ≡ q.session → p.hop < q.hop
      → Reaches q.session q.hop sent
  instead q o j i n m =
      subst (λ (s : ℕ). Reaches s q.hop sent) n (moves q.hop i m (subst (λ (s : ℕ). q.hop ≤ last s) (sym n) (o.on j).1))

  -- the Leaves of b are those of c, and p
  abbrev LeavesOf : List Packet → List Packet → Type 0
  LeavesOf b c = (s h : ℕ) → Reaches s h b → Reaches s h c ⊎ LeaveFor s h p

  leaves_next : (q : Packet) (b c : List Packet) → LeavesOf b c → LeavesOf (q ∷ b) (q ∷ c)
  leaves_next q b c r s h t = go (some_first q b t)
    where
      more : Reaches s h c ⊎ LeaveFor s h p → Reaches s h (q ∷ c) ⊎ LeaveFor s h p
      more (inl v) = inl (later v)
      more (inr v) = inr v

      go : LeaveFor s h q ⊎ Reaches s h b → Reaches s h (q ∷ c) ⊎ LeaveFor s h p
      go (inl u) = inl (here u)
      go (inr u) = more (r s h u)

  -- behind p's place
  pub followed_behind : (b c l : List Packet) → LeavesOf b c → Every (JoinOnPath last) l → AllFollowed active b l → SentFollowed c l
      → AllFollowed active c (l ++ sent)
  followed_behind b c [] r e end f = sent_end c f
  followed_behind b c (q ∷ l) r (also o e) (next k a) f =
      next (λ j n. go j (k j n)) (followed_behind (q ∷ b) (q ∷ c) l (leaves_next q b c r) e a (sent_next q c l f))
    where
      of_p : is_join q.kind ≡ true → Reaches q.session (q.hop - 1) c ⊎ LeaveFor q.session (q.hop - 1) p
          → Reaches q.session (q.hop - 1) c ⊎ Reaches q.session q.hop (l ++ sent)
      of_p j (inl u) = inl u
      of_p j (inr u) = inr (some_right l sent (instead q o j u.leave u.session (omega (arith, u.hop, (o.on j).0))))

      go : is_join q.kind ≡ true → Reaches q.session (q.hop - 1) b ⊎ Reaches q.session q.hop l
          → Reaches q.session (q.hop - 1) c ⊎ Reaches q.session q.hop (l ++ sent)
      go j (inl u) = of_p j (r q.session (q.hop - 1) u)
      go j (inr u) = inr (some_left l sent u)

  pub followed_moved : (b xs ys : List Packet) → Every (NotOvertaken p) xs → Every (JoinOnPath last) xs → Every (JoinOnPath last) ys
      → AllFollowed active b (xs ++ p ∷ ys)
      → SentFollowed b (xs ++ ys)
      → AllFollowed active b ((xs ++ ys) ++ sent)
  followed_moved b [] ys a e g (next k c) f = followed_behind (p ∷ b) b ys first g c f
    where
      first : LeavesOf (p ∷ b) b
      first s h t = flip (some_first p b t)
        where
          flip : LeaveFor s h p ⊎ Reaches s h b → Reaches s h b ⊎ LeaveFor s h p
          flip (inl u) = inr u
          flip (inr u) = inl u
  followed_moved b (q ∷ xs) ys (also a d) (also o e) g (next k c) f =
      next (λ j n. go j (k j n)) (followed_moved (q ∷ b) xs ys d e g c (sent_next q b (xs ++ ys) f))
    where
      by_p : is_join q.kind ≡ true → LeaveFor q.session q.hop p → (q.hop ≤ p.hop) ⊎ (p.hop < q.hop)
          → Reaches q.session q.hop ((xs ++ ys) ++ sent)
      by_p j u (inl h) = absurd (a.apart u.leave j u.session (omega (arith, h, u.hop)))
      by_p j u (inr h) = some_right (xs ++ ys) sent (instead q o j u.leave u.session h)

      at_p : is_join q.kind ≡ true → LeaveFor q.session q.hop p ⊎ Reaches q.session q.hop ys
          → Reaches q.session q.hop ((xs ++ ys) ++ sent)
      at_p j (inl u) = by_p j u (order q.hop p.hop)
      at_p j (inr u) = some_left (xs ++ ys) sent (some_right xs ys u)

      behind : is_join q.kind ≡ true → Reaches q.session q.hop xs ⊎ Reaches q.session q.hop (p ∷ ys)
          → Reaches q.session q.hop ((xs ++ ys) ++ sent)
      behind j (inl u) = some_left (xs ++ ys) sent (some_left xs ys u)
      behind j (inr u) = at_p j (some_first p ys u)

      go : is_join q.kind ≡ true → Reaches q.session (q.hop - 1) b ⊎ Reaches q.session q.hop (xs ++ p ∷ ys)
          → Reaches q.session (q.hop - 1) b ⊎ Reaches q.session q.hop ((xs ++ ys) ++ sent)
      go j (inl u) = inl u
      go j (inr u) = inr (behind j (some_split xs (p ∷ ys) u))
