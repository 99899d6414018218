-- The smallest share among the links that have one, and among the own limits: the loops over the members of a set.
-- Assumes nothing.
use mathlib.Core.List.{List}
use mathlib.Core.Logic.{◌⊎◌, inl, inr}
use mathlib.Core.Path.{◌≡◌, sym, ap, ap₂, ◌∙◌, subst}
use Prim.Native.Nat.{ℕ, ◌+◌, ◌-◌, ◌*◌, ◌^◌, ◌<◌, ◌≤◌}
use native.Mathlib.Decide.{ℕ_discrete}
use native.Mathlib.Omega.{arith}
use borrow.Author.Tests.{lt-ltb, le-ltb}
use lib.ListN.{get_or}
use Rattle.sessions.specs.Set.{cut, has}
use Rattle.sessions.proofs.Members.{has_cut_other, has_zero}
use Rattle.sessions.proofs.Operations.{has_two_other, has_two_same}
use Rattle.fractions.proofs.Cases.{order}
use Rattle.filling.specs.SmallestShare.{Busy, SmallestAmong, below, bit_of, count_of, room_of, smaller_of}
use Rattle.filling.specs.declared.Smallest.{Smallest}
use Rattle.filling.proofs.SmallestShare.{Only, best_dead, best_none, best_sub, best_turn, nothing, or_new}

-- the set of one link, and of one session, names that link alone
only_link : (n : ℕ) → n < 64 → Only 0 (2 ^ n) n
only_link n h e k = (λ q. rw (q, lt-ltb n 64 h) (has_two_same n), λ x. go x (order 64 e))
  where
    go : (e ≡ n → ⊥) → (64 ≤ e) ⊎ (e < 64) → bit_of 0 (2 ^ n) e ≡ 0
    go x (inl y) = rw (le-ltb e 64 y) (has_zero (e - 64))
    go x (inr y) = rw (lt-ltb e 64 y) (has_two_other n e (λ z. x (sym z)))

only_own : (s : ℕ) → s < 32 → Only (2 ^ s) 0 (64 + s)
only_own s h e k = (λ q. same q, λ x. go x (order 64 e))
  where
    same : e ≡ 64 + s → bit_of (2 ^ s) 0 e ≡ 1
    same q =
        let j : e - 64 ≡ s = omega arith in
        rw (le-ltb e 64 (omega arith), j) (has_two_same s)

    go : (e ≡ 64 + s → ⊥) → (64 ≤ e) ⊎ (e < 64) → bit_of (2 ^ s) 0 e ≡ 0
    go x (inl y) = rw (le-ltb e 64 y) (has_two_other s (e - 64) (λ z. x (omega arith)))
    go x (inr y) = rw (lt-ltb e 64 y) (has_zero e)

-- THE LOOP OVER THE LINKS ---------------------------------------------------------------------------------------------

-- the links that are not in the set
abbrev pub seen_links : ℕ → ℕ → Type 0
seen_links left e = (e < 64) × (has e left ≡ 0)

-- the links that are not busy have no share
pub best_first : (room count : List ℕ) (set den opens : ℕ) (D : ℕ → ℕ) → Busy set count
    → SmallestAmong (seen_links set) (room_of room den D) (count_of count opens) nothing
best_first room count set den opens D busy =
    best_sub (λ e. ⊥ ⊎ (count_of count opens e ≡ 0)) (seen_links set) _ _ nothing (λ e h. inr (rw (lt-ltb e 64 h.0) (busy e h.0 h.1)))
    (best_dead (λ e. ⊥) (room_of room den D) (count_of count opens) nothing (best_none (λ e. ⊥) _ _ (λ e h. h)))

pub best_link : (room count : List ℕ) (den opens : ℕ) (D : ℕ → ℕ) (left e v link : ℕ) (l r : Smallest) → e < 64 → v ≡ cut e left → link ≡ 2 ^ e
    → r ≡ smaller_of l (get_or room e 0) (get_or count e 0) 0 link
    → SmallestAmong (seen_links left) (room_of room den D) (count_of count opens) l → SmallestAmong (seen_links v) (room_of room den D) (count_of count opens) r
best_link room count den opens D left e v link l r h f g q b =
    subst (SmallestAmong (seen_links v) (room_of room den D) (count_of count opens))
    (rw (lt-ltb e 64 h) (sym (q ∙ ap (smaller_of l (get_or room e 0) (get_or count e 0) 0) g)))
    (best_sub (or_new (seen_links left) e) (seen_links v) _ _ _ (λ j m. seen j m (ℕ_discrete e j))
    (best_turn (seen_links left) (room_of room den D) (count_of count opens) l b e (omega arith) 0 (2 ^ e) (only_link e h)))
  where
    seen : (j : ℕ) → seen_links v j → Dec (e ≡ j) → or_new (seen_links left) e j
    seen j m (yes x) = inr (sym x)
    seen j m (no n) = inl (m.0, sym (has_cut_other e j left n) ∙ sym (ap (has j) f) ∙ m.1)

pub best_links : (R W : ℕ → ℕ) (left : ℕ) (l : Smallest) → left ≡ 0 → SmallestAmong (seen_links left) R W l → SmallestAmong (below 64) R W l
best_links R W left l z b = best_sub (seen_links left) (below 64) R W l (λ e h. (h, ap (has e) z ∙ has_zero e)) b

-- THE LOOP OVER THE OWN LIMITS ----------------------------------------------------------------------------------------

-- the links, and the own limits of the sessions that are not in the set
abbrev pub seen : ℕ → ℕ → Type 0
seen left e = (e < 64) ⊎ ((e < 96) × (has (e - 64) left ≡ 0))

-- the own limits of the sessions that are fixed have no share
pub best_start : (room count : List ℕ) (den opens : ℕ) (D : ℕ → ℕ) (l : Smallest) → SmallestAmong (below 64) (room_of room den D) (count_of count opens) l
    → SmallestAmong (seen opens) (room_of room den D) (count_of count opens) l
best_start room count den opens D l b = best_sub _ (seen opens) _ _ l (λ e. shut e) (best_dead (below 64) _ _ l b)
  where
    shut : (e : ℕ) → seen opens e → below 64 e ⊎ (count_of count opens e ≡ 0)
    shut e (inl h) = inl h
    shut e (inr h) = go (order 64 e)
      where
        go : (64 ≤ e) ⊎ (e < 64) → below 64 e ⊎ (count_of count opens e ≡ 0)
        go (inr l) = inl l
        go (inl l) = inr (rw (le-ltb e 64 l) h.1)

pub best_own : (room count : List ℕ) (den opens : ℕ) (D : ℕ → ℕ) (left s v own : ℕ) (l r : Smallest) → s < 32 → has s opens ≡ 1 → v ≡ cut s left → own ≡ 2 ^ s
    → r ≡ smaller_of l (den * D s) 1 own 0
    → SmallestAmong (seen left) (room_of room den D) (count_of count opens) l → SmallestAmong (seen v) (room_of room den D) (count_of count opens) r
best_own room count den opens D left s v own l r h t f g q b =
    subst (SmallestAmong (seen v) (room_of room den D) (count_of count opens))
    (ap₂ (λ (x y : ℕ). smaller_of l x y (2 ^ s) 0) room_is count_is ∙ ap (λ (y : ℕ). smaller_of l (den * D s) 1 y 0) (sym g) ∙ sym q)
    (best_sub (or_new (seen left) (64 + s)) (seen v) _ _ _ (λ e. new e)
    (best_turn (seen left) (room_of room den D) (count_of count opens) l b (64 + s) (omega arith) (2 ^ s) 0 (only_own s h)))
  where
    back : 64 + s - 64 ≡ s
    back = omega arith

    room_is : room_of room den D (64 + s) ≡ den * D s
    room_is = rw (le-ltb (64 + s) 64 (omega arith), back)

    count_is : count_of count opens (64 + s) ≡ 1
    count_is = rw (le-ltb (64 + s) 64 (omega arith), back) t

    new : (e : ℕ) → seen v e → or_new (seen left) (64 + s) e
    new e (inl m) = inl (inl m)
    new e (inr m) = go (order 64 e) (ℕ_discrete e (64 + s))
      where
        other : (64 ≤ e) → (s ≡ e - 64 → ⊥) → or_new (seen left) (64 + s) e
        other x n = inl (inr (m.0, sym (has_cut_other s (e - 64) left n) ∙ sym (ap (has (e - 64)) f) ∙ m.1))

        go : (64 ≤ e) ⊎ (e < 64) → Dec (e ≡ 64 + s) → or_new (seen left) (64 + s) e
        go (inr x) y = inl (inl x)
        go (inl x) (yes y) = inr y
        go (inl x) (no y) = other x (λ w. y (omega arith))

pub best_all : (R W : ℕ → ℕ) (left : ℕ) (l : Smallest) → left ≡ 0 → SmallestAmong (seen left) R W l → SmallestAmong (below 96) R W l
best_all R W left l z b =
    best_sub (seen left) (below 96) R W l (λ e h. inr (h, ap (has (e - 64)) z ∙ has_zero (e - 64))) b
