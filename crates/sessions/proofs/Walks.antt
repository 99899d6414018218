-- The members by rising number: the lowest is the count of trailing zeros, and one turn and the end of every loop over them.
-- Assumes nothing.
use mathlib.Core.List.{List, [], ◌∷◌}
use mathlib.Core.Logic.{◌⊎◌, ⊎_elim}
use mathlib.Core.Path.{◌≡◌, refl, sym, ap, ap₂, subst, ◌∙◌}
use Prim.Native.Nat.{ℕ, zero, suc, ◌+◌, ◌*◌, ◌/◌, ◌%◌, ◌^◌, ◌<◌, ◌≤◌, min, suc-le-suc}
use native.Mathlib.Nat.{pow-suc, add-zero, zero-add, add-mul, min-zero}
use native.Mathlib.Omega.{arith}
use lib.Count.{ones, ones_step, count_trailing_zeros}
use lib.ListN.{length}
use Rattle.std.specs.Prelude.{Some}
use Rattle.sessions.specs.Set.{GivesMember, has, cut, members_from, put, walk}
use Rattle.sessions.proofs.Members.{cut_lt, digit, has_high, put_new}
use Rattle.sessions.proofs.Counts.{ones_pos, ones_zero}

two : (w : ℕ) → (w % 2 ≡ 0) ⊎ (w % 2 ≡ 1)
two w = digit (w % 2) (omega arith)

-- THE LOWEST MEMBER ---------------------------------------------------------------------------------------------------

pub low_lt : (k w : ℕ) → 0 < w → w < 2 ^ k → count_trailing_zeros k w < k
unfolding count_trailing_zeros
low_lt zero w p h = omega arith
low_lt (suc k) w p h =
    ⊎_elim (λ e. rw e (suc-le-suc (low_lt k (w / 2) (omega arith) (omega (arith, pow-suc 2 k))))) (λ e. rw e (omega arith)) (two w)

-- nobody is below it
pub below_low : (k w t : ℕ) → t < count_trailing_zeros k w → has t w ≡ 0
unfolding has count_trailing_zeros
below_low zero w t h = omega arith
below_low (suc k) w zero h = ⊎_elim (λ e. e) (λ e. absurd (omega (arith, rw e at h))) (two w)
below_low (suc k) w (suc t) h =
    ⊎_elim (λ e. below_low k (w / 2) t (omega (arith, rw e at h))) (λ e. absurd (omega (arith, rw e at h))) (two w)

-- among more digits too
pub low_min : (j k w : ℕ) → k ≤ j → min (count_trailing_zeros j w) k ≡ count_trailing_zeros k w
unfolding count_trailing_zeros
low_min j zero w h = min-zero (count_trailing_zeros j w)
low_min zero (suc k) w h = absurd (omega arith)
low_min (suc j) (suc k) w h =
    ⊎_elim (λ e. rw e (omega (arith, low_min j k (w / 2) (omega arith)))) (λ e. rw e (omega arith)) (two w)

low_even : (k w : ℕ) → w % 2 ≡ 0 → count_trailing_zeros (suc k) w ≡ suc (count_trailing_zeros k (w / 2))
unfolding count_trailing_zeros
low_even k w e = rw e

low_odd : (k w : ℕ) → w % 2 ≡ 1 → count_trailing_zeros (suc k) w ≡ 0
unfolding count_trailing_zeros
low_odd k w e = rw e

-- it is a member, where there is one
pub first_has : (k w : ℕ) → count_trailing_zeros k w < k → has (count_trailing_zeros k w) w ≡ 1
unfolding has
first_has zero w h = absurd (omega arith)
first_has (suc k) w h =
    ⊎_elim (λ e. rw (low_even k w e) (first_has k (w / 2) (omega (arith, h, low_even k w e)))) (λ e. rw (low_odd k w e) e) (two w)

pub low_has : (k w : ℕ) → 0 < w → w < 2 ^ k → has (count_trailing_zeros k w) w ≡ 1
low_has k w p h = first_has k w (low_lt k w p h)

-- a set that is not empty has a size
pub ones_some : (k w : ℕ) → 0 < w → w < 2 ^ k → 0 < ones w
ones_some k w p h = ones_pos (count_trailing_zeros k w) w (low_has k w p h)

-- at most all digits are 0
pub low_le : (k w : ℕ) → count_trailing_zeros k w ≤ k
unfolding count_trailing_zeros
low_le zero w = omega arith
low_le (suc k) w = ⊎_elim (λ e. rw e (omega (arith, low_le k (w / 2)))) (λ e. rw e (omega arith)) (two w)

-- THE MEMBERS AS A LIST -----------------------------------------------------------------------------------------------

members_zero : (k b : ℕ) → members_from k b 0 ≡ []
unfolding members_from
members_zero zero b = refl
members_zero (suc k) b = members_zero k (suc b)

pub members_even : (k b w v : ℕ) → w % 2 ≡ 0 → w / 2 ≡ v → members_from (suc k) b w ≡ members_from k (suc b) v
unfolding members_from
members_even k b w v e f = rw (e, f)

pub members_odd : (k b w v : ℕ) → w % 2 ≡ 1 → w / 2 ≡ v → members_from (suc k) b w ≡ b ∷ members_from k (suc b) v
unfolding members_from
members_odd k b w v e f = rw (e, f)

-- the lowest comes first, then the members of what is left
pub members_first : (k b w : ℕ) → count_trailing_zeros k w < k
    → members_from k b w ≡ (b + count_trailing_zeros k w) ∷ members_from k b (cut (count_trailing_zeros k w) w)
unfolding cut
members_first zero b w h = absurd (omega arith)
members_first (suc k) b w h =
    ⊎_elim
    (λ e.
    let t = count_trailing_zeros k (w / 2) in
    let j : suc b + t ≡ b + suc t = omega arith in
    let f : (cut t (w / 2) * 2 + w % 2) % 2 ≡ 0 = omega arith in
    let q : (cut t (w / 2) * 2 + w % 2) / 2 ≡ cut t (w / 2) = omega arith in
    members_even k b w (w / 2) e refl
    ∙ members_first k (suc b) (w / 2) (omega (arith, h, low_even k w e))
    ∙ rw (low_even k w e)
    (ap₂ (λ (x : ℕ) (l : List ℕ). x ∷ l) j
    (sym (members_even k b (cut t (w / 2) * 2 + w % 2) (cut t (w / 2)) f q))))
    (λ e.
    members_odd k b w (w / 2) e refl
    ∙ rw (low_odd k w e)
    (ap₂ (λ (x : ℕ) (l : List ℕ). x ∷ l) (sym (add-zero b))
    (sym (members_even k b (w / 2 * 2) (w / 2) (omega arith) (omega arith)))))
    (two w)

-- so it is of every set that is not empty
pub members_low : (k b w : ℕ) → 0 < w → w < 2 ^ k
    → members_from k b w ≡ (b + count_trailing_zeros k w) ∷ members_from k b (cut (count_trailing_zeros k w) w)
members_low k b w p h = members_first k b w (low_lt k w p h)

-- so the lowest comes, and the word without it is left
pub gives_member : (k w s v : ℕ) → s < k → s ≡ count_trailing_zeros k w → v ≡ cut s w → GivesMember k w (Some s) v
gives_member k w s v h e f =
    let l : count_trailing_zeros k w < k = omega (arith, h, e) in (
      members_first k 0 w l ∙ rw (f, e, zero-add),
      h,
      rw e (first_has k w l),
      f,
    )

-- and where all digits are 0, there is none
pub members_none : (k b w : ℕ) → count_trailing_zeros k w ≡ k → members_from k b w ≡ []
unfolding members_from
members_none zero b w h = refl
members_none (suc k) b w h =
    ⊎_elim (λ e. rw e (members_none k (suc b) (w / 2) (omega (arith, h, low_even k w e)))) (λ e. absurd (omega (arith, h, low_odd k w e))) (two w)

-- where the list is empty nobody is a member
pub nobody_has : (k b w s : ℕ) → members_from k b w ≡ [] → s < k → has s w ≡ 0
unfolding has
nobody_has zero b w s e h = absurd (omega arith)
nobody_has (suc k) b w zero e h =
    ⊎_elim (λ z. z) (λ o. absurd (let f : b ∷ members_from k (suc b) (w / 2) ≡ [] = sym (members_odd k b w (w / 2) o refl) ∙ e in cc)) (two w)
nobody_has (suc k) b w (suc s) e h =
    ⊎_elim (λ z. nobody_has k (suc b) (w / 2) s (sym (members_even k b w (w / 2) z refl) ∙ e) (omega arith))
    (λ o. absurd (let f : b ∷ members_from k (suc b) (w / 2) ≡ [] = sym (members_odd k b w (w / 2) o refl) ∙ e in cc)) (two w)

-- put together again they make the word
pub members_make : (k b w a : ℕ) → w < 2 ^ k → walk (λ x s. x + 2 ^ s) a (members_from k b w) ≡ a + w * 2 ^ b
unfolding members_from walk
members_make zero b w a h = let z : w ≡ 0 = omega arith in rw z (omega arith)
members_make (suc k) b w a h =
    ⊎_elim
    (λ e. rw e (members_make k (suc b) (w / 2) a (omega (arith, pow-suc 2 k)) ∙ omega (arith, pow-suc 2 b, halves w b, ap (λ (x : ℕ). x * 2 ^ b) e)))
    (λ e. rw e (members_make k (suc b) (w / 2) (a + 2 ^ b) (omega (arith, pow-suc 2 k)) ∙ omega (arith, pow-suc 2 b, halves w b, ap (λ (x : ℕ). x * 2 ^ b) e)))
    (two w)
  where
    halves : (w b : ℕ) → w * 2 ^ b ≡ w / 2 * 2 ^ suc b + w % 2 * 2 ^ b
    halves w b =
        let e : w ≡ w / 2 * 2 + w % 2 = omega arith in
        ap (λ (x : ℕ). x * 2 ^ b) e ∙ (add-mul (w / 2 * 2) (w % 2) (2 ^ b) ∙ omega (arith, ap (λ (x : ℕ). w / 2 * x) (pow-suc 2 b)))

-- members that are put one after the other, each above those before it
put_each : (k b w a : ℕ) → a < 2 ^ b → walk (λ x s. put s x) a (members_from k b w) ≡ walk (λ x s. x + 2 ^ s) a (members_from k b w)
unfolding members_from walk
put_each zero b w a h = refl
put_each (suc k) b w a h =
    ⊎_elim
    (λ e. rw e (put_each k (suc b) (w / 2) a (omega (arith, pow-suc 2 b))))
    (λ e.
    let l = members_from k (suc b) (w / 2) in
    rw (members_odd k b w (w / 2) e refl)
    (subst (λ (n : ℕ). walk (λ x s. put s x) n l ≡ walk (λ x s. x + 2 ^ s) (a + 2 ^ b) l) (sym (put_new b a (has_high b b a h (omega arith))))
    (put_each k (suc b) (w / 2) (a + 2 ^ b) (omega (arith, pow-suc 2 b)))))
    (two w)

pub members_put : (k w : ℕ) → w < 2 ^ k → walk (λ x s. put s x) 0 (members_from k 0 w) ≡ w
members_put k w h = put_each k 0 w 0 (omega arith) ∙ members_make k 0 w 0 h ∙ omega arith

-- as many as the count of ones
pub members_length : (k b w : ℕ) → w < 2 ^ k → length (members_from k b w) ≡ ones w
unfolding members_from
members_length zero b w h = sym (ap ones {x = w} {y = 0} (omega arith) ∙ ones_zero)
members_length (suc k) b w h =
    ⊎_elim
    (λ e. rw e (omega (arith, members_length k (suc b) (w / 2) (omega (arith, pow-suc 2 k)), ones_step w)))
    (λ e. rw e (omega (arith, members_length k (suc b) (w / 2) (omega (arith, pow-suc 2 k)), ones_step w)))
    (two w)

-- A LOOP OVER THE MEMBERS ---------------------------------------------------------------------------------------------

-- s is the next member of w, and v is what is then left: it is below k, less is left, and the list goes on with the members of v
module _ (k w s : ℕ) (p : 0 < w) (h : w < 2 ^ k) (e : s ≡ count_trailing_zeros k w) where
  pub next_below : s < k
  next_below = rw e (low_lt k w p h)

  pub next_has : has s w ≡ 1
  next_has = rw e (low_has k w p h)

  -- nobody is below it
  pub next_first : (t : ℕ) → t < s → has t w ≡ 0
  next_first t l = below_low k w t (rw e at l)

  pub next_less : (v : ℕ) → v ≡ cut s w → v < w
  next_less v f = rw (f, e) (cut_lt (count_trailing_zeros k w) w (low_has k w p h))

  pub next_members : (v : ℕ) → v ≡ cut s w → members_from k 0 w ≡ s ∷ members_from k 0 v
  next_members v f = members_first k 0 w (low_lt k w p h) ∙ rw (f, e, zero-add)

pub no_members : (k w : ℕ) → w ≡ 0 → members_from k 0 w ≡ []
no_members k w e = rw (e, members_zero k 0)

-- one turn, and the end, of any loop over the members of a word
module _ {S : Type 0} (step : S → ℕ → S) (k : ℕ) where
  pub walk_turn : (a x : S) (w s v : ℕ) → 0 < w → w < 2 ^ k → s ≡ count_trailing_zeros k w → v ≡ cut s w → x ≡ step a s
      → walk step a (members_from k 0 w) ≡ walk step x (members_from k 0 v)
  unfolding walk
  walk_turn a x w s v p h e f g = rw (next_members k w s p h e v f, g)

  pub walk_end : (a : S) (w : ℕ) → w ≡ 0 → walk step a (members_from k 0 w) ≡ a
  unfolding walk
  walk_end a w e = rw (no_members k w e)

-- two loops whose steps agree on the members come to the same
module _ {S : Type 0} (f g : S → ℕ → S) where
  walk_nothing : (b w : ℕ) (a : S) → walk f a (members_from 0 b w) ≡ walk g a (members_from 0 b w)
  unfolding walk members_from
  walk_nothing b w a = refl

  walk_cong_from : (k b w : ℕ) → ((j : ℕ) → j < k → has j w ≡ 1 → (a : S) → f a (b + j) ≡ g a (b + j)) → (a : S)
      → walk f a (members_from k b w) ≡ walk g a (members_from k b w)
  unfolding walk has
  walk_cong_from zero b w h a = walk_nothing b w a
  walk_cong_from (suc k) b w h a =
      let more : (j : ℕ) → j < k → has j (w / 2) ≡ 1 → (a : S) → f a (suc b + j) ≡ g a (suc b + j) =
      λ j l m a. subst (λ (n : ℕ). f a n ≡ g a n) (omega arith) (h (suc j) (omega arith) m a) in
      ⊎_elim
      (λ e. rw (members_even k b w (w / 2) e refl) (walk_cong_from k (suc b) (w / 2) more a))
      (λ e.
      let here : f a b ≡ g a b = subst (λ (n : ℕ). f a n ≡ g a n) (omega arith) (h 0 (omega arith) e a) in
      let l = members_from k (suc b) (w / 2) in
      rw (members_odd k b w (w / 2) e refl)
      (subst (λ (x : S). walk f x l ≡ walk g (g a b) l) (sym here) (walk_cong_from k (suc b) (w / 2) more (g a b))))
      (two w)

  pub walk_cong : (k w : ℕ) → ((j : ℕ) → j < k → has j w ≡ 1 → (a : S) → f a j ≡ g a j) → (a : S)
      → walk f a (members_from k 0 w) ≡ walk g a (members_from k 0 w)
  walk_cong k w h a = walk_cong_from k 0 w (λ j l m a. subst (λ (n : ℕ). f a n ≡ g a n) (omega arith) (h j l m a)) a

-- what the steps of the members keep, a loop keeps; what the step of one member makes and every step keeps, it makes
module _ {S : Type 0} (P : S → Type 0) (step : S → ℕ → S) where
  walk_keeps_from : (k b w : ℕ) → ((a : S) (j : ℕ) → j < k → has j w ≡ 1 → P a → P (step a (b + j))) → (a : S) → P a
      → P (walk step a (members_from k b w))
  unfolding walk members_from has
  walk_keeps_from zero b w h a p = p
  walk_keeps_from (suc k) b w h a p =
      let more : (a : S) (j : ℕ) → j < k → has j (w / 2) ≡ 1 → P a → P (step a (suc b + j)) =
      λ a j l m q. subst (λ (n : ℕ). P (step a n)) (omega arith) (h a (suc j) (omega arith) m q) in
      ⊎_elim
      (λ e. rw (members_even k b w (w / 2) e refl) (walk_keeps_from k (suc b) (w / 2) more a p))
      (λ e.
      rw (members_odd k b w (w / 2) e refl)
      (walk_keeps_from k (suc b) (w / 2) more (step a b) (subst (λ (n : ℕ). P (step a n)) (omega arith) (h a 0 (omega arith) e p))))
      (two w)

  pub walk_keeps_at : (k w : ℕ) → ((a : S) (j : ℕ) → j < k → has j w ≡ 1 → P a → P (step a j)) → (a : S) → P a → P (walk step a (members_from k 0 w))
  walk_keeps_at k w h a p = walk_keeps_from k 0 w (λ a j l m q. subst (λ (n : ℕ). P (step a n)) (omega arith) (h a j l m q)) a p

  pub walk_keeps : (k w : ℕ) → ((a : S) (j : ℕ) → j < k → P a → P (step a j)) → (a : S) → P a → P (walk step a (members_from k 0 w))
  walk_keeps k w h a p = walk_keeps_at k w (λ a j l m q. h a j l q) a p

  walk_makes_from : (k b w t : ℕ) → t < k → has t w ≡ 1 → ((a : S) → P (step a (b + t))) → ((a : S) (j : ℕ) → j < k → P a → P (step a (b + j)))
      → (a : S) → P (walk step a (members_from k b w))
  unfolding walk has
  walk_makes_from zero b w t l m f h a = absurd (omega arith)
  walk_makes_from (suc k) b w zero l m f h a =
      rw (members_odd k b w (w / 2) m refl)
      (walk_keeps_from k (suc b) (w / 2) (λ a j i o q. subst (λ (n : ℕ). P (step a n)) (omega arith) (h a (suc j) (omega arith) q)) (step a b)
      (subst (λ (n : ℕ). P (step a n)) (omega arith) (f a)))
  walk_makes_from (suc k) b w (suc t) l m f h a =
      let later : (a : S) → P (walk step a (members_from k (suc b) (w / 2))) =
      walk_makes_from k (suc b) (w / 2) t (omega arith) m (λ a. subst (λ (n : ℕ). P (step a n)) (omega arith) (f a))
      (λ a j i q. subst (λ (n : ℕ). P (step a n)) (omega arith) (h a (suc j) (omega arith) q)) in
      ⊎_elim (λ e. rw (members_even k b w (w / 2) e refl) (later a)) (λ e. rw (members_odd k b w (w / 2) e refl) (later (step a b))) (two w)

  pub walk_makes : (k w t : ℕ) → t < k → has t w ≡ 1 → ((a : S) → P (step a t)) → ((a : S) (j : ℕ) → j < k → P a → P (step a j))
      → (a : S) → P (walk step a (members_from k 0 w))
  walk_makes k w t l m f h =
      walk_makes_from k 0 w t l m (λ a. subst (λ (n : ℕ). P (step a n)) (omega arith) (f a))
      (λ a j i q. subst (λ (n : ℕ). P (step a n)) (omega arith) (h a j i q))
