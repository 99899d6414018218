-- Members: who is one after `put` and `cut`, how large the words get, and that the members make the word.
-- Assumes nothing.
use mathlib.Core.Bool.{Bool, false, true}
use mathlib.Core.Logic.{◌⊎◌, inl, inr}
use mathlib.Core.Path.{◌≡◌, refl, ap, sym, ◌∙◌}
use Prim.Native.Nat.{ℕ, zero, suc, ◌+◌, ◌*◌, ◌/◌, ◌%◌, ◌^◌, ◌≤◌, ◌<◌}
use native.Mathlib.Decide.{ℕ_discrete}
use native.Mathlib.Nat.{pow-suc}
use native.Mathlib.Omega.{arith}
use borrow.Author.Tests.{eqb-false, eqb-true}
use lib.Dec.{eqb}
use Rattle.sessions.specs.Set.{cut, has, has_of, put}

-- a digit is 0 or 1
pub has_lt : (s w : ℕ) → has s w < 2
unfolding has
has_lt zero w = omega arith
has_lt (suc s) w = has_lt s (w / 2)

pub digit : (d : ℕ) → d < 2 → (d ≡ 0) ⊎ (d ≡ 1)
digit zero h = inl refl
digit (suc zero) h = inr refl
digit (suc (suc d)) h = absurd (omega arith)

-- a session is a member or it is not
pub has_or_not : (s w : ℕ) → (has s w ≡ 0) ⊎ (has s w ≡ 1)
has_or_not s w = digit (has s w) (has_lt s w)

-- as the test says
pub is_in : (w s : ℕ) → has_of s w ≡ true → has s w ≡ 1
is_in w s e = eqb-true (has s w) 1 e

pub is_out : (w s : ℕ) → has_of s w ≡ false → has s w ≡ 0
is_out w s e = go (has_or_not s w)
  where
    go : (has s w ≡ 0) ⊎ (has s w ≡ 1) → has s w ≡ 0
    go (inl h) = h
    go (inr h) = absurd (eqb-false (has s w) 1 e h)

-- and back
pub in_is : (w s : ℕ) → has s w ≡ 1 → has_of s w ≡ true
in_is w s e = ap (λ (d : ℕ). eqb d 1) e

pub out_is : (w s : ℕ) → has s w ≡ 0 → has_of s w ≡ false
out_is w s e = ap (λ (d : ℕ). eqb d 1) e

-- a member up to b is below b, where b is none
pub member_below : (w b s : ℕ) → has_of b w ≡ false → s < suc b → has s w ≡ 1 → s < b
member_below w b s e h m = go (ℕ_discrete s b)
  where
    go : Dec (s ≡ b) → s < b
    go (yes q) = absurd (omega (arith, m, ap (λ (y : ℕ). has y w) q, is_out w b e))
    go (no n) = omega arith

-- the empty set has no member
pub has_zero : (s : ℕ) → has s 0 ≡ 0
unfolding has
has_zero zero = refl
has_zero (suc s) = has_zero s

-- a set with a member is not empty
pub has_pos : (s w : ℕ) → has s w ≡ 1 → 0 < w
unfolding has
has_pos zero w h = omega arith
has_pos (suc s) w h = omega (arith, has_pos s (w / 2) h)

-- no digit past the width
pub has_high : (k s w : ℕ) → w < 2 ^ k → k ≤ s → has s w ≡ 0
unfolding has
has_high zero s w h l = ap (has s) {x = w} {y = 0} (omega arith) ∙ has_zero s
has_high (suc k) zero w h l = absurd (omega arith)
has_high (suc k) (suc s) w h l = has_high k s (w / 2) (omega (arith, pow-suc 2 k)) (omega arith)

-- halves of words that were put together digit by digit
half : (x d : ℕ) → d < 2 → (x * 2 + d) / 2 ≡ x
half x d h = omega arith

pub has_put_same : (s w : ℕ) → has s (put s w) ≡ 1
unfolding has put
has_put_same zero w = omega arith
has_put_same (suc s) w = ap (has s) (half (put s (w / 2)) (w % 2) (omega arith)) ∙ has_put_same s (w / 2)

pub has_put_other : (s t w : ℕ) → (s ≡ t → ⊥) → has t (put s w) ≡ has t w
unfolding has put
has_put_other zero zero w n = absurd (n refl)
has_put_other zero (suc t) w n = ap (has t) (half (w / 2) 1 (omega arith))
has_put_other (suc s) zero w n = omega arith
has_put_other (suc s) (suc t) w n =
    ap (has t) (half (put s (w / 2)) (w % 2) (omega arith)) ∙ has_put_other s t (w / 2) (λ e. n (ap suc e))

-- the test of a set with s more, by the test of the set
pub put_is : (s t w : ℕ) (b : Bool) → (s ≡ t → b ≡ true) → ((s ≡ t → ⊥) → has_of t w ≡ b) → has_of t (put s w) ≡ b
put_is s t w b new old = go (ℕ_discrete s t)
  where
    go : Dec (s ≡ t) → has_of t (put s w) ≡ b
    go (yes e) = in_is (put s w) t (ap (λ (y : ℕ). has y (put s w)) (sym e) ∙ has_put_same s w) ∙ sym (new e)
    go (no n) = ap (λ (d : ℕ). eqb d 1) (has_put_other s t w n) ∙ old n

-- a new member adds its digit
pub put_new : (s w : ℕ) → has s w ≡ 0 → put s w ≡ w + 2 ^ s
unfolding has put
put_new zero w h = omega arith
put_new (suc s) w h = omega (arith, put_new s (w / 2) h, pow-suc 2 s)

-- a member put twice
pub put_put : (s w : ℕ) → put s (put s w) ≡ put s w
unfolding put
put_put zero w = omega arith
put_put (suc s) w =
    let h : (put s (w / 2) * 2 + w % 2) / 2 ≡ put s (w / 2) = omega arith in
    let m : (put s (w / 2) * 2 + w % 2) % 2 ≡ w % 2 = omega arith in
    rw (h, m, put_put s (w / 2)) refl

pub has_cut_same : (s w : ℕ) → has s (cut s w) ≡ 0
unfolding has cut
has_cut_same zero w = omega arith
has_cut_same (suc s) w = ap (has s) (half (cut s (w / 2)) (w % 2) (omega arith)) ∙ has_cut_same s (w / 2)

pub has_cut_other : (s t w : ℕ) → (s ≡ t → ⊥) → has t (cut s w) ≡ has t w
unfolding has cut
has_cut_other zero zero w n = absurd (n refl)
has_cut_other zero (suc t) w n = ap (has t) {x = w / 2 * 2 / 2} {y = w / 2} (omega arith)
has_cut_other (suc s) zero w n = omega arith
has_cut_other (suc s) (suc t) w n =
    ap (has t) (half (cut s (w / 2)) (w % 2) (omega arith)) ∙ has_cut_other s t (w / 2) (λ e. n (ap suc e))

-- nobody joins by a cut
pub has_cut_le : (t s w : ℕ) → has t (cut s w) ≤ has t w
unfolding has cut
has_cut_le zero zero w = omega arith
has_cut_le (suc t) zero w = omega (arith, ap (has t) {x = w / 2 * 2 / 2} {y = w / 2} (omega arith))
has_cut_le zero (suc s) w = omega arith
has_cut_le (suc t) (suc s) w = omega (arith, ap (has t) (half (cut s (w / 2)) (w % 2) (omega arith)), has_cut_le t s (w / 2))

pub cut_le : (s w : ℕ) → cut s w ≤ w
unfolding cut
cut_le zero w = omega arith
cut_le (suc s) w = omega (arith, cut_le s (w / 2))

pub cut_lt : (s w : ℕ) → has s w ≡ 1 → cut s w < w
unfolding cut has
cut_lt zero w h = omega arith
cut_lt (suc s) w h = omega (arith, cut_lt s (w / 2) h)

pub put_lt : (k s w : ℕ) → s < k → w < 2 ^ k → put s w < 2 ^ k
unfolding put
put_lt zero s w h l = omega arith
put_lt (suc k) zero w h l = omega (arith, pow-suc 2 k)
put_lt (suc k) (suc s) w h l = omega (arith, pow-suc 2 k, put_lt k s (w / 2) (omega arith) (omega (arith, pow-suc 2 k)))

-- two words with the same members are one
pub same_members : (k w v : ℕ) → w < 2 ^ k → v < 2 ^ k → ((s : ℕ) → s < k → has s w ≡ has s v) → w ≡ v
unfolding has
same_members zero w v hw hv e = omega arith
same_members (suc k) w v hw hv e =
    omega (
      arith,
      e 0 (omega arith),
      same_members k (w / 2) (v / 2) (omega (arith, pow-suc 2 k)) (omega (arith, pow-suc 2 k)) (λ s l. e (suc s) (omega arith)),
    )

-- a word without members is 0
pub nobody : (k w : ℕ) → w < 2 ^ k → ((s : ℕ) → s < k → has_of s w ≡ false) → w ≡ 0
nobody k w h f = same_members k w 0 h (omega (arith, h)) (λ s l. is_out w s (f s l) ∙ sym (has_zero s))
