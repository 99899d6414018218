-- What the operations on words do to the members: `|`, `&`, `!`, `<<` and `>>`.
-- Assumes nothing.
use mathlib.Core.Bool.{Bool, false, not, true, ◌&&◌, ◌||◌}
use mathlib.Core.Logic.{◌⊎◌, inl, inr}
use mathlib.Core.Path.{◌≡◌, refl, sym, ap, ap₂, ◌∙◌}
use Prim.Native.Nat.{ℕ, zero, suc, ◌+◌, ◌-◌, ◌*◌, ◌/◌, ◌%◌, ◌^◌, ◌<◌, min, max}
use native.Mathlib.Nat.{pow-suc, one-mul, max-zero, min-zero, max-eq_right, min-eq_left, min-le_left, mod-eq_of_lt, div-div-eq-div-mul}
use native.Mathlib.Omega.{arith}
use lib.Bits.{bit_and, bit_or, and_step, and_le_l, or_step, or_shr, or_zero_l, or_zero_r, and_mask, and_shr}
use lib.Count.{ones}
use lib.Dec.{eqb}
use lib.Pow.{pow_pos, pow-lt, shl_exact}
use Rattle.sessions.specs.Set.{has, has_of, put, cut}
use Rattle.sessions.proofs.Members.{has_or_not, has_put_same, has_put_other, has_zero, nobody}
use Rattle.sessions.proofs.Counts.{ones_put, ones_zero}

-- `1 << s` in a word of k digits
pub shl_one : (k s : ℕ) → s < k → (1 * 2 ^ s) % 2 ^ k ≡ 2 ^ s
shl_one k s h = shl_exact {a = 1} 1 s k (omega arith) (omega arith) ∙ one-mul (2 ^ s)

-- `(w >> s) % 2`
pub has_shr : (s w : ℕ) → w / 2 ^ s % 2 ≡ has s w
unfolding has
has_shr zero w = omega arith
has_shr (suc s) w =
    ap (λ (x : ℕ). x % 2) (ap (λ (x : ℕ). w / x) (pow-suc 2 s ∙ omega arith) ∙ sym (div-div-eq-div-mul w 2 (2 ^ s)))
    ∙ has_shr s (w / 2)

-- `w | (1 << s)`
pub or_put : (s w : ℕ) → bit_or w (2 ^ s) ≡ put s w
unfolding put
or_put zero w = or_step w 1 ∙ ap₂ (λ (x y : ℕ). x * 2 + y) (or_zero_r (w / 2)) (max-eq_right {n = w % 2} {m = 1} (omega arith))
or_put (suc s) w =
    let e : 2 ^ suc s / 2 ≡ 2 ^ s = omega (arith, pow-suc 2 s) in
    let f : 2 ^ suc s % 2 ≡ 0 = omega (arith, pow-suc 2 s) in
    or_step w (2 ^ suc s) ∙ rw (e, f, max-zero, or_put s (w / 2))

-- `w & !(1 << s)`: the mask is all digits but s
pub and_cut : (k s w : ℕ) → s < k → w < 2 ^ k → bit_and w ((2 ^ k - 1) - 2 ^ s) ≡ cut s w
unfolding cut
and_cut zero s w h l = absurd (omega arith)
and_cut (suc k) zero w h l =
    let e : ((2 ^ suc k - 1) - 1) / 2 ≡ 2 ^ k - 1 = omega (arith, pow-suc 2 k, pow_pos k) in
    let f : ((2 ^ suc k - 1) - 1) % 2 ≡ 0 = omega (arith, pow-suc 2 k, pow_pos k) in
    let g : w / 2 < 2 ^ k = omega (arith, pow-suc 2 k) in
    and_step w ((2 ^ suc k - 1) - 1) ∙ rw (e, f, and_mask, min-zero, mod-eq_of_lt g) (omega arith)
and_cut (suc k) (suc s) w h l =
    let p : 2 ^ s < 2 ^ k = pow-lt (omega arith) in
    let e : ((2 ^ suc k - 1) - 2 ^ suc s) / 2 ≡ (2 ^ k - 1) - 2 ^ s = omega (arith, pow-suc 2 k, pow-suc 2 s) in
    let f : ((2 ^ suc k - 1) - 2 ^ suc s) % 2 ≡ 1 = omega (arith, pow-suc 2 k, pow-suc 2 s) in
    let m : min (w % 2) 1 ≡ w % 2 = min-eq_left (omega arith) in
    and_step w ((2 ^ suc k - 1) - 2 ^ suc s) ∙ rw (e, f, m, and_cut k s (w / 2) (omega arith) (omega (arith, pow-suc 2 k)))

-- members of both
pub has_and : (s a b : ℕ) → has s (bit_and a b) ≡ min (has s a) (has s b)
unfolding has
has_and zero a b = ap (λ (x : ℕ). x % 2) (and_step a b) ∙ lowest (bit_and (a / 2) (b / 2)) (min (a % 2) (b % 2)) (min_lt a b)
  where
    min_lt : (a b : ℕ) → min (a % 2) (b % 2) < 2
    min_lt a b = omega (arith, min-le_left (a % 2) (b % 2))

    lowest : (x d : ℕ) → d < 2 → (x * 2 + d) % 2 ≡ d
    lowest x d h = omega arith
has_and (suc s) a b = ap (has s) (and_shr a b 1) ∙ has_and s (a / 2) (b / 2)

-- members of one or the other
pub has_or : (s a b : ℕ) → has s (bit_or a b) ≡ max (has s a) (has s b)
unfolding has
has_or zero a b = ap (λ (x : ℕ). x % 2) (or_step a b) ∙ lowest (bit_or (a / 2) (b / 2)) (a % 2) (b % 2) (omega arith) (omega arith)
  where
    lowest : (x d e : ℕ) → d < 2 → e < 2 → (x * 2 + max d e) % 2 ≡ max d e
    lowest x d e h k = omega arith
has_or (suc s) a b = ap (has s) (or_shr a b 1) ∙ has_or s (a / 2) (b / 2)

-- a member of either word, and of both
either : (a b : ℕ) → (a ≡ 0) ⊎ (a ≡ 1) → (b ≡ 0) ⊎ (b ≡ 1) → eqb (max a b) 1 ≡ (eqb a 1 || eqb b 1)
either a b (inl x) (inl y) = rw (x, y)
either a b (inl x) (inr y) = rw (x, y)
either a b (inr x) (inl y) = rw (x, y)
either a b (inr x) (inr y) = rw (x, y)

both : (a b : ℕ) → (a ≡ 0) ⊎ (a ≡ 1) → (b ≡ 0) ⊎ (b ≡ 1) → eqb (min a b) 1 ≡ (eqb a 1 && eqb b 1)
both a b (inl x) (inl y) = rw (x, y)
both a b (inl x) (inr y) = rw (x, y)
both a b (inr x) (inl y) = rw (x, y)
both a b (inr x) (inr y) = rw (x, y)

pub in_either : (s a b : ℕ) → has_of s (bit_or a b) ≡ (has_of s a || has_of s b)
in_either s a b = ap (λ (d : ℕ). eqb d 1) (has_or s a b) ∙ either (has s a) (has s b) (has_or_not s a) (has_or_not s b)

pub in_both : (s a b : ℕ) → has_of s (bit_and a b) ≡ (has_of s a && has_of s b)
in_both s a b = ap (λ (d : ℕ). eqb d 1) (has_and s a b) ∙ both (has s a) (has s b) (has_or_not s a) (has_or_not s b)

-- two words have no member in common exactly where the word of those in both is 0
pub apart_each : (a b : ℕ) → bit_and a b ≡ 0 → (s : ℕ) → not (has_of s a && has_of s b) ≡ true
apart_each a b h s = ap not (sym (in_both s a b) ∙ ap (λ (w : ℕ). has_of s w) h ∙ ap (λ (d : ℕ). eqb d 1) (has_zero s))

pub word_apart : (k a b : ℕ) → a < 2 ^ k → ((s : ℕ) → s < k → not (has_of s a && has_of s b) ≡ true) → bit_and a b ≡ 0
word_apart k a b h f = nobody k (bit_and a b) (omega (arith, and_le_l a b, h)) (λ s l. in_both s a b ∙ not_both (has_of s a && has_of s b) (f s l))
  where
    not_both : (t : Bool) → not t ≡ true → t ≡ false
    not_both true e = sym e
    not_both false e = refl

-- `!b`: the complement within k digits
pub has_not : (k s b : ℕ) → s < k → b < 2 ^ k → has s ((2 ^ k - 1) - b) ≡ 1 - has s b
unfolding has
has_not zero s b h l = absurd (omega arith)
has_not (suc k) zero b h l = omega (arith, pow-suc 2 k, pow_pos k)
has_not (suc k) (suc s) b h l =
    ap (has s) {x = ((2 ^ suc k - 1) - b) / 2} {y = (2 ^ k - 1) - b / 2} (omega (arith, pow-suc 2 k, pow_pos k))
    ∙ has_not k s (b / 2) (omega arith) (omega (arith, pow-suc 2 k))

-- `w & !b`
pub has_without : (k s w b : ℕ) → s < k → b < 2 ^ k → has s (bit_and w ((2 ^ k - 1) - b)) ≡ min (has s w) (1 - has s b)
has_without k s w b h l = has_and s w ((2 ^ k - 1) - b) ∙ ap (λ (v : ℕ). min (has s w) v) (has_not k s b h l)

-- the set of one session is the empty set with it
two_put : (s : ℕ) → 2 ^ s ≡ put s 0
two_put s = sym (or_zero_l (2 ^ s)) ∙ or_put s 0

pub has_two_same : (s : ℕ) → has s (2 ^ s) ≡ 1
has_two_same s = ap (has s) (two_put s) ∙ has_put_same s 0

pub has_two_other : (s t : ℕ) → (s ≡ t → ⊥) → has t (2 ^ s) ≡ 0
has_two_other s t n = ap (has t) (two_put s) ∙ has_put_other s t 0 n ∙ has_zero t

pub ones_two : (s : ℕ) → ones (2 ^ s) ≡ 1
ones_two s = ap ones (two_put s) ∙ ones_put s 0 (has_zero s) ∙ omega (arith, ones_zero)
