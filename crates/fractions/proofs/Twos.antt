-- Factors of two: the odd part of a number, and what the counts of trailing zeros of x, of a | b and of x ^ y say. Follows 02, §4.
-- Assumes nothing.
use mathlib.Core.Logic.{◌⊎◌, inl, inr, ⊎_elim}
use mathlib.Core.Path.{◌≡◌, refl, sym, ap, ap₂, subst, ◌∙◌}
use Prim.Native.Nat.{ℕ, zero, suc, ◌-◌, ◌*◌, ◌/◌, ◌%◌, ◌^◌, ◌≤◌, ◌<◌, suc-le-suc}
use native.Mathlib.Nat.{div-one, div-div-eq-div-mul, mul-le-mul_right, pow-suc, pow-succ'}
use native.Mathlib.Omega.{arith}
use lib.Bits.{bit_or, bit_xor, and_le_r, or_add_and, or_lt, or_mod, xor_comm, xor_mod, xor_shr}
use lib.Count.{count_trailing_zeros}
use lib.Pow.{pow_pos}
use Rattle.fractions.specs.Divisor.{OddPart}

digit : (d : ℕ) → d < 2 → (d ≡ 0) ⊎ (d ≡ 1)
digit zero h = inl refl
digit (suc zero) h = inr refl
digit (suc (suc d)) h = absurd (omega arith)

pub even_or_odd : (x : ℕ) → (x % 2 ≡ 0) ⊎ (x % 2 ≡ 1)
even_or_odd x = digit (x % 2) (omega arith)

-- THE ODD PART --------------------------------------------------------------------------------------------------------

pub part_le : {x r : ℕ} → OddPart x r → r ≤ x
part_le {x} {r} p = omega (arith, mul-le-mul_right r (pow_pos p.twos), p.whole)

-- an odd number is its own odd part
part_odd : {x : ℕ} → x % 2 ≡ 1 → OddPart x x
part_odd e = record { twos = 0; odd = e; whole = omega arith }

-- and has no other
own_part : (t : ℕ) {x r : ℕ} → x % 2 ≡ 1 → 2 ^ t * r ≡ x → r ≡ x
own_part zero e w = omega arith
own_part (suc t) {x} {r} e w = absurd (omega (arith, w, ap (λ (n : ℕ). n * r) (pow-succ' 2 t)))

pub part_own : {x r : ℕ} → x % 2 ≡ 1 → OddPart x r → r ≡ x
part_own e p = own_part p.twos e p.whole

-- an even number has that of its half
part_even : {x r : ℕ} → x % 2 ≡ 0 → OddPart (x / 2) r → OddPart x r
part_even {x} {r} e p =
    record { twos = suc p.twos; odd = p.odd; whole = omega (arith, p.whole, ap (λ (n : ℕ). n * r) (pow-succ' 2 p.twos)) }

half_part : (t : ℕ) {x r : ℕ} → x % 2 ≡ 0 → r % 2 ≡ 1 → 2 ^ t * r ≡ x → OddPart (x / 2) r
half_part zero e o w = absurd (omega arith)
half_part (suc t) {x} {r} e o w =
    record { twos = t; odd = o; whole = omega (arith, w, ap (λ (n : ℕ). n * r) (pow-succ' 2 t)) }

pub part_half : {x r : ℕ} → x % 2 ≡ 0 → OddPart x r → OddPart (x / 2) r
part_half e p = half_part p.twos e p.odd p.whole

-- TRAILING ZEROS ------------------------------------------------------------------------------------------------------

-- a number that is not 0 has fewer than it has digits
pub trailing_lt : (k x : ℕ) → 0 < x → x < 2 ^ k → count_trailing_zeros k x < k
unfolding count_trailing_zeros
trailing_lt zero x p h = omega arith
trailing_lt (suc k) x p h =
    ⊎_elim
    (λ e. rw e (suc-le-suc (trailing_lt k (x / 2) (omega arith) (omega (arith, pow-suc 2 k)))))
    (λ e. rw e (omega arith))
    (even_or_odd x)

-- shifted by them, it is its odd part
pub trailing_part : (k x : ℕ) → 0 < x → x < 2 ^ k → OddPart x (x / 2 ^ count_trailing_zeros k x)
unfolding count_trailing_zeros
trailing_part zero x p h = absurd (omega arith)
trailing_part (suc k) x p h =
    ⊎_elim
    (λ e.
    let t = count_trailing_zeros k (x / 2) in
    let same : x / 2 / 2 ^ t ≡ x / 2 ^ suc t = div-div-eq-div-mul x 2 (2 ^ t) ∙ ap (λ (n : ℕ). x / n) (sym (pow-succ' 2 t)) in
    rw e (subst (OddPart x) same (part_even e (trailing_part k (x / 2) (omega arith) (omega (arith, pow-suc 2 k))))))
    (λ e. rw e (subst (OddPart x) (sym (div-one x)) (part_odd e)))
    (even_or_odd x)

-- of a | b: the lowest digit, and that they are fewer than 64
pub or_digit : (a b d e : ℕ) → a % 2 ≡ d → b % 2 ≡ e → bit_or a b % 2 ≡ bit_or d e
or_digit a b d e p q = or_mod a b 1 ∙ ap₂ bit_or p q

pub or_zeros : (a b : ℕ) → 0 < a → a < 2 ^ 64 → b < 2 ^ 64 → count_trailing_zeros 64 (bit_or a b) < 64
or_zeros a b p h l = trailing_lt 64 (bit_or a b) (omega (arith, or_add_and a b, and_le_r a b)) (or_lt 64 a b h l)

-- of two numbers with the same lowest digit
both_even : (k w v : ℕ) → w % 2 ≡ 0 → v % 2 ≡ 0 → count_trailing_zeros k (w / 2) ≡ count_trailing_zeros k (v / 2) → count_trailing_zeros (suc k) w ≡ count_trailing_zeros (suc k) v
unfolding count_trailing_zeros
both_even k w v e f ih = rw (e, f) (ap suc ih)

both_odd : (k w v : ℕ) → w % 2 ≡ 1 → v % 2 ≡ 1 → count_trailing_zeros (suc k) w ≡ count_trailing_zeros (suc k) v
unfolding count_trailing_zeros
both_odd k w v e f = rw (e, f)

xor_digit : (x y d e : ℕ) → x % 2 ≡ d → y % 2 ≡ e → bit_xor x y % 2 ≡ bit_xor d e
xor_digit x y d e p q = xor_mod x y 1 ∙ ap₂ bit_xor p q

-- of x ^ y: as many as the difference has
xor_sub : (k x y : ℕ) → y ≤ x → count_trailing_zeros k (bit_xor x y) ≡ count_trailing_zeros k (x - y)
unfolding count_trailing_zeros
xor_sub zero x y h = refl
xor_sub (suc k) x y h =
    let halves : x / 2 - y / 2 ≡ (x - y) / 2 → count_trailing_zeros k (bit_xor x y / 2) ≡ count_trailing_zeros k ((x - y) / 2) =
    λ r. ap (count_trailing_zeros k) (xor_shr x y 1) ∙ (xor_sub k (x / 2) (y / 2) (omega arith) ∙ ap (count_trailing_zeros k) r) in
    ⊎_elim
    (λ e.
    ⊎_elim
    (λ f. both_even k (bit_xor x y) (x - y) (xor_digit x y 0 0 e f) (omega arith) (halves (omega arith)))
    (λ f. both_odd k (bit_xor x y) (x - y) (xor_digit x y 0 1 e f) (omega arith))
    (even_or_odd y))
    (λ e.
    ⊎_elim
    (λ f. both_odd k (bit_xor x y) (x - y) (xor_digit x y 1 0 e f) (omega arith))
    (λ f. both_even k (bit_xor x y) (x - y) (xor_digit x y 1 1 e f) (omega arith) (halves (omega arith)))
    (even_or_odd y))
    (even_or_odd x)

-- so they are fewer than 64 where x is the larger, and where y is
pub above_zeros : (x y : ℕ) → y < x → x < 2 ^ 64 → count_trailing_zeros 64 (bit_xor x y) < 64
above_zeros x y h l = rw (xor_sub 64 x y (omega arith)) (trailing_lt 64 (x - y) (omega arith) (omega arith))

pub below_zeros : (x y : ℕ) → x < y → y < 2 ^ 64 → count_trailing_zeros 64 (bit_xor x y) < 64
below_zeros x y h l = rw (xor_comm x y) (above_zeros y x h l)

-- and the difference shifted by them is its odd part
pub above_part : (x y : ℕ) → y < x → x < 2 ^ 64 → OddPart (x - y) ((x - y) / 2 ^ count_trailing_zeros 64 (bit_xor x y))
above_part x y h l = rw (xor_sub 64 x y (omega arith)) (trailing_part 64 (x - y) (omega arith) (omega arith))

pub below_part : (x y : ℕ) → x < y → y < 2 ^ 64 → OddPart (y - x) ((y - x) / 2 ^ count_trailing_zeros 64 (bit_xor x y))
below_part x y h l = rw (xor_comm x y) (above_part y x h l)
