-- What stripping factors of two and subtracting do to a greatest common divisor, and so to the loop of 02, §4.
-- Assumes nothing.
use mathlib.Core.Logic.{◌⊎◌, inl, inr, ⊎_elim}
use mathlib.Core.Path.{◌≡◌, sym, ap, subst, ◌∙◌}
use Prim.Native.Nat.{ℕ, zero, suc, ◌+◌, ◌-◌, ◌*◌, ◌/◌, ◌%◌, ◌^◌, ◌<◌, ◌∣◌}
use native.Mathlib.Nat.{mul_comm, mod-eq_of_lt, div-add-mod', pow-suc, pow-succ', one-dvd, dvd_refl, dvd_trans, dvd-mul_left_of_dvd, dvd-add_iff_right}
use native.Mathlib.Omega.{arith}
use lib.Bits.{bit_or, bit_xor, or_shr}
use lib.Count.{count_trailing_zeros}
use Rattle.fractions.specs.Divisor.{IsGcd, OddPart}
use Rattle.fractions.proofs.Divisors.{gcd_le, gcd_swap, gcd_sub, gcd_times, euclid}
use Rattle.fractions.proofs.Twos.{even_or_odd, part_le, part_own, part_half, or_digit, above_part, below_part}

-- BESIDE AN ODD NUMBER ------------------------------------------------------------------------------------------------

-- a divisor of an odd number has no factor 2
odd_coprime : {b d : ℕ} → b % 2 ≡ 1 → d ∣ b → IsGcd 2 d 1
odd_coprime {b} {d} o p =
    record {
      left = one-dvd 2;
      right = one-dvd d;
      greatest = λ e u v.
          (dvd-add_iff_right e {m = b / 2 * 2} {n = 1} (dvd-mul_left_of_dvd e u (b / 2))).1
          (subst (λ (n : ℕ). e ∣ n) (sym (div-add-mod' b 2) ∙ ap (λ (n : ℕ). b / 2 * 2 + n) o) (dvd_trans e v p));
    }

-- one even, one odd: the factor 2 does not count
pub gcd_even : {a b g : ℕ} → b % 2 ≡ 1 → IsGcd a b g → IsGcd (2 * a) b g
gcd_even {a} {b} {g} o i =
    record {
      left = dvd-mul_left_of_dvd g i.left 2;
      right = i.right;
      greatest = λ d p q. i.greatest d (euclid a (odd_coprime o q) p) q;
    }

-- the same, from the even number to its half
pub gcd_half : {a b g : ℕ} → b % 2 ≡ 1 → IsGcd (2 * a) b g → IsGcd a b g
gcd_half {a} {b} {g} o i =
    record {
      left = euclid a (odd_coprime o i.right) i.left;
      right = i.right;
      greatest = λ d p q. i.greatest d (dvd-mul_left_of_dvd d p 2) q;
    }

gcd_twos : (t a b g : ℕ) → b % 2 ≡ 1 → IsGcd a b g → IsGcd (2 ^ t * a) b g
gcd_twos zero a b g o i = subst (λ (n : ℕ). IsGcd n b g) (omega arith) i
gcd_twos (suc t) a b g o i =
    subst (λ (n : ℕ). IsGcd n b g) (omega (arith, ap (λ (n : ℕ). n * a) (pow-succ' 2 t))) (gcd_even o (gcd_twos t a b g o i))

-- so an odd part may stand for its number
pub gcd_part : {x y z g : ℕ} → y % 2 ≡ 1 → OddPart x z → IsGcd z y g → IsGcd x y g
gcd_part {x} {y} {z} {g} o p i = subst (λ (n : ℕ). IsGcd n y g) p.whole (gcd_twos p.twos z y g o i)

-- THE COMMON FACTORS OF TWO -------------------------------------------------------------------------------------------

same_gcd : {a b g c d h : ℕ} → a ≡ c → b ≡ d → g ≡ h → IsGcd a b g → IsGcd c d h
same_gcd p q r i = rw (sym p, sym q, sym r) i

-- by the lowest digit: none, or one more than the half has
odd_none : (k w g : ℕ) → w % 2 ≡ 1 → g ≡ 2 ^ count_trailing_zeros (suc k) w * g
unfolding count_trailing_zeros
odd_none k w g e = rw e (omega arith)

even_one : (k w v g : ℕ) → w % 2 ≡ 0 → w / 2 ≡ v → 2 * (2 ^ count_trailing_zeros k v * g) ≡ 2 ^ count_trailing_zeros (suc k) w * g
unfolding count_trailing_zeros
even_one k w v g e f = rw (e, f) (omega (arith, ap (λ (n : ℕ). n * g) (pow-succ' 2 (count_trailing_zeros k v))))

-- they are the trailing zeros of a | b
or_part : (k a b y g : ℕ) → 0 < b → b < 2 ^ k → OddPart b y → IsGcd a y g → IsGcd a b (2 ^ count_trailing_zeros k (bit_or a b) * g)
or_part zero a b y g h l p i = absurd (omega arith)
or_part (suc k) a b y g h l p i =
    ⊎_elim
    (λ e.
    ⊎_elim
    (λ f.
    let j : IsGcd (a / 2) y g = gcd_half p.odd (subst (λ (n : ℕ). IsGcd n y g) (omega arith) i) in
    let halves = or_part k (a / 2) (b / 2) y g (omega arith) (omega (arith, pow-suc 2 k)) (part_half f p) j in
    same_gcd (omega arith) (omega arith)
    (even_one k (bit_or a b) (bit_or (a / 2) (b / 2)) g (or_digit a b 0 0 e f) (or_shr a b 1))
    (gcd_times 2 halves))
    (λ f.
    subst (IsGcd a b) (odd_none k (bit_or a b) g (or_digit a b 0 1 e f))
    (subst (λ (n : ℕ). IsGcd a n g) (part_own f p) i))
    (even_or_odd b))
    (λ e.
    let o : bit_or a b % 2 ≡ 1 = ⊎_elim (λ f. or_digit a b 1 0 e f) (λ f. or_digit a b 1 1 e f) (even_or_odd b) in
    subst (IsGcd a b) (odd_none k (bit_or a b) g o) (gcd_swap (gcd_part e p (gcd_swap i))))
    (even_or_odd a)

-- THE LOOP ------------------------------------------------------------------------------------------------------------

-- what is left to do gives the answer: two odd numbers, whose divisor times the common factors of two is that of a and b
pub record Leads (a b twos x y : ℕ) : Type 0 where
  pub left : x % 2 ≡ 1
  pub right : y % 2 ≡ 1
  pub left_fits : x < 2 ^ 64
  pub right_fits : y < 2 ^ 64
  pub back : {g : ℕ} → IsGcd x y g → IsGcd a b (2 ^ twos * g)

-- the loop begins with both odd parts
pub leads_start : (a b x y : ℕ) → a < 2 ^ 64 → 0 < b → b < 2 ^ 64 → OddPart a x → OddPart b y → Leads a b (count_trailing_zeros 64 (bit_or a b)) x y
leads_start a b x y m h l p q =
    record {
      left = p.odd;
      right = q.odd;
      left_fits = omega (arith, part_le p);
      right_fits = omega (arith, part_le q);
      back = λ {g} i. or_part 64 a b y g h l q (gcd_part q.odd p i);
    }

-- a turn where x is below y
pub leads_below : {a b twos x y : ℕ} → Leads a b twos x y → x < y → Leads a b twos ((y - x) / 2 ^ count_trailing_zeros 64 (bit_xor x y)) x
leads_below {a} {b} {twos} {x} {y} s h =
    let p = below_part x y h s.right_fits in
    record {
      left = p.odd;
      right = s.left;
      left_fits = omega (arith, part_le p, s.right_fits);
      right_fits = s.left_fits;
      back = λ {g} i. s.back (gcd_swap (gcd_sub (omega (arith, h)) (gcd_part s.left p i)));
    }

-- and where it is above
pub leads_above : {a b twos x y : ℕ} → Leads a b twos x y → y < x → Leads a b twos ((x - y) / 2 ^ count_trailing_zeros 64 (bit_xor x y)) y
leads_above {a} {b} {twos} {x} {y} s h =
    let p = above_part x y h s.left_fits in
    record {
      left = p.odd;
      right = s.right;
      left_fits = omega (arith, part_le p, s.left_fits);
      right_fits = s.right_fits;
      back = λ {g} i. s.back (gcd_sub (omega (arith, h)) (gcd_part s.right p i));
    }

-- of equal numbers, and beside 1
gcd_last : {x y : ℕ} → (x ≡ y) ⊎ (y ≡ 1) → IsGcd x y y
gcd_last {x} {y} (inl e) =
    record { left = subst (λ (n : ℕ). y ∣ n) (sym e) (dvd_refl y); right = dvd_refl y; greatest = λ d p q. q }
gcd_last {x} {y} (inr e) =
    record { left = subst (λ (n : ℕ). n ∣ x) (sym e) (one-dvd x); right = dvd_refl y; greatest = λ d p q. q }

-- the end: the numbers are equal, or y is 1. With the common factors of two y divides b, so the shift loses nothing
pub leads_end : {a b twos x y : ℕ} → 0 < b → b < 2 ^ 64 → Leads a b twos x y → (x ≡ y) ⊎ (y ≡ 1) → IsGcd a b (y * 2 ^ twos % 2 ^ 64)
leads_end {a} {b} {twos} {x} {y} h l s e =
    let i : IsGcd a b (2 ^ twos * y) = s.back (gcd_last e) in
    let fits : y * 2 ^ twos < 2 ^ 64 = omega (arith, gcd_le h i) in
    subst (IsGcd a b) (mul_comm (2 ^ twos) y ∙ sym (mod-eq_of_lt fits)) i
