-- The greatest common divisor: the definition is one, and there is no other; that of a difference and of multiples; Euclid's lemma.
-- Assumes nothing.
use mathlib.Core.Path.{◌≡◌, sym, ap, subst, ◌∙◌}
use Prim.Native.Nat.{ℕ, zero, suc, ◌-◌, ◌*◌, ◌/◌, ◌%◌, ◌≤◌, ◌<◌, ◌∣◌}
use native.Mathlib.Nat.{mul-one, one-mul, mul_comm, mod-lt, div-add-mod', le_of_dvd, dvd_refl, dvd-zero, dvd-mul_right, dvd-mul_left_of_dvd, mul-dvd-mul_left, dvd-add_iff_right, dvd-sub, dvd-sub_iff_left, dvd-mod_iff, dvd_antisymm, pos_of_dvd_of_pos}
use native.Mathlib.Omega.{arith}
use Rattle.fractions.specs.Divisor.{IsGcd, gcd_in, gcd_of}

-- what divides b c and a c divides (a % b) c
rem_mul : (a b c d : ℕ) → d ∣ a * c → d ∣ b * c → d ∣ a % b * c
rem_mul a b c d p q =
    (dvd-add_iff_right d {m = a / b * (b * c)} {n = a % b * c} (dvd-mul_left_of_dvd d q (a / b))).1
    (subst (λ (n : ℕ). d ∣ n) (omega (arith, ap (λ (x : ℕ). x * c) (div-add-mod' a b))) p)

gcd_in_mul : (k a b c d : ℕ) → d ∣ a * c → d ∣ b * c → d ∣ gcd_in k a b * c
unfolding gcd_in
gcd_in_mul zero a b c d p q = p
gcd_in_mul (suc k) a zero c d p q = p
gcd_in_mul (suc k) a (suc b) c d p q = gcd_in_mul k (suc b) (a % suc b) c d q (rem_mul a (suc b) c d p q)

gcd_in_divides : (k a b : ℕ) → b ≤ k → (gcd_in k a b ∣ a) × (gcd_in k a b ∣ b)
unfolding gcd_in
gcd_in_divides zero a b h = (dvd_refl a, subst (λ (n : ℕ). a ∣ n) (omega arith) (dvd-zero a))
gcd_in_divides (suc k) a zero h = (dvd_refl a, dvd-zero a)
gcd_in_divides (suc k) a (suc b) h =
    let ih = gcd_in_divides k (suc b) (a % suc b) (omega (arith, mod-lt a {m = suc b} (omega arith))) in
    ((dvd-mod_iff _ ih.0).0 ih.1, ih.0)

-- what divides a c and b c divides gcd(a, b) c
gcd_mul : (a b c d : ℕ) → d ∣ a * c → d ∣ b * c → d ∣ gcd_of a b * c
unfolding gcd_of
gcd_mul a b c d p q = gcd_in_mul b a b c d p q

divides : (a b : ℕ) → (gcd_of a b ∣ a) × (gcd_of a b ∣ b)
unfolding gcd_of
divides a b = gcd_in_divides b a b (omega arith)

-- the definition gives the greatest common divisor
pub gcd_is : (a b : ℕ) → IsGcd a b (gcd_of a b)
gcd_is a b =
    record {
      left = (divides a b).0;
      right = (divides a b).1;
      greatest = λ d p q. rw mul-one at (gcd_mul a b 1 d (rw mul-one p) (rw mul-one q));
    }

-- there is no other
pub gcd_unique : {a b g : ℕ} → IsGcd a b g → g ≡ gcd_of a b
gcd_unique {a} {b} {g} i =
    dvd_antisymm ((gcd_is a b).greatest g i.left i.right) (i.greatest (gcd_of a b) (gcd_is a b).left (gcd_is a b).right)

-- nothing is left to divide by
pub gcd_end : {a b : ℕ} → b ≡ 0 → IsGcd a b a
gcd_end {a} {b} e =
    record { left = dvd_refl a; right = subst (λ (n : ℕ). a ∣ n) (sym e) (dvd-zero a); greatest = λ d p q. p }

-- the order does not count
pub gcd_swap : {a b g : ℕ} → IsGcd a b g → IsGcd b a g
gcd_swap i = record { left = i.right; right = i.left; greatest = λ d p q. i.greatest d q p }

-- one subtraction
pub gcd_sub : {a b g : ℕ} → b ≤ a → IsGcd (a - b) b g → IsGcd a b g
gcd_sub {a} {b} {g} h i =
    record {
      left = (dvd-sub_iff_left g h i.right).0 i.left;
      right = i.right;
      greatest = λ d p q. i.greatest d (dvd-sub d p q) q;
    }

-- of c times two numbers
pub gcd_times : {a b g : ℕ} (c : ℕ) → IsGcd a b g → IsGcd (c * a) (c * b) (c * g)
gcd_times {a} {b} {g} c i =
    record {
      left = mul-dvd-mul_left g c i.left;
      right = mul-dvd-mul_left g c i.right;
      greatest = λ d p q. rw (gcd_unique i, mul_comm c (gcd_of a b)) (gcd_mul a b c d (rw mul_comm p) (rw mul_comm q));
    }

-- a divisor of something above zero is above zero
pub gcd_pos : {a b g : ℕ} → 0 < b → IsGcd a b g → 0 < g
gcd_pos h i = pos_of_dvd_of_pos i.right h

-- and no greater
pub gcd_le : {a b g : ℕ} → 0 < b → IsGcd a b g → g ≤ b
gcd_le h i = le_of_dvd h i.right

-- Euclid's lemma: with no divisor in common with a, b divides c where it divides a c
pub euclid : {a b : ℕ} (c : ℕ) → IsGcd a b 1 → b ∣ a * c → b ∣ c
euclid {a} {b} c i p =
    subst (λ (n : ℕ). b ∣ n) (ap (λ (g : ℕ). g * c) (sym (gcd_unique i)) ∙ one-mul c)
    (gcd_mul a b c b p (dvd-mul_right b c))
