-- Lowest terms: every value has them, and has one; the denominator in lowest terms divides every denominator of the value.
-- Assumes nothing.
use mathlib.Core.Path.{◌≡◌, sym, ap, subst, ◌∙◌}
use Prim.Native.Nat.{ℕ, ◌*◌, ◌≤◌, ◌<◌, ◌∣◌}
use native.Mathlib.Nat.{div-mul_cancel, pos_of_dvd_of_pos, dvd-mul_right, dvd-mul_left, dvd_antisymm, mul-dvd-mul_right, dvd_of_mul-dvd-mul_right, eq_of_mul-eq-mul_right, le_of_dvd, one-dvd, one-mul}
use native.Mathlib.Omega.{arith}
use Rattle.fractions.specs.Divisor.{gcd_of}
use Rattle.fractions.specs.Fraction.{Lowest, Le, Same, frac, whole_of, lowest_of}
use Rattle.fractions.specs.declared.Rate.{Rate}
use Rattle.fractions.proofs.Divisors.{gcd_is, gcd_pos, euclid}
use Rattle.fractions.proofs.Order.{le_antisymm, same_sym, same_trans}

num_back : (n d : ℕ) → (lowest_of n d).num * gcd_of n d ≡ n
unfolding lowest_of
num_back n d = div-mul_cancel _ (gcd_is n d).left

den_back : (n d : ℕ) → (lowest_of n d).den * gcd_of n d ≡ d
unfolding lowest_of
den_back n d = div-mul_cancel _ (gcd_is n d).right

-- lowest terms keep the value
pub lowest_same : (n d : ℕ) → Same (lowest_of n d) (frac n d)
lowest_same n d =
    let l = lowest_of n d in
    record { cross = cc (num_back n d, den_back n d, swap l.num l.den (gcd_of n d)) }
  where
    swap : (x y g : ℕ) → x * (y * g) ≡ x * g * y
    swap x y g = omega arith

pub lowest_pos : (n d : ℕ) → 0 < d → 0 < (lowest_of n d).den
lowest_pos n d h = pos_of_dvd_of_pos (subst (λ (x : ℕ). (lowest_of n d).den ∣ x) (den_back n d) (dvd-mul_right _ _)) h

-- lowest_of gives lowest terms
pub lowest_lowest : (n d : ℕ) → 0 < d → Lowest (lowest_of n d)
lowest_lowest n d h =
    record {
      pos = lowest_pos n d h;
      coprime =
          record {
            left = one-dvd _;
            right = one-dvd _;
            greatest = λ k p q.
                dvd_of_mul-dvd-mul_right k {n = 1} (gcd_pos h (gcd_is n d))
                (subst (λ (x : ℕ). k * gcd_of n d ∣ x) (sym (one-mul _))
                ((gcd_is n d).greatest (k * gcd_of n d)
                (subst (λ (x : ℕ). k * gcd_of n d ∣ x) (num_back n d) (mul-dvd-mul_right k p (gcd_of n d)))
                (subst (λ (x : ℕ). k * gcd_of n d ∣ x) (den_back n d) (mul-dvd-mul_right k q (gcd_of n d)))));
          };
    }

-- the denominator in lowest terms divides every denominator of the value
pub den_divides : {a : Rate} (m e : ℕ) → Lowest a → Same a (frac m e) → a.den ∣ e
den_divides {a} m e l s =
    euclid e l.coprime (subst (λ (x : ℕ). a.den ∣ x) (sym s.cross) (dvd-mul_left a.den m))

-- so it is no greater
pub lowest_den : {a : Rate} (m e : ℕ) → 0 < e → Lowest a → Same a (frac m e) → a.den ≤ e
lowest_den m e pos l s = le_of_dvd pos (den_divides m e l s)

-- lowest terms are unique: two rates in lowest terms of one value have the same numerator and the same denominator
pub lowest_unique : {a b : Rate} → Lowest a → Lowest b → Same a b → a ≡ b
lowest_unique {a} {b} la lb e =
    let d : a.den ≡ b.den = dvd_antisymm (den_divides b.num b.den la e) (den_divides a.num a.den lb (same_sym e)) in
    let n : a.num ≡ b.num = eq_of_mul-eq-mul_right b.den lb.pos _ _ (e.cross ∙ ap (λ (x : ℕ). b.num * x) d) in
    λ i. record { num = n i; den = d i }

-- the order is antisymmetric on lowest terms
pub le_antisymm_lowest : {a b : Rate} → Lowest a → Lowest b → Le a b → Le b a → a ≡ b
le_antisymm_lowest la lb h k = lowest_unique la lb (le_antisymm h k)

-- lowest_of is settled by the value alone
pub lowest_cong : {n d m e : ℕ} → 0 < d → 0 < e → Same (frac n d) (frac m e) → lowest_of n d ≡ lowest_of m e
lowest_cong {n} {d} {m} {e} hd he p =
    lowest_unique (lowest_lowest n d hd) (lowest_lowest m e he)
    (same_trans hd (lowest_same n d) (same_trans he p (same_sym (lowest_same m e))))

-- a rate in lowest terms is its own
pub lowest_id : {a : Rate} → Lowest a → lowest_of a.num a.den ≡ a
lowest_id l = lowest_unique (lowest_lowest _ _ l.pos) l (lowest_same _ _)

-- a whole number is in lowest terms
pub whole_lowest : (n : ℕ) → Lowest (whole_of n)
whole_lowest n =
    record { pos = omega arith; coprime = record { left = one-dvd _; right = one-dvd _; greatest = λ d p q. q } }
