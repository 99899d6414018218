-- Rates within bounds: their products fit, the test of a rate is exact, and a sum is within the sum of the bounds.
-- Assumes nothing.
use mathlib.Core.Path.{◌≡◌, refl, sym, ap, ap₂, subst}
use mathlib.Core.Bool.{Bool, true, false, ◌&&◌}
use Prim.Native.Nat.{ℕ, ◌+◌, ◌*◌, ◌^◌, ◌≤◌, ◌<◌}
use native.Mathlib.Nat.{mul-le-mul, mul-le-mul_right, mul-pos, le_of_mul-le-mul_right}
use native.Mathlib.Omega.{arith}
use borrow.Author.Tests.{ltb-true, leb-true, leb-false, eqb-true, eq-eqb, lt-ltb, le-leb}
use lib.Dec.{eqb, leb, lit≤, ltb}
use Rattle.fractions.specs.Divisor.{IsGcd, gcd_of}
use Rattle.fractions.specs.Fraction.{Within, Sized, limit, max_den, max_rate, Lowest, frac, zero_of, whole_of, fine_of, add_of, plus_of, too_fine, same_of, is_rate_of, sized_of, kept_of}
use Rattle.std.specs.Prelude.{Ok, Err}
use Rattle.fractions.specs.declared.Rate.{Rate}
use Rattle.fractions.proofs.Cases.{and_both, cases, chose_first, chose_second}
use Rattle.fractions.proofs.Divisors.{gcd_is, gcd_unique}
use Rattle.fractions.proofs.Additions.{add_lowest}
use Rattle.fractions.proofs.LowestTerms.{lowest_pos, lowest_same, lowest_unique, whole_lowest}

-- a cross product of two rates is far below 2 ^ 64, and so is the sum of two
pub cross_fits : {a b : Rate} → Sized limit a → Sized limit b → a.num * b.den ≤ 2 ^ 62
cross_fits wa wb = omega (arith, mul-le-mul wa.num wb.den)

pub within_sized : {m : ℕ} {a : Rate} → Within m a → Sized m a
within_sized w = record { pos = w.lowest.pos; den = w.den; num = w.num }

pub sized_more : {m n : ℕ} {a : Rate} → m ≤ n → Sized m a → Sized n a
sized_more {m} {n} {a} h w =
    record { pos = w.pos; den = w.den; num = omega (arith, mul-le-mul_right a.den h, w.num) }

pub whole_sized : {m n : ℕ} → n ≤ m → Sized m (whole_of n)
whole_sized h = record { pos = lit≤ tt; den = lit≤ tt; num = omega arith }

-- whatever two numbers are kept, what they stand for is within the limits
pub kept_sized : (n d : ℕ) → Sized max_rate (kept_of n d)
unfolding kept_of sized_of
kept_sized n d =
    cases (Sized max_rate) (sized_of n d) (frac n d) zero_of
    (λ e.
    let p = and_both _ _ e in
    let q = and_both _ _ p.1 in
    record { pos = ltb-true _ _ p.0; den = leb-true _ _ q.0; num = leb-true _ _ q.1 })
    (λ e. whole_sized {m = max_rate} {n = 0} (lit≤ tt))

-- and of a rate within the limits they stand for it
pub kept_same : {a : Rate} → Sized max_rate a → kept_of a.num a.den ≡ a
unfolding kept_of sized_of
kept_same w = simp (lt-ltb _ _ w.pos, le-leb _ _ w.den, le-leb _ _ w.num)

-- the test of a rate: that of its size, then that of its lowest terms
pub is_rate_by_size : (a : Rate) → is_rate_of a ≡ (sized_of a.num a.den && eqb (gcd_of a.num a.den) 1)
unfolding is_rate_of sized_of
is_rate_by_size a = and_nested (ltb 0 a.den) (leb a.den max_den) (leb a.num (max_rate * a.den)) _
  where
    and_nested : (p q r s : Bool) → (p && (q && (r && s))) ≡ ((p && (q && r)) && s)
    and_nested true true r s = refl
    and_nested true false r s = refl
    and_nested false q r s = refl

pub within_lowest : {m : ℕ} {a : Rate} → Within m a → Lowest a
within_lowest w = w.lowest

pub within_more : {m n : ℕ} {a : Rate} → m ≤ n → Within m a → Within n a
within_more {m} {n} {a} h w =
    record { lowest = w.lowest; den = w.den; num = omega (arith, mul-le-mul_right a.den h, w.num) }

pub whole_within : {m n : ℕ} → n ≤ m → Within m (whole_of n)
whole_within {m} {n} h =
    record { lowest = whole_lowest n; den = lit≤ tt; num = omega arith }

-- a sum that comes back as a rate is the sum, and its denominator is within the limit
pub plus_rate : (a b : Rate) {s : Rate} → plus_of a b ≡ Ok s → (add_of a b ≡ s) × (s.den ≤ max_den)
unfolding plus_of
plus_rate a b {s} e =
    let p = chose_first (fine_of (add_of a b)) e (λ q. let z : ◌≡◌ {A = ℕ} 0 1 = cc in omega arith) in
    let q : add_of a b ≡ s = cc in
    (q, subst (λ (r : Rate). r.den ≤ max_den) q (leb-true _ _ p.0))

-- and one that does not is too fine
pub plus_too_fine : (a b : Rate) → plus_of a b ≡ Err too_fine → max_den < (add_of a b).den
unfolding plus_of
plus_too_fine a b e =
    leb-false _ _ (chose_second (Err too_fine) (fine_of (add_of a b)) e (λ q. let z : ◌≡◌ {A = ℕ} 0 1 = cc in omega arith))

-- a sum of values is no greater than the sum of their bounds
pub plus_sized : {m n : ℕ} {a b s : Rate} → Sized m a → Sized n b → plus_of a b ≡ Ok s → Sized (m + n) s
unfolding add_of
plus_sized {m} {n} {a} {b} {s} wa wb e =
    let f = plus_rate a b e in
    let hD = mul-pos wa.pos wb.pos in
    subst (Sized (m + n)) f.0
    (record {
      pos = lowest_pos _ _ hD;
      den = subst (λ (r : Rate). r.den ≤ max_den) (sym f.0) f.1;
      num =
          le_of_mul-le-mul_right {k = a.den * b.den}
          (omega (
            arith,
            (lowest_same (a.num * b.den + b.num * a.den) (a.den * b.den)).cross,
            mul-le-mul_right ((add_of a b).den * b.den) wa.num,
            mul-le-mul_right ((add_of a b).den * a.den) wb.num,
          ))
          hD;
    })

pub plus_within : {m n : ℕ} {a b s : Rate} → Within m a → Within n b → plus_of a b ≡ Ok s → Within (m + n) s
plus_within {m} {n} {a} {b} {s} wa wb e =
    let z = plus_sized (within_sized wa) (within_sized wb) e in
    record {
      lowest = subst Lowest (plus_rate a b e).0 (add_lowest a b wa.lowest.pos wb.lowest.pos);
      den = z.den;
      num = z.num;
    }

-- two rates are one exactly where the test of their values passes
pub true_same : {a b : Rate} → a ≡ b → same_of a b ≡ true
true_same {a} {b} e = eq-eqb _ _ (ap₂ ◌*◌ (ap (λ (r : Rate). r.num) e) (sym (ap (λ (r : Rate). r.den) e)))

pub same_true : {m n : ℕ} {a b : Rate} → Within m a → Within n b → same_of a b ≡ true → a ≡ b
same_true wa wb e = lowest_unique (within_lowest wa) (within_lowest wb) (record { cross = eqb-true _ _ e })

-- the test of a rate passes exactly where it is one
pub is_rate_within : {a : Rate} → is_rate_of a ≡ true → Within max_rate a
unfolding is_rate_of
is_rate_within {a} e =
    let p = and_both _ _ e in
    let q = and_both _ _ p.1 in
    let r = and_both _ _ q.1 in
    record {
      lowest =
          record {
            pos = ltb-true _ _ p.0;
            coprime = subst (IsGcd a.num a.den) (eqb-true _ _ r.1) (gcd_is a.num a.den);
          };
      den = leb-true _ _ q.0;
      num = leb-true _ _ r.0;
    }

pub within_is_rate : {a : Rate} → Within max_rate a → is_rate_of a ≡ true
unfolding is_rate_of
within_is_rate w =
    simp (lt-ltb _ _ w.lowest.pos, le-leb _ _ w.den, le-leb _ _ w.num, eq-eqb _ _ (sym (gcd_unique w.lowest.coprime)))
