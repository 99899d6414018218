-- The order of rates by value: reflexive, transitive, total, and antisymmetric up to the value.
-- Assumes nothing.
use mathlib.Core.Path.{◌≡◌, ap}
use mathlib.Core.Logic.{◌⊎◌, inl, inr}
use mathlib.Core.Bool.{true, false}
use Prim.Native.Nat.{ℕ, ◌*◌, ◌<◌}
use native.Mathlib.Nat.{mul-le-mul_right, mul-lt-mul_of_pos_right, le_of_mul-le-mul_right, lt_of_mul-lt-mul_right, eq_of_mul-eq-mul_right}
use native.Mathlib.Decide.{dec_le}
use native.Mathlib.Omega.{arith}
use borrow.Author.Tests.{leb-true, leb-false, le-leb, lt-leb, ltb-true, ltb-false, lt-ltb, le-ltb}
use Rattle.fractions.specs.Fraction.{Same, Le, Lt, le_of, lt_of}
use Rattle.fractions.specs.declared.Rate.{Rate}

pub le_refl : (a : Rate) → Le a a
le_refl a = omega arith

pub le_trans : {a b c : Rate} → 0 < b.den → Le a b → Le b c → Le a c
le_trans {a} {b} {c} pos h k =
    record {
      cross =
          le_of_mul-le-mul_right {k = b.den}
          (omega (arith, mul-le-mul_right c.den h.cross, mul-le-mul_right a.den k.cross))
          pos;
    }

pub le_total : (a b : Rate) → Le a b ⊎ Le b a
le_total a b =
    elim (dec_le (a.num * b.den) (b.num * a.den)) [
      | yes h ↦ inl (record { cross = h })
      | no h ↦ inr (record { cross = omega arith })
    ]

-- no greater either way: the same value, and so, in lowest terms, the same rate (`lowest_unique`)
pub le_antisymm : {a b : Rate} → Le a b → Le b a → Same a b
le_antisymm h k = omega arith

pub le_of_same : {a b : Rate} → Same a b → Le a b
le_of_same e = omega arith

pub le_of_lt : {a b : Rate} → Lt a b → Le a b
le_of_lt h = omega arith

pub lt_le_trans : {a b c : Rate} → 0 < c.den → Lt a b → Le b c → Lt a c
lt_le_trans {a} {b} {c} pos h k =
    record {
      cross =
          lt_of_mul-lt-mul_right b.den
          (omega (arith, mul-lt-mul_of_pos_right h.cross pos, mul-le-mul_right a.den k.cross));
    }

pub le_lt_trans : {a b c : Rate} → 0 < a.den → Le a b → Lt b c → Lt a c
le_lt_trans {a} {b} {c} pos h k =
    record {
      cross =
          lt_of_mul-lt-mul_right b.den
          (omega (arith, mul-le-mul_right c.den h.cross, mul-lt-mul_of_pos_right k.cross pos));
    }

pub same_sym : {a b : Rate} → Same a b → Same b a
same_sym e = omega arith

pub same_trans : {a b c : Rate} → 0 < b.den → Same a b → Same b c → Same a c
same_trans {a} {b} {c} pos h k =
    record {
      cross =
          eq_of_mul-eq-mul_right b.den pos _ _
          (omega (arith, ap (λ (x : ℕ). x * c.den) h.cross, ap (λ (x : ℕ). x * a.den) k.cross));
    }

-- the tests, as facts
pub le_true : {a b : Rate} → le_of a b ≡ true → Le a b
le_true e = record { cross = leb-true _ _ e }

pub le_false : {a b : Rate} → le_of a b ≡ false → Lt b a
le_false e = record { cross = leb-false _ _ e }

pub true_le : {a b : Rate} → Le a b → le_of a b ≡ true
true_le h = le-leb _ _ h.cross

pub false_le : {a b : Rate} → Lt b a → le_of a b ≡ false
false_le h = lt-leb _ _ h.cross

pub lt_true : {a b : Rate} → lt_of a b ≡ true → Lt a b
lt_true e = record { cross = ltb-true _ _ e }

pub lt_false : {a b : Rate} → lt_of a b ≡ false → Le b a
lt_false e = record { cross = ltb-false _ _ e }

pub true_lt : {a b : Rate} → Lt a b → lt_of a b ≡ true
true_lt h = lt-ltb _ _ h.cross

pub false_lt : {a b : Rate} → Le b a → lt_of a b ≡ false
false_lt h = le-ltb _ _ h.cross
