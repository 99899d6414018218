-- Finitely many fractions have a common denominator, so every allocation in fractions can be written over one.
-- Assumes nothing.
use mathlib.Core.Bool.{cond}
use mathlib.Core.Logic.{◌⊎◌, inl, inr}
use mathlib.Core.Path.{◌≡◌, ap}
use Prim.Native.Nat.{ℕ, zero, suc, ◌*◌, ◌<◌}
use native.Mathlib.Nat.{mul-pos}
use native.Mathlib.Omega.{arith}
use lib.Dec.{ltb}
use borrow.Author.Tests.{le-ltb, lt-ltb}
use Rattle.fractions.specs.Fraction.{Same, frac}
use Rattle.fractions.specs.declared.Rate.{Rate}
use Rattle.fractions.proofs.Cases.{last}
use Rattle.fairness.proofs.Uniqueness.{Common}

-- positive numbers have a common multiple
pub common : (n : ℕ) (f : ℕ → ℕ) → ((s : ℕ) → s < n → 0 < f s) → Common (λ s. s < n) f
common zero f h = record { of = 1; times = λ s. 1; pos = omega arith; is = λ s l. absurd (omega arith) }
common (suc n) f h = next (common n f (λ s l. h s (omega arith)))
  where
    next : Common (λ s. s < n) f → Common (λ s. s < suc n) f
    next c =
        record {
          of = c.of * f n;
          times = λ s. cond (ltb s n) (c.times s * f n) c.of;
          pos = mul-pos c.pos (h n (omega arith));
          is = λ s l. go s (last l);
        }
      where
        go : (s : ℕ) → (s < n) ⊎ (s ≡ n) → cond (ltb s n) (c.times s * f n) c.of * f s ≡ c.of * f n
        go s (inl l) = rw (lt-ltb s n l) (omega (arith, ap (λ v. v * f n) (c.is s l)))
        go s (inr e) = rw (le-ltb s n (omega arith)) (ap (λ v. c.of * f v) e)

-- the rates r of n sessions, over one denominator
pub record Together (n : ℕ) (r : ℕ → Rate) : Type 0 where
  pub over : ℕ
  pub rates : ℕ → ℕ
  pub pos : 0 < over
  pub shown : (s : ℕ) → s < n → Same (r s) (frac (rates s) over)

pub together : (n : ℕ) (r : ℕ → Rate) → ((s : ℕ) → s < n → 0 < (r s).den) → Together n r
together n r h =
    let c = common n (λ s. (r s).den) h in
    record {
      over = c.of;
      rates = λ s. (r s).num * c.times s;
      pos = c.pos;
      shown = λ s l. record { cross = omega (arith, ap (λ v. (r s).num * v) (c.is s l)) };
    }
