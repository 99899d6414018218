-- Rates that meet the conditions (c) and (d) of 01.
-- Assumes nothing.
use mathlib.Core.Bool.{Bool, cond, false, not, true}
use mathlib.Core.Logic.{◌⊎◌, inl, inr}
use mathlib.Core.Path.{◌≡◌, refl}
use Prim.Native.Nat.{ℕ, zero, suc, ◌*◌, ◌+◌, ◌≤◌, ◌<◌}
use native.Mathlib.Omega.{arith}
use lib.Dec.{T}
use Rattle.fairness.specs.MaxMin.{Problem}
use Rattle.fairness.specs.Settled.{SettledLink, SettledRates, size_r, sum_f}
use Rattle.fairness.specs.Sum.{sum}

-- P7 meets (c) and (d), with session 1 in R: rates 2 and 8 over 1
alone : ℕ → Bool
alone zero = false
alone (suc s) = true

abbrev p7 : Problem
p7 = record { links = 1; sessions = 2; capacity = λ e. 10; active = λ s. true; D = λ s. cond (alone s) 100 2; crosses = λ e s. true }

abbrev p7_rate : ℕ → ℕ
p7_rate s = cond (alone s) 8 2

p7_settled : SettledRates p7 1 p7_rate (λ e. alone)
unfolding alone size_r sum_f sum
p7_settled = record { pos = omega arith; links = λ e h. link e; restricted = λ s a. held s a.0; own = λ s a. own s a.0 }
  where
    equal : (s : ℕ) → T (alone s) → p7_rate s * 1 + 2 ≡ 10
    equal zero r = absurd r
    equal (suc s) r = refl

    below : (s : ℕ) → T (not (alone s)) → p7_rate s * 1 + 2 < 10
    below zero r = omega arith
    below (suc s) r = absurd r

    link : (e : ℕ) → SettledLink p7 1 p7_rate e alone
    link e = record { equal = λ s a c r. equal s r; below = λ s a c r p. below s r; empty = λ z. omega arith }

    held : (s : ℕ) → s < 2 → (p7_rate s ≡ 1 * p7.D s) ⊎ ((e : ℕ) × (e < 1) × T true × T (alone s))
    held zero h = inl refl
    held (suc s) h = inr (0, omega arith, tt, tt)

    own : (s : ℕ) → s < 2 → p7_rate s ≤ 1 * p7.D s
    own zero h = omega arith
    own (suc s) h = omega arith
