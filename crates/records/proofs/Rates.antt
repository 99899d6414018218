-- Rates in range, as refusal 5 tests them: 1 to 1,000,000.
-- Assumes nothing.
use mathlib.Core.Bool.{true}
use mathlib.Core.Path.{◌≡◌, refl}
use Prim.Native.Nat.{ℕ, ◌<◌, ◌≤◌}
use borrow.Author.Tests.{le-leb, leb-true, lt-ltb, ltb-true}
use lib.Dec.{leb, ltb}
use Rattle.fractions.proofs.Cases.{and_both}
use Rattle.records.specs.Format.{rate_ok}

pub rate_passes : (n : ℕ) → 0 < n → n ≤ 1000000 → rate_ok n ≡ true
rate_passes n a b = rw (lt-ltb 0 n a, le-leb n 1000000 b) refl

pub rate_is : (n : ℕ) → rate_ok n ≡ true → (0 < n) × (n ≤ 1000000)
rate_is n e = let b = and_both (ltb 0 n) (leb n 1000000) e in (ltb-true 0 n b.0, leb-true n 1000000 b.1)
