-- D is within the limits where the access rate is.
-- Assumes nothing.
use Prim.Native.Nat.{ℕ, ◌≤◌}
use native.Mathlib.Omega.{arith}
use Rattle.fractions.specs.Fraction.{Sized, max_rate, whole_of}
use Rattle.fractions.proofs.Ranges.{whole_sized}
use Rattle.declarations.specs.Declaring.{own_limit_of}
use Rattle.declarations.proofs.OwnLimit.{own_limit_le}

pub limit_sized : (access maximum : ℕ) → access ≤ max_rate → Sized max_rate (whole_of (own_limit_of access maximum))
limit_sized access maximum h = whole_sized (omega (arith, own_limit_le access maximum))
