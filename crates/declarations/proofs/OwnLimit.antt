-- A session's own limit.
-- Assumes nothing.
use mathlib.Core.Bool.{Bool, cond, false, true}
use mathlib.Core.Path.{◌≡◌, refl}
use Prim.Native.Nat.{ℕ, ◌≤◌}
use native.Mathlib.Omega.{arith}
use borrow.Author.Tests.{leb-false, leb-true, ltb-false}
use lib.Dec.{eqb, leb}
use Rattle.records.specs.Limits.{above_line}
use Rattle.declarations.specs.Declaring.{own_limit_of}

-- it is at most the access rate
pub own_limit_le : (access maximum : ℕ) → own_limit_of access maximum ≤ access
unfolding own_limit_of
own_limit_le access maximum = go (eqb maximum 0) (leb access maximum) refl
  where
    go : (s t : Bool) → leb access maximum ≡ t → cond s access (cond t access maximum) ≤ access
    go true t e = omega arith
    go false true e = omega arith
    go false false e = omega (arith, leb-false access maximum e)

-- 02, §1: where the maximum is not above the line, it is the maximum, or the access rate where there is none
pub own_limit_below : (access maximum : ℕ) → above_line access maximum ≡ false → own_limit_of access maximum ≡ cond (eqb maximum 0) access maximum
unfolding own_limit_of
own_limit_below access maximum b = go (eqb maximum 0) (leb access maximum) refl
  where
    go : (s t : Bool) → leb access maximum ≡ t → cond s access (cond t access maximum) ≡ cond s access maximum
    go true t e = refl
    go false true e = omega (arith, leb-true access maximum e, ltb-false access maximum b)
    go false false e = refl
