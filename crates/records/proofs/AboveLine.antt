-- 02, §1: when a maximum is above the line.
-- Assumes nothing.
use mathlib.Core.Bool.{not, ◌&&◌}
use mathlib.Core.Path.{◌≡◌}
use Prim.Native.Nat.{ℕ, zero, suc}
use native.Mathlib.Omega.{arith}
use borrow.Author.Tests.{le-ltb, ne_eqb}
use lib.Dec.{eqb, ltb}
use Rattle.records.specs.Limits.{above_line}

-- "a nonzero maximum larger than the session's access rate"
pub above_line_says : (access maximum : ℕ) → above_line access maximum ≡ (not (eqb maximum 0) && ltb access maximum)
above_line_says access zero = le-ltb access 0 (omega arith)
above_line_says access (suc maximum) = rw (ne_eqb (suc maximum) 0 (λ e. omega (arith, e)))
