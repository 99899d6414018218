-- `calculation::is_bottleneck` meets its contract.
-- Assumes nothing.
use borrow.Author.Tests.{eq-eqb, le-ltb, lt-ltb, ne_eqb}
use mathlib.Core.Path.{refl}
use native.Mathlib.Omega.{arith}
use Rattle.calculation.proofs.is_bottleneck.Goals as goal

pub returns-then-e-ge64 : goal.returns-then-e-ge64
returns-then-e-ge64 c = simp (le-ltb _ _ c.if-e-ge64.true)

pub bounds-z-z : goal.bounds-z-z
bounds-z-z c = c.requires c.args.e (omega arith)

pub returns-then-z-i-eq0 : goal.returns-then-z-i-eq0
returns-then-z-i-eq0 c = simp (lt-ltb _ _ c.if-e-ge64.false, eq-eqb _ _ c.if-z-i-eq0.true) refl

pub returns-else-z-i-eq0 : goal.returns-else-z-i-eq0
returns-else-z-i-eq0 c = simp (lt-ltb _ _ c.if-e-ge64.false, ne_eqb _ _ c.if-z-i-eq0.false)
