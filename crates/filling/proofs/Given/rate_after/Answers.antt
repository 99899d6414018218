-- `filling::Given::rate_after` meets its contract.
-- Assumes nothing.
use mathlib.Core.Path.{sym}
use Rattle.filling.specs.OneRound.{rate_after}
use Rattle.filling.proofs.Given.rate_after.Goals as goal

pub returns-then-has : goal.returns-then-has
unfolding rate_after
returns-then-has c = simp (sym c.has.ensures, c.if-has.true)

pub returns : goal.returns
unfolding rate_after
returns c = simp (sym c.has.ensures, c.if-has.false)
