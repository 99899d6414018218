-- `fractions::Rate::kept` meets its contract: one of the two, by the test.
-- Assumes nothing.
use mathlib.Core.Path.{sym, ◌∙◌}
use Rattle.fractions.specs.Fraction.{kept_of}
use Rattle.fractions.proofs.Rate.kept.Goals as goal

pub returns-then-is_sized : goal.returns-then-is_sized
unfolding kept_of
returns-then-is_sized c = rw (sym c.is_sized.ensures ∙ c.if-is_sized.true)

pub returns-else-is_sized : goal.returns-else-is_sized
unfolding kept_of
returns-else-is_sized c = rw (sym c.is_sized.ensures ∙ c.if-is_sized.false)
