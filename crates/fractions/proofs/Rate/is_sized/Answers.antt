-- `fractions::Rate::is_sized` meets its contract: the tests are the definition's.
-- Assumes nothing.
use Rattle.std.proofs.Common.{arith}
use Rattle.std.proofs.lemmas.Grind.{common_steps}
use Rattle.fractions.specs.Fraction.{sized_of}
use Rattle.fractions.proofs.Rate.is_sized.Goals as goal

pub returns-then-self-le-MAX_DEN : goal.returns-then-self-le-MAX_DEN
unfolding sized_of
returns-then-self-le-MAX_DEN c = grind (arith, common_steps)

pub returns-else-self-le-MAX_DEN : goal.returns-else-self-le-MAX_DEN
unfolding sized_of
returns-else-self-le-MAX_DEN c = grind (arith, common_steps)
