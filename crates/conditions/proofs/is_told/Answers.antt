-- `conditions::is_told` meets its contract.
-- Assumes nothing.
use mathlib.Core.Path.{subst}
use Rattle.links.proofs.Sizes.{to_limit}
use Rattle.table.specs.Values.{ToldInRange}
use Rattle.conditions.proofs.is_told.Goals as goal

pub same-requires : goal.same-requires
same-requires c = (to_limit (subst ToldInRange c.in-Some.is c.requires.0), to_limit c.requires.1)

pub returns-in-Some : goal.returns-in-Some
returns-in-Some c = rw c.in-Some.is c.same.ensures
