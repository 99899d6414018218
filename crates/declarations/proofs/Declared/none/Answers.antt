-- `declarations::Declared::none` meets its contract.
-- Assumes nothing.
use Rattle.std.proofs.Common.{rules, refl}
use Rattle.declarations.specs.Declaring.{none_declared}
use Rattle.declarations.proofs.Declared.none.Goals as goal

pub returns : goal.returns
unfolding none_declared
returns c = refl
