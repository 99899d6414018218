-- `table::clear` meets its contract.
-- Assumes nothing.
use mathlib.Core.Path.{refl}
use Rattle.table.specs.Words.{empty_words}
use Rattle.table.proofs.clear.Goals as goal

pub returns : goal.returns
unfolding empty_words
returns c = refl
