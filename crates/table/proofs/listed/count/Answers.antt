-- `table::count` meets its contract.
-- Assumes nothing.
use Rattle.table.specs.Words.{count_of}
use Rattle.table.proofs.listed.count.Goals as goal

pub returns : goal.returns
unfolding count_of
returns c = c.field-n.ensures.0
