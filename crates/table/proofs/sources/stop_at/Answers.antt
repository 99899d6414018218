-- `table::stop_at` meets its contract.
-- Assumes nothing.
use Rattle.table.specs.Words.{stop_of}
use Rattle.table.proofs.sources.stop_at.Goals as goal

pub returns : goal.returns
unfolding stop_of
returns c = c.field-e.ensures.0
