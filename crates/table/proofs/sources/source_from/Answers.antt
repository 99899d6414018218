-- `table::source_from` meets its contract.
-- Assumes nothing.
use Rattle.table.specs.Words.{source_from}
use Rattle.table.proofs.sources.source_from.Goals as goal

pub returns : goal.returns
unfolding source_from
returns c = rw (c.field-access.ensures.0, c.field-maximum.ensures.0, c.mu_of-mu.ensures, c.kept-rate.ensures, c.told_of-told.ensures)
