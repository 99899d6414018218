-- `table::hops_at` meets its contract.
-- Assumes nothing.
use Rattle.table.specs.Words.{hops_of}
use Rattle.table.proofs.sources.hops_at.Goals as goal

pub returns : goal.returns
unfolding hops_of
returns c = c.field-n.ensures.0
