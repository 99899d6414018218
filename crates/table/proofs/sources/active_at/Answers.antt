-- `table::active_at` meets its contract.
-- Assumes nothing.
use Rattle.table.specs.Words.{block_at, source_from, source_of}
use borrow.Author.Rules.{rules}
use Rattle.table.proofs.sources.active_at.Goals as goal

pub returns : goal.returns
unfolding source_of source_from block_at
returns c = search rules
