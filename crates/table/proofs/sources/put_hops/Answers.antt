-- `table::put_hops` meets its contract.
-- Assumes nothing.
use borrow.Author.Rules.{rules}
use Rattle.table.specs.Words.{put_hops}
use Rattle.table.proofs.sources.put_hops.Goals as goal

pub returns : goal.returns
unfolding put_hops
returns c = search rules
