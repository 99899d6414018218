-- `table::put_count` meets its contract.
-- Assumes nothing.
use borrow.Author.Rules.{rules}
use Rattle.table.specs.Words.{put_count}
use Rattle.table.proofs.listed.put_count.Goals as goal

pub returns : goal.returns
unfolding put_count
returns c = search rules
