-- `table::put_link` meets its contract.
-- Assumes nothing.
use borrow.Author.Rules.{rules}
use Rattle.table.specs.Words.{put_link}
use Rattle.table.proofs.rows.put_link.Goals as goal

pub returns : goal.returns
unfolding put_link
returns c = search rules
