-- `table::put_rates` meets its contract.
-- Assumes nothing.
use borrow.Author.Rules.{rules}
use Rattle.table.specs.Words.{put_rates}
use Rattle.table.proofs.sources.put_rates.Goals as goal

pub returns : goal.returns
unfolding put_rates
returns c = search rules
