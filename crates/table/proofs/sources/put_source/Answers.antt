-- `table::put_source` meets its contract.
-- Assumes nothing.
use Rattle.table.specs.Words.{put_source}
use Rattle.table.proofs.sources.put_source.Goals as goal

pub returns : goal.returns
unfolding put_source
returns c = rw (c.put_rates.ensures, c.put_block.ensures, c.told_rate-last.ensures, c.head_words-b.ensures)
