-- `table::head_words` meets its contract.
-- Assumes nothing.
use Rattle.table.specs.Words.{head_words}
use Rattle.table.proofs.sources.head_words.Goals as goal

pub returns : goal.returns
unfolding head_words
returns c = rw (c.mu_code-m.ensures, c.bit-active.ensures, c.bit-free.ensures, c.bit-updated.ensures, c.bit-bottlenecked.ensures, c.told_code-code.ensures)
