-- `table::entry_at` meets its contract.
-- Assumes nothing.
use Rattle.table.specs.Words.{entry_of}
use Rattle.table.proofs.rows.entry_at.Goals as goal

pub returns : goal.returns
unfolding entry_of
returns c = rw (c.mu_of-mu.ensures, c.kept-rate.ensures)
