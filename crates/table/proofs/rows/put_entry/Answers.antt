-- `table::put_entry` meets its contract.
-- Assumes nothing.
use Rattle.table.specs.Words.{put_entry}
use Rattle.table.proofs.rows.put_entry.Goals as goal

pub returns : goal.returns
unfolding put_entry
returns c = rw c.mu_code-m.ensures
