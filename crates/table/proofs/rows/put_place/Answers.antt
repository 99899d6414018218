-- `table::put_place` meets its contract.
-- Assumes nothing.
use Rattle.table.specs.Words.{put_place}
use Rattle.table.proofs.rows.put_place.Goals as goal

pub returns : goal.returns
unfolding put_place
returns c = rw (c.put_row.ensures, c.put_link.ensures)
