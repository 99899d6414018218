-- `table::link_at` meets its contract.
-- Assumes nothing.
use Rattle.table.specs.Words.{link_of}
use Rattle.table.proofs.rows.link_at.Goals as goal

pub returns : goal.returns
unfolding link_of
returns c = rw (c.field-capacity.ensures.0, c.field-r.ensures.0, c.field-f.ensures.0)
