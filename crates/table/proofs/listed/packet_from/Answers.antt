-- `table::packet_from` meets its contract.
-- Assumes nothing.
use Rattle.table.specs.Words.{packet_from}
use Rattle.table.proofs.listed.packet_from.Goals as goal

pub returns : goal.returns
unfolding packet_from
returns c = rw (c.field-session.ensures.0, c.field-hop.ensures.0, c.kind_of-kind.ensures)
