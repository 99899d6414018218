-- `table::packet_at` meets its contract.
-- Assumes nothing.
use mathlib.Core.Path.{ap, ◌∙◌}
use Rattle.table.specs.Words.{packet_from, packet_of}
use Rattle.table.proofs.listed.packet_at.Goals as goal

pub returns : goal.returns
unfolding packet_of
returns c = c.packet_from.ensures ∙ ap packet_from c.block_at-b.ensures
