-- `table::put_packet` meets its contract.
-- Assumes nothing.
use mathlib.Core.Path.{ap, ◌∙◌}
use Rattle.table.specs.Words.{put_block, put_packet}
use Rattle.table.proofs.listed.put_packet.Goals as goal

pub returns : goal.returns
unfolding put_packet
returns c = c.put_block.ensures ∙ ap (put_block _ _) c.packet_words-b.ensures
