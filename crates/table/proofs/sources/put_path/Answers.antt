-- `table::put_path` meets its contract.
-- Assumes nothing.
use mathlib.Core.Path.{ap, ◌∙◌}
use Rattle.table.specs.Words.{put_block, put_path}
use Rattle.table.proofs.sources.put_path.Goals as goal

pub returns : goal.returns
unfolding put_path
returns c = c.put_block.ensures ∙ ap (put_block _ _) c.bytes_at-b.ensures
