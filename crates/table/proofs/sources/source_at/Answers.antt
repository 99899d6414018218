-- `table::source_at` meets its contract.
-- Assumes nothing.
use mathlib.Core.Path.{ap₂, ◌∙◌}
use Rattle.table.specs.Words.{source_from, source_of}
use Rattle.table.proofs.sources.source_at.Goals as goal

pub returns : goal.returns
unfolding source_of
returns c = c.source_from.ensures ∙ ap₂ source_from c.block_at-b.ensures c.block_at-c.ensures
