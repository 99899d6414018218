-- `events::change` meets its contract.
-- Assumes nothing.
use mathlib.Core.Path.{sym, ◌∙◌}
use Rattle.fractions.proofs.Cases.{not-false, not_true}
use Rattle.events.proofs.Steps.{change_above, change_does, change_not}
use Rattle.events.proofs.change.Goals as goal

pub returns-then-not-z : goal.returns-then-not-z
returns-then-not-z c = sym (change_not _ _ c.source_at-z.result c.source_at-z.ensures _ (not_true _ c.if-not-z.true))

pub returns-then-above_line : goal.returns-then-above_line
returns-then-above_line c = sym (change_above _ _ c.source_at-z.result c.source_at-z.ensures _ (not-false _ c.if-not-z.false) c.above_line.result c.above_line.ensures c.if-above_line.true)

pub returns : goal.returns
returns c = c.source_sends.ensures ∙ sym (change_does _ _ c.source_at-z.result c.source_at-z.ensures _ (not-false _ c.if-not-z.false) c.above_line.result c.above_line.ensures c.if-above_line.false _ c.changing-d.ensures)
