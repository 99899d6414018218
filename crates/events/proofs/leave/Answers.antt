-- `events::leave` meets its contract.
-- Assumes nothing.
use mathlib.Core.Path.{sym, ◌∙◌}
use Rattle.fractions.proofs.Cases.{not-false, not_true}
use Rattle.events.proofs.Steps.{leave_does, leave_not}
use Rattle.events.proofs.leave.Goals as goal

pub returns-then-not-z : goal.returns-then-not-z
returns-then-not-z c = sym (leave_not _ _ c.source_at-z.result c.source_at-z.ensures (not_true _ c.if-not-z.true))

pub returns : goal.returns
returns c = c.source_sends.ensures ∙ sym (leave_does _ _ c.source_at-z.result c.source_at-z.ensures (not-false _ c.if-not-z.false) _ c.leaving-d.ensures)
