-- `links::waiting` meets its contract: those that are left to be made waiting come to the whole.
-- Assumes nothing.
use mathlib.Core.Path.{sym, ◌∙◌}
use Rattle.links.proofs.Waits.{waiting_turn, waiting_end}
use Rattle.links.proofs.waiting.Goals as goal

pub loop-s-preserved : goal.loop-s-preserved
loop-s-preserved c = sym (waiting_turn _ _ _ _ c.in-Some.ensures.steps.0) ∙ c.loop-s.invariant

pub returns : goal.returns
returns c = sym (waiting_end _ _ c.in-None.ensures.steps.0) ∙ c.loop-s.invariant
