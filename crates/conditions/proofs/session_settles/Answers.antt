-- `conditions::session_settles` meets its contract.
-- Assumes nothing.
use Rattle.std.proofs.Common.{arith, sym, ◌∙◌}
use Rattle.std.proofs.lemmas.Grind.{common_steps}
use Rattle.conditions.proofs.OneSession.{settles_active}
use Rattle.conditions.proofs.session_settles.Goals as goal

pub returns-then-is_limited : goal.returns-then-is_limited
returns-then-is_limited c =
    rw (settles_active c.args.t.now c.args.s _ c.source_at-z.ensures (sym c.active_at.ensures ∙ c.if-not-active_at.false))
    (grind (arith, common_steps))

pub returns-else-is_limited : goal.returns-else-is_limited
returns-else-is_limited c =
    rw (settles_active c.args.t.now c.args.s _ c.source_at-z.ensures (sym c.active_at.ensures ∙ c.if-not-active_at.false))
    (grind (arith, common_steps))
