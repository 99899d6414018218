-- `conditions::is_settled` meets its contract: with (b), (d) and (e) asked session by session, it is the test condition by condition.
-- Assumes nothing.
use Rattle.std.proofs.Common.{arith, ◌≡◌, ◌∙◌, ◌&&◌}
use Rattle.std.proofs.lemmas.Grind.{common_steps}
use Rattle.records.specs.Format.{all}
use Rattle.conditions.specs.OneSession.{session_settles}
use Rattle.conditions.specs.Settled.{condition_a, condition_c}
use Rattle.conditions.proofs.OneSession.{settled_once}
use Rattle.conditions.proofs.is_settled.Goals as goal

pub returns-then-sessions_settle : goal.returns-then-sessions_settle
returns-then-sessions_settle c =
    let w = c.args.t.now in
    let e : c.condition_c.result ≡ (condition_a w && (all 32 (session_settles w) && condition_c w)) = grind (arith, common_steps) in
    e ∙ settled_once w

pub returns-else-sessions_settle : goal.returns-else-sessions_settle
returns-else-sessions_settle c =
    let w = c.args.t.now in
    let e : c.if-condition_a.value ≡ (condition_a w && (all 32 (session_settles w) && condition_c w)) = grind (arith, common_steps) in
    e ∙ settled_once w
