-- `handed::passes_14` meets its contract: asked once of each session, packet and link, it is the test clause by clause.
-- Assumes nothing.
use Rattle.std.proofs.Common.{arith, ◌≡◌, ◌∙◌}
use Rattle.std.proofs.lemmas.Grind.{common_steps}
use Rattle.handed.specs.OnceOver.{once_over}
use Rattle.handed.proofs.OnceOver.{once_over_lem}
use Rattle.handed.proofs.passes_14.Goals as goal

pub returns-then-packets_pass : goal.returns-then-packets_pass
unfolding once_over
returns-then-packets_pass c =
    let w = c.args.t.now in
    let e : c.links_pass.result ≡ once_over w = grind (arith, common_steps) in
    e ∙ once_over_lem w

pub returns-else-packets_pass : goal.returns-else-packets_pass
unfolding once_over
returns-else-packets_pass c =
    let w = c.args.t.now in
    let e : c.if-sessions_pass.value ≡ once_over w = grind (arith, common_steps) in
    e ∙ once_over_lem w
