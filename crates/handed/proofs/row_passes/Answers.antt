-- `handed::row_passes` meets its contract.
-- Assumes nothing.
use borrow.Author.Rules.{rules}
use borrow.Author.Tests.{tests}
use Rattle.sessions.proofs.Chains.{all_members}
use Rattle.handed.specs.OnceOver.{member_passes}
use Rattle.handed.proofs.Holding.{row_is}
use Rattle.handed.proofs.row_passes.Goals as goal

pub returns : goal.returns
returns c =
    let a = c.args in
    let w = a.t.now in
    row_is w a.e _ (all_members _ 32 _ (member_passes w a.e) (λ x b q k. search (rules, tests)) _ _ _ _ (search rules) c.all.ensures.ran)
