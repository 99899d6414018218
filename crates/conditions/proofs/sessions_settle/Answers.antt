-- `conditions::sessions_settle` meets its contract.
-- Assumes nothing.
use Rattle.std.proofs.Common.{rules}
use Rattle.records.proofs.Chains.{all_below_n}
use Rattle.conditions.specs.OneSession.{session_settles}
use Rattle.conditions.proofs.sessions_settle.Goals as goal

pub returns : goal.returns
returns c = all_below_n 32 (session_settles c.args.t.now) _ _ c.all.result c.all.ensures.ran (λ x b q k. search rules)
