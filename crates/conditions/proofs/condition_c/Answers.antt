-- `conditions::condition_c` meets its contract.
-- Assumes nothing.
use Rattle.std.proofs.Common.{rules}
use Rattle.records.proofs.Chains.{all_below_n}
use Rattle.conditions.specs.Settled.{condition_c, link_rated}
use Rattle.conditions.proofs.condition_c.Goals as goal

pub returns : goal.returns
unfolding condition_c
returns c = all_below_n 64 (link_rated c.args.t.now) _ _ c.all.result c.all.ensures.ran (λ x b q k. search rules)
