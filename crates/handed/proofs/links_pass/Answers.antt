-- `handed::links_pass` meets its contract.
-- Assumes nothing.
use Rattle.std.proofs.Common.{rules}
use Rattle.records.proofs.Chains.{all_below_n}
use Rattle.handed.specs.OnceOver.{link_passes}
use Rattle.handed.proofs.links_pass.Goals as goal

pub returns : goal.returns
returns c = all_below_n 64 (link_passes c.args.t.now) _ _ c.all.result c.all.ensures.ran (λ x b q k. search rules)
