-- `present_set::capacities` meets its contract.
-- Assumes nothing.
use Rattle.std.proofs.Common.{rules, ◌∙◌}
use Rattle.fractions.proofs.Arrays.{made}
use Rattle.table.specs.Words.{link_of}
use Rattle.present_set.proofs.Collected.{values_mapped}
use Rattle.present_set.proofs.capacities.Goals as goal

pub returns : goal.returns
returns c =
    made (λ e. (link_of c.args.t.now e).capacity) _ c.from_fn.result 64 c.from_fn.ensures.items (λ k y q z. search rules)
    ∙ values_mapped 0 64 (λ e. (link_of c.args.t.now e).capacity)
