-- `present_set::maxima` meets its contract.
-- Assumes nothing.
use Rattle.std.proofs.Common.{rules, ◌∙◌}
use Rattle.fractions.proofs.Arrays.{made}
use Rattle.table.specs.Words.{source_of}
use Rattle.present_set.proofs.Collected.{values_mapped}
use Rattle.present_set.proofs.maxima.Goals as goal

pub returns : goal.returns
returns c =
    made (λ s. (source_of c.args.t.now s).maximum) _ c.from_fn.result 32 c.from_fn.ensures.items (λ k y q z. search rules)
    ∙ values_mapped 0 32 (λ s. (source_of c.args.t.now s).maximum)
