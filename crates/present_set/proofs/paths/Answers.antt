-- `present_set::paths` meets its contract.
-- Assumes nothing.
use Rattle.std.proofs.Common.{rules, ◌∙◌, ◌/◌, ◌%◌}
use Rattle.fractions.proofs.Arrays.{made}
use Rattle.present_set.specs.Held.{path_byte}
use Rattle.present_set.proofs.Collected.{values_mapped}
use Rattle.present_set.proofs.paths.Goals as goal

pub returns : goal.returns
returns c =
    made (λ i. path_byte c.args.t.now (i / 8) (i % 8)) _ c.from_fn.result 256 c.from_fn.ensures.items (λ k y q z. search rules)
    ∙ values_mapped 0 256 (λ i. path_byte c.args.t.now (i / 8) (i % 8))
