-- `table::bytes_at` meets its contract.
-- Assumes nothing.
use Rattle.std.proofs.Common.{rules, add-zero, ◌∙◌, ◌+◌}
use lib.ListN.{get_or}
use Rattle.fractions.proofs.Arrays.{made}
use Rattle.table.specs.Words.{block_at}
use Rattle.table.proofs.sources.bytes_at.Goals as goal

pub returns : goal.returns
unfolding block_at
returns c = made (λ i. get_or c.args.input.now (c.args.at + i) 0) _ c.from_fn.result 8 c.from_fn.ensures.items (λ k y q z. search rules) ∙ simp add-zero
