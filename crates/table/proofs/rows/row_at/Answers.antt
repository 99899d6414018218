-- `table::row_at` meets its contract.
-- Assumes nothing.
use Rattle.std.proofs.Common.{rules, ◌*◌, ◌+◌}
use Rattle.fractions.proofs.Arrays.{made_at}
use Rattle.table.specs.Words.{entry_of, row_of}
use Rattle.table.proofs.Loops.{row_made}
use Rattle.table.proofs.rows.row_at.Goals as goal

pub returns : goal.returns
unfolding row_of
returns c =
    row_made c.from_fn.result c.args.t.now (192 + c.args.e * 96) c.from_fn.ensures.items.long
    (made_at (λ s. entry_of c.args.t.now (192 + c.args.e * 96 + s * 3)) _ c.from_fn.result 32 c.from_fn.ensures.items (λ k y q z. search rules))
