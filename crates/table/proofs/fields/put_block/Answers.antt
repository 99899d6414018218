-- `table::put_block` meets its contract.
-- Assumes nothing.
use Rattle.std.proofs.Common.{rules, arith, ◌∙◌, sym, ◌+◌, ◌-◌}
use Rattle.std.proofs.lemmas.Slice.{put_mid-paste}
use Rattle.table.proofs.Store.{block_pasted}
use Rattle.table.proofs.fields.put_block.Goals as goal

pub returns : goal.returns
returns c =
    let a = c.args in
    put_mid-paste a.a (a.a + 8 - a.a) a.t.now c.copy_from_slice.new.self a.b 8 (search rules) (omega arith) (omega arith) ∙ sym (block_pasted a.t.now a.a a.b (omega arith) (omega arith))
