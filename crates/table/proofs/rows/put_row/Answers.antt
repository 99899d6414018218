-- `table::put_row` meets its contract.
-- Assumes nothing.
use mathlib.Core.Path.{refl, sym, ◌∙◌}
use Prim.Native.Nat.{◌*◌, ◌+◌}
use native.Mathlib.Omega.{arith}
use Rattle.table.specs.Words.{put_row}
use Rattle.table.proofs.Loops.{put_turn, put_end}
use Rattle.table.proofs.rows.put_row.Goals as goal

pub loop-s-preserved : goal.loop-s-preserved
loop-s-preserved c =
    let l = c.loop-s in
    sym (put_turn l.t c.put_entry.new.t (192 + c.args.e * 96) l.s c.args.entries _ (omega arith) refl c.put_entry.ensures) ∙ l.invariant

pub returns : goal.returns
unfolding put_row
returns c =
    let l = c.loop-s in
    sym (put_end l.t (192 + c.args.e * 96 + l.s * 3) l.s c.args.entries (omega arith)) ∙ l.invariant
