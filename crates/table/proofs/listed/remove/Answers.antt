-- `table::remove` meets its contract.
-- Assumes nothing.
use lib.ListN.{length}
use mathlib.Core.Path.{◌≡◌}
use Prim.Native.Nat.{◌*◌, ◌+◌, ◌-◌, ◌≤◌}
use native.Mathlib.Omega.{arith}
use Rattle.table.specs.Words.{removed}
use Rattle.table.proofs.Store.{moved_by_place}
use Rattle.table.proofs.InRange.{count_most}
use Rattle.table.proofs.listed.remove.Goals as goal

pub overflow_mul-a : goal.overflow_mul-a
overflow_mul-a c = omega (arith, c.count-n.ensures, count_most c.args.t.now)

pub overflow_add-a : goal.overflow_add-a
overflow_add-a c = omega (arith, c.count-n.ensures, count_most c.args.t.now)

pub overflow_add-a-2 : goal.overflow_add-a-2
overflow_add-a-2 c = omega (arith, c.count-n.ensures, count_most c.args.t.now)

pub overflow_mul-n : goal.overflow_mul-n
overflow_mul-n c = omega (arith, c.count-n.ensures, count_most c.args.t.now)

pub overflow_add-n : goal.overflow_add-n
overflow_add-n c = omega (arith, c.count-n.ensures, count_most c.args.t.now)

pub copy_within-requires-clause-in_bounds : goal.copy_within-requires-clause-in_bounds
copy_within-requires-clause-in_bounds c = omega (arith, c.count-n.ensures, count_most c.args.t.now)

pub copy_within-requires-clause-dest_in_bounds : goal.copy_within-requires-clause-dest_in_bounds
copy_within-requires-clause-dest_in_bounds c =
    let i = c.args.i in
    let h : 7104 + i * 8 + (7104 + c.count-n.result * 8 - (7104 + i * 8 + 8)) ≤ length c.args.t.now = omega (arith, c.count-n.ensures, count_most c.args.t.now) in
    h

pub returns : goal.returns
unfolding removed
returns c =
    let a = c.args in
    let n = c.count-n.result in
    let p : 7104 + n * 8 - (7104 + a.i * 8 + 8) ≡ (n - 1 - a.i) * 8 = omega arith in
    let by = c.copy_within.ensures.by_index in
    let k =
    moved_by_place a.t.now c.copy_within.new.self (7104 + a.i * 8) (7104 + n * 8 - (7104 + a.i * 8 + 8)) (omega (arith, c.count-n.ensures, count_most c.args.t.now))
    c.copy_within.ensures.len
    by.0
    by.1
    by.2 in
    rw (← c.count-n.ensures, ← p, ← k) c.put_count.ensures
