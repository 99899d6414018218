-- `writing::put_link` meets its contract.
-- Assumes nothing.
use mathlib.Core.Path.{◌≡◌, ap, ◌∙◌}
use Prim.Native.Nat.{suc, ◌+◌}
use lib.ListN.{length, length-set, set}
use lib.Seq.{length-sets}
use native.Mathlib.Omega.{arith}
use Rattle.writing.specs.Writing.{bytes4}
use Rattle.writing.proofs.put_link.Goals as goal

pub bounds-out-at-2 : goal.bounds-out-at-2
bounds-out-at-2 c = let a = c.args in omega (arith, c.requires.0, length-set a.out.now a.at 1)

pub put_number-requires : goal.put_number-requires
put_number-requires c =
    let a = c.args in
    let p = c.requires in
    let l = set a.out.now a.at 1 in
    (omega (arith, p.0, length-set a.out.now a.at 1, length-set l (a.at + 1) a.e), p.2)

pub shape_of-out : goal.shape_of-out
shape_of-out c =
    let a = c.args in
    let l = set a.out.now a.at 1 in
    let m = set l (a.at + 1) a.e in
    ap length c.put_number.ensures ∙ length-sets m (a.at + 2) (bytes4 a.capacity) ∙ length-set l (a.at + 1) a.e ∙ length-set a.out.now a.at 1

pub returns : goal.returns
returns c =
    let at = c.args.at in
    let one : suc at ≡ at + 1 = omega arith in
    let two : suc (suc at) ≡ at + 2 = omega arith in
    rw (two, one) c.put_number.ensures
