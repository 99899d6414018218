-- `writing::put_path` meets its contract.
-- Assumes nothing.
use mathlib.Core.Path.{◌∙◌}
use native.Mathlib.Omega.{arith}
use Rattle.fairness.specs.Figure1.{values}
use Rattle.search.specs.Crossing.{byte_at}
use Rattle.writing.proofs.Laying.{path_part, put_part}
use Rattle.writing.proofs.put_path.Goals as goal

pub returns : goal.returns
unfolding values
returns c =
    let a = c.args in
    let p = c.requires in
    let path = c.copy_from_slice.ensures.after ∙ path_part a.path.now a.t (omega (arith, p.1)) in
    put_part a.out.now c.copy_from_slice.new.self (values 0 8 (byte_at a.path.now a.t)) a.at _ path (omega arith) p.0
