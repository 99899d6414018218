-- `writing::put_session` meets its contract.
-- Assumes nothing.
use mathlib.Core.List.{List}
use mathlib.Core.Path.{ap, ap₂, ◌∙◌}
use Prim.Native.Nat.{ℕ, ◌+◌}
use lib.ListN.{get_or, length, length-set, set}
use lib.Seq.{length-sets, sets}
use native.Mathlib.Omega.{arith}
use Rattle.fairness.specs.Figure1.{values}
use Rattle.search.specs.Crossing.{byte_at}
use Rattle.writing.specs.Writing.{bytes4, path_size}
use Rattle.writing.proofs.Laying.{first_long, second_long, session_laid, size_counted, third_long}
use Rattle.writing.proofs.put_session.Goals as goal

pub bounds-out-at-2 : goal.bounds-out-at-2
bounds-out-at-2 c = let a = c.args in omega (arith, c.requires.0, length-set a.out.now a.at 2)

pub put_number-requires : goal.put_number-requires
put_number-requires c =
    let a = c.args in
    let p = c.requires in
    (omega (arith, p.0, first_long a.out.now a.at a.t (get_or a.d.now.access a.t 0) (get_or a.d.now.maximum a.t 0) 0 (λ h. 0)), p.2)

pub put_number-requires-2 : goal.put_number-requires-2
put_number-requires-2 c =
    let a = c.args in
    let p = c.requires in
    (omega (arith, p.0, ap length c.put_number.ensures, second_long a.out.now a.at a.t (get_or a.d.now.access a.t 0) (get_or a.d.now.maximum a.t 0) 0 (λ h. 0)), p.3)

pub bounds-out-at-3 : goal.bounds-out-at-3
bounds-out-at-3 c =
    let a = c.args in
    let p = c.requires in
    let two = c.put_number.ensures in
    let three = c.put_number-2.ensures in
    omega (
      arith,
      p.0,
      ap length (three ∙ ap (λ (l : List ℕ). sets l (a.at + 6) (bytes4 (get_or a.d.now.maximum a.t 0))) two),
      third_long a.out.now a.at a.t (get_or a.d.now.access a.t 0) (get_or a.d.now.maximum a.t 0) 0 (λ h. 0),
    )

pub put_path-requires : goal.put_path-requires
put_path-requires c =
    let a = c.args in
    let p = c.requires in
    let two = c.put_number.ensures in
    let three = c.put_number-2.ensures in (
      omega (
        arith,
        p.0,
        length-set c.put_number-2.new.out (a.at + 10) c.path_size.result,
        ap length (three ∙ ap (λ (l : List ℕ). sets l (a.at + 6) (bytes4 (get_or a.d.now.maximum a.t 0))) two),
        third_long a.out.now a.at a.t (get_or a.d.now.access a.t 0) (get_or a.d.now.maximum a.t 0) 0 (λ h. 0),
      ),
      p.1,
    )

pub shape_of-out : goal.shape_of-out
shape_of-out c =
    let a = c.args in
    let two = c.put_number.ensures in
    let three = c.put_number-2.ensures in
    let l = c.put_number-2.new.out in
    let n = c.path_size.result in
    ap length c.put_path.ensures
    ∙ length-sets (set l (a.at + 10) n) (a.at + 11) (values 0 8 (byte_at a.d.now.path a.t))
    ∙ length-set l (a.at + 10) n
    ∙ ap length (three ∙ ap (λ (y : List ℕ). sets y (a.at + 6) (bytes4 (get_or a.d.now.maximum a.t 0))) two)
    ∙ third_long a.out.now a.at a.t (get_or a.d.now.access a.t 0) (get_or a.d.now.maximum a.t 0) 0 (λ h. 0)

pub returns : goal.returns
returns c =
    let a = c.args in
    let two = c.put_number.ensures in
    let three = c.put_number-2.ensures in
    let size = c.path_size.ensures ∙ size_counted a.d.now.path a.t (omega (arith, c.requires.1)) in
    let path = byte_at a.d.now.path a.t in
    c.put_path.ensures
    ∙ ap₂ (λ (l : List ℕ) (n : ℕ). sets (set l (a.at + 10) n) (a.at + 11) (values 0 8 path))
    (three ∙ ap (λ (l : List ℕ). sets l (a.at + 6) (bytes4 (get_or a.d.now.maximum a.t 0))) two)
    size
    ∙ session_laid a.out.now a.at a.t (get_or a.d.now.access a.t 0) (get_or a.d.now.maximum a.t 0) (path_size a.d.now.path a.t) path
