-- `calculation::write` meets its contract.
-- Assumes nothing.
use borrow.Author.Rules.{rules}
use mathlib.Core.List.{List}
use mathlib.Core.Path.{◌≡◌, ap, refl, sym, ◌∙◌}
use Prim.Native.Nat.{ℕ}
use native.Mathlib.Omega.{arith}
use lib.ListN.{get_or, set, length-set}
use Rattle.sessions.specs.Set.{walk}
use Rattle.sessions.proofs.Loops.{walk_first, walk_none}
use Rattle.calculation.specs.Calculating.{written}
use Rattle.calculation.proofs.write.Goals as goal

pub loop-t-init : goal.loop-t-init
loop-t-init c =
    let start : c.into_iter-t-iterator.result.left ≡ c.args.w = search rules in
    rw start (tt, tt, refl, refl)

pub bounds-out-i : goal.bounds-out-i
bounds-out-i c = omega (arith, c.in-Some.ensures.steps.1, c.loop-t.invariant.2, c.requires)

pub loop-t-preserved : goal.loop-t-preserved
loop-t-preserved c =
    let z = c.loop-t in
    let step = λ (xs : List ℕ) (t : ℕ). set xs t (get_or c.args.values.now t 0) in (
      tt,
      tt,
      length-set z.out _ _ ∙ z.invariant.2,
      sym (ap (walk step z.out) c.in-Some.ensures.steps.0 ∙ walk_first step z.out c.in-Some.t _) ∙ z.invariant.3,
    )

pub shape_of-out : goal.shape_of-out
shape_of-out c = c.loop-t.invariant.2

pub returns : goal.returns
unfolding written
returns c =
    let z = c.loop-t in
    let step = λ (xs : List ℕ) (t : ℕ). set xs t (get_or c.args.values.now t 0) in
    sym (ap (walk step z.out) c.in-None.ensures.steps.0 ∙ walk_none step z.out) ∙ z.invariant.3
