-- `search::all_at` meets its contract.
-- Assumes nothing.
use mathlib.Core.Path.{sym, subst}
use Prim.Native.Nat.{ℕ, ◌<◌}
use native.Mathlib.Omega.{arith}
use Rattle.search.proofs.Turns.{after_lt, found_more, found_none, found_nowhere}
use Rattle.search.proofs.all_at.Goals as goal

pub returns-then-links-eq0 : goal.returns-then-links-eq0
returns-then-links-eq0 c = let a = c.args in found_nowhere a.path.now a.opens a.links c.if-links-eq0.true

pub loop-s-init : goal.loop-s-init
loop-s-init c = let a = c.args in found_none a.path.now a.opens a.links (omega arith)

pub loop-s-smaller : goal.loop-s-smaller
loop-s-smaller c =
    let z = c.loop-s in
    let f = c.in-Some in
    subst (λ (v : ℕ). v < z.left) (sym c.after-left.ensures) (after_lt f.s z.left f.ensures.below f.ensures.member)

pub loop-s-preserved : goal.loop-s-preserved
loop-s-preserved c =
    let a = c.args in
    let z = c.loop-s in
    let f = c.in-Some in
    let y = c.put-found in
    let v = c.after-left in
    found_more a.path.now a.opens a.links z.found z.left f.s y.result v.result f.ensures y.ensures v.ensures z.invariant
