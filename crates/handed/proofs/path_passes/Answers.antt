-- `handed::path_passes` meets its contract: the first link that is undeclared, or was seen before, settles it.
-- Assumes nothing.
use mathlib.Core.Bool.{Bool, ◌&&◌}
use mathlib.Core.Path.{ap, ap₂, sym, ◌∙◌, ◌≡◌}
use Prim.Native.Nat.{ℕ}
use native.Mathlib.Omega.{arith}
use Rattle.fractions.proofs.Cases.{and_false}
use Rattle.records.specs.Format.{all}
use Rattle.records.proofs.Alls.{all_fails, all_next, all_none}
use Rattle.table.proofs.InRange.{hops_most, stop_below}
use Rattle.handed.specs.Handed.{stop_declared, stop_new}
use Rattle.handed.specs.OnceOver.{path_passes}
use Rattle.handed.proofs.Stops.{declared, seen_next, seen_none, stop_fresh, stop_old, undeclared}
use borrow.Author.Rules.{rules}
use Rattle.handed.proofs.path_passes.Goals as goal

pub loop-i-init : goal.loop-i-init
loop-i-init c =
    let a = c.args in
    (omega arith, omega (arith, c.hops_at-n.ensures, hops_most a.t.now a.s), all_none _, seen_none a.t.now a.s)

pub stop_at-e-requires : goal.stop_at-e-requires
stop_at-e-requires c = let l = c.loop-i in (search rules, omega (arith, l.invariant.1, c.loop-i-test.true))

pub link_at-l-requires : goal.link_at-l-requires
link_at-l-requires c = let a = c.args in omega (arith, c.stop_at-e.ensures, stop_below a.t.now a.s c.loop-i.i)

pub returns-then-l-eq0 : goal.returns-then-l-eq0
unfolding path_passes
returns-then-l-eq0 c =
    let a = c.args in
    let l = c.loop-i in
    let q = c.stop_at-e.ensures in
    rw (← c.hops_at-n.ensures)
    (sym
    (all_fails c.hops_at-n.result (λ j. stop_declared a.t.now a.s j && stop_new a.t.now a.s j) l.i c.loop-i-test.true
    (undeclared a.t.now a.s l.i _ q _ c.link_at-l.ensures c.if-l-eq0.true)))

pub overflow_cast-e : goal.overflow_cast-e
overflow_cast-e c = let a = c.args in omega (arith, c.stop_at-e.ensures, stop_below a.t.now a.s c.loop-i.i)

pub returns-then-has : goal.returns-then-has
unfolding path_passes
returns-then-has c =
    let a = c.args in
    let l = c.loop-i in
    let q = c.stop_at-e.ensures in
    rw (← c.hops_at-n.ensures)
    (sym
    (all_fails c.hops_at-n.result (λ j. stop_declared a.t.now a.s j && stop_new a.t.now a.s j) l.i c.loop-i-test.true
    (ap (λ (x : Bool). stop_declared a.t.now a.s l.i && x) (stop_old a.t.now a.s l.i _ q l.seen l.invariant.3 (sym c.has.ensures ∙ c.if-has.true))
    ∙ and_false (stop_declared a.t.now a.s l.i))))

pub overflow_cast-e-in-loop-i : goal.overflow_cast-e-in-loop-i
overflow_cast-e-in-loop-i c = let a = c.args in omega (arith, c.stop_at-e.ensures, stop_below a.t.now a.s c.loop-i.i)

pub put-seen-requires : goal.put-seen-requires
put-seen-requires c = let a = c.args in omega (arith, c.stop_at-e.ensures, stop_below a.t.now a.s c.loop-i.i)

pub loop-i-preserved : goal.loop-i-preserved
loop-i-preserved c =
    let a = c.args in
    let l = c.loop-i in
    let q = c.stop_at-e.ensures in
    let d = declared a.t.now a.s l.i _ q _ c.link_at-l.ensures (omega (arith, c.if-l-eq0.false)) in
    let n = stop_fresh a.t.now a.s l.i _ q l.seen l.invariant.3 (sym c.has.ensures ∙ c.if-has.false) in (
      omega arith,
      l.invariant.1,
      all_next l.i (λ j. stop_declared a.t.now a.s j && stop_new a.t.now a.s j) l.invariant.2 (ap₂ ◌&&◌ d n),
      seen_next a.t.now a.s l.i _ q l.seen l.invariant.3 _ c.put-seen.ensures,
    )

pub returns : goal.returns
unfolding path_passes
returns c =
    let a = c.args in
    let l = c.loop-i in
    let e : l.i ≡ c.hops_at-n.result = omega arith in
    rw (← c.hops_at-n.ensures) (sym (ap (λ (k : ℕ). all k (λ j. stop_declared a.t.now a.s j && stop_new a.t.now a.s j)) (sym e) ∙ l.invariant.2))
