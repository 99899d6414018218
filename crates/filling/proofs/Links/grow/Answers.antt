-- `filling::Links::grow` meets its contract.
-- Assumes nothing.
use borrow.Author.Rules.{rules}
use mathlib.Core.Bool.{cond}
use mathlib.Core.Path.{◌≡◌, refl, ap, ◌∙◌}
use Prim.Native.Nat.{ℕ, ◌*◌}
use native.Mathlib.Nat.{mul-le-mul}
use native.Mathlib.Omega.{arith}
use borrow.Author.Tests.{eq-eqb, ne_eqb}
use lib.Dec.{eqb}
use lib.ListN.{get_or, set}
use Rattle.sessions.specs.Set.{has}
use Rattle.sessions.proofs.Remaining.{remains_all, remains_member, remains_next, remains_none}
use Rattle.filling.specs.declared.Links.{Links}
use Rattle.filling.proofs.Visits.{visited_all, visited_none, visited_turn}
use Rattle.filling.proofs.Links.grow.Goals as goal

pub returns-then-by-eq1 : goal.returns-then-by-eq1
returns-then-by-eq1 c =
    let q : c.args.by ≡ 1 = c.if-by-eq1.true in
    (record { long = refl; at = λ e h m. rw q (omega arith); other = λ e h m. refl }, refl)

pub loop-e-init : goal.loop-e-init
loop-e-init c =
    let k = c.args.self.now in
    let start : c.into_iter-e-iterator.result.left ≡ k.busy = search rules in
    rw start (
      tt,
      tt,
      remains_all 64 k.busy (omega arith),
      visited_none _ k.room k.busy (λ j l q. rw (ne_eqb (has j k.busy) 1 (λ e. omega arith)) refl),
      refl,
    )

pub overflow_mul-self : goal.overflow_mul-self
overflow_mul-self c =
    let p = c.requires in
    let n = c.in-Some.ensures.steps in
    omega (arith, ap (λ (v : ℕ). v * c.args.by) (c.loop-e.invariant.3.rest c.in-Some.e n.2), mul-le-mul (p.2 c.in-Some.e n.1) p.0)

pub loop-e-preserved : goal.loop-e-preserved
loop-e-preserved c =
    let z = c.loop-e in
    let by = c.args.by in
    let k = c.args.self.now in
    let e = c.in-Some.e in
    let n = c.in-Some.ensures.steps in
    let left = z.e-iterator.left in
    let mine = remains_member 64 k.busy left z.invariant.2 e n.2 in
    let new : get_or z.self.room e 0 * by ≡ cond (eqb (has e k.busy) 1) (get_or k.room e 0 * by) (get_or k.room e 0) =
    rw (eq-eqb (has e k.busy) 1 mine) (ap (λ (y : ℕ). y * by) (z.invariant.3.rest e n.2)) in (
      tt,
      tt,
      remains_next 64 k.busy left z.invariant.2 e c.next.new.self.left n.3,
      visited_turn _ _ left e c.next.new.self.left z.self.room _ (omega (arith, n.1, c.requires.1)) new n.3 z.invariant.3,
      ap (λ (k : Links). record k { room = set z.self.room e (get_or z.self.room e 0 * by) }) z.invariant.4,
    )

pub returns : goal.returns
returns c =
    let z = c.loop-e in
    let k = c.args.self.now in
    let p = c.requires in
    let none = remains_none 64 k.busy z.e-iterator.left z.invariant.2 c.in-None.ensures.steps.0 in
    let all = visited_all _ _ z.e-iterator.left z.self.room none z.invariant.3 in (
      record {
        long = z.invariant.3.long;
        at = λ e h m. all e (omega (arith, p.1)) ∙ rw (eq-eqb (has e k.busy) 1 m) refl;
        other = λ e h m. all e (omega (arith, p.1)) ∙ rw (ne_eqb (has e k.busy) 1 (λ q. omega arith)) refl;
      },
      z.invariant.4,
    )
