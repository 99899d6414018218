-- `search::first_at` meets its contract.
-- Assumes nothing.
use borrow.Author.Rules.{rules}
use mathlib.Core.Path.{◌≡◌, refl, sym, subst, ◌∙◌}
use Prim.Native.Nat.{ℕ, ◌+◌, ◌*◌, ◌<◌, ◌≤◌}
use native.Mathlib.Omega.{arith}
use borrow.Author.Tests.{eqb-true}
use lib.ListN.{length}
use Rattle.std.specs.Prelude.{Option}
use Rattle.sessions.specs.Set.{has}
use Rattle.sessions.proofs.Remaining.{comes_first, remains_all, remains_next, remains_none}
use Rattle.search.specs.Crossing.{FirstAt}
use Rattle.search.proofs.Paths.{path_byte, path_length}
use Rattle.search.proofs.Turns.{first_hit, first_none, none_of_all, none_of_more, tried_more}
use Rattle.search.proofs.first_at.Goals as goal

pub search-init : goal.search-init
search-init c =
    let a = c.args in
    let start : c.into_iter-s-iterator.result.left ≡ a.left = search rules in
    rw start (tt, tt, refl, remains_all 32 a.left (omega arith), λ s h p q. absurd (omega arith))

pub loop-e-init : goal.loop-e-init
loop-e-init c = (c.search.invariant.2, λ h k. absurd (omega arith))

pub loop-e-preserved : goal.loop-e-preserved
loop-e-preserved c =
    let a = c.args in
    let z = c.loop-e in
    let s = c.in-Some.s in
    let fits : s * 8 + 8 ≤ length a.path.now = omega (arith, c.in-Some.ensures.steps.1) in
    let h : z.e-index < 8 = omega (arith, path_length a.path.now s fits, c.loop-e-test.true) in
    (z.invariant.0, none_of_more a.path.now a.links s z.e-index _ (c.from.ensures ∙ path_byte a.path.now s z.e-index h) (sym c.has.ensures ∙ c.if-has.false) z.invariant.1)

pub search-preserved : goal.search-preserved
search-preserved c =
    let a = c.args in
    let z = c.search in
    let s = c.in-Some.s in
    let v = c.next.new.self.left in
    let n = c.in-Some.ensures.steps in
    let fits : s * 8 + 8 ≤ length a.path.now = omega (arith, n.1) in
    let all : 8 ≤ c.loop-e.e-index = omega (arith, path_length a.path.now s fits, c.loop-e-test.false) in (
      tt,
      tt,
      c.loop-e.invariant.0,
      remains_next 32 a.left z.s-iterator.left z.invariant.3 s v n.3,
      tried_more a.path.now a.links a.left z.s-iterator.left s v n.3 (none_of_all a.path.now a.links s c.loop-e.e-index all c.loop-e.invariant.1) z.invariant.4,
    )

pub returns-then-has : goal.returns-then-has
returns-then-has c =
    let a = c.args in
    let z = c.search in
    let s = c.in-Some.s in
    let rest = z.s-iterator.left in
    let n = c.in-Some.ensures.steps in
    let k = c.loop-e.e-index in
    let fits : s * 8 + 8 ≤ length a.path.now = omega (arith, n.1) in
    let h : k < 8 = omega (arith, path_length a.path.now s fits, c.loop-e-test.true) in
    let hit = eqb-true _ _ (sym c.has.ensures ∙ c.if-has.true) in
    first_hit a.path.now a.links a.left rest s z.invariant.3 n.2 (comes_first 32 rest s c.next.new.self.left z.invariant.3.word n)
    (k, h, subst (λ (v : ℕ). has v a.links ≡ 1) (c.from.ensures ∙ path_byte a.path.now s k h) hit) z.invariant.4

pub returns-in-None : goal.returns-in-None
returns-in-None c =
    let a = c.args in
    let z = c.search in
    let none = remains_none 32 a.left z.s-iterator.left z.invariant.3 c.in-None.ensures.steps.0 in
    subst (λ (r : Option ℕ). FirstAt a.path.now a.left a.links r) (sym z.invariant.2) (first_none a.path.now a.links a.left z.s-iterator.left none z.invariant.4)
