-- `filling::Given::rates_after` meets its contract.
-- Assumes nothing.
use borrow.Author.Rules.{rules}
use mathlib.Core.Path.{◌≡◌, refl, ◌∙◌}
use native.Mathlib.Omega.{arith}
use lib.ListN.{get_or}
use Rattle.sessions.proofs.Remaining.{remains_all, remains_next, remains_none}
use Rattle.filling.proofs.Rates.{rate_still}
use Rattle.filling.proofs.Visits.{visited_all, visited_none, visited_turn}
use Rattle.filling.proofs.Given.rates_after.Goals as goal

pub loop-s-init : goal.loop-s-init
loop-s-init c =
    let a = c.args in
    let x = a.rate.now in
    let p = c.requires.1 in
    let start : c.into_iter-s-iterator.result.left ≡ a.these = search rules in
    rw start (
      tt,
      tt,
      remains_all 32 a.these (omega arith),
      visited_none _ x a.these (λ j k q. rate_still a.self (get_or x j 0) j (p.others j (omega (arith, p.long)) q)),
    )

pub rate_after-requires : goal.rate_after-requires
rate_after-requires c =
    let s = c.in-Some.s in
    let n = c.in-Some.ensures.steps in
    let p = c.requires in
    (p.0, omega (arith, c.loop-s.invariant.3.rest s n.2, p.1.small s n.1), n.1)

pub loop-s-preserved : goal.loop-s-preserved
loop-s-preserved c =
    let z = c.loop-s in
    let s = c.in-Some.s in
    let n = c.in-Some.ensures.steps in
    let left = z.s-iterator.left in
    let x = c.rate_after in
    let r = z.invariant.3.rest s n.2 in (
      tt,
      tt,
      remains_next 32 c.args.these left z.invariant.2 s c.next.new.self.left n.3,
      visited_turn _ _ left s c.next.new.self.left z.rate x.result (omega (arith, n.1, c.requires.1.long)) (x.ensures ∙ rw r refl) n.3 z.invariant.3,
    )

pub returns : goal.returns
returns c =
    let z = c.loop-s in
    let p = c.requires.1 in
    let left = z.s-iterator.left in
    let none = remains_none 32 c.args.these left z.invariant.2 c.in-None.ensures.steps.0 in
    record {
      rate = λ s h. visited_all _ _ left z.rate none z.invariant.3 s (omega (arith, p.long));
      long = z.invariant.3.long ∙ p.long;
    }
