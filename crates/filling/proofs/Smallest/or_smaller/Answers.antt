-- `filling::Smallest::or_smaller` meets its contract.
-- Assumes nothing.
use mathlib.Core.Path.{◌≡◌, ap, ◌∙◌}
use native.Mathlib.Nat.{one-mul}
use native.Mathlib.Omega.{arith}
use borrow.Author.Tests.{eq-eqb}
use Rattle.filling.specs.SmallestShare.{smaller_of}
use Rattle.filling.proofs.SmallestShare.{smaller_less, smaller_more, smaller_same}
use Rattle.filling.proofs.Smallest.or_smaller.Goals.{After-among-share}
use Rattle.filling.proofs.Smallest.or_smaller.Goals as goal

-- the share's numerator and denominator
num_is : (c : After-among-share) → c.among-share.result.num ≡ c.args.room
num_is c = ap (λ p. p.num) c.among-share.ensures

den_is : (c : After-among-share) → c.among-share.result.den ≡ c.args.count
den_is c = ap (λ p. p.den) c.among-share.ensures ∙ one-mul _

pub returns-then-count-eq0 : goal.returns-then-count-eq0
unfolding smaller_of
returns-then-count-eq0 c = simp (eq-eqb _ _ c.if-count-eq0.true)

pub returns-then-mine-best : goal.returns-then-mine-best
returns-then-mine-best c =
    let a = c.args in
    let w = (goal.at.returns-then-mine-best c).After-among-share in
    smaller_less a.self a.room a.count a.own a.link _ _ (num_is w) (den_is w) c.if-count-eq0.false (omega arith)

pub returns-then-mine-best-2 : goal.returns-then-mine-best-2
returns-then-mine-best-2 c =
    let a = c.args in
    let w = (goal.at.returns-then-mine-best-2 c).After-among-share in
    smaller_same a.self a.room a.count a.own a.link _ _ (num_is w) (den_is w) c.if-count-eq0.false (omega arith) (omega arith)

pub returns : goal.returns
returns c =
    let a = c.args in
    let w = (goal.at.returns c).After-among-share in
    smaller_more a.self a.room a.count a.own a.link _ _ (num_is w) (den_is w) c.if-count-eq0.false (omega arith) c.if-mine-best-2.false
