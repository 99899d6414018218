-- `declarations::own_limit` meets its contract.
-- Assumes nothing.
use borrow.Author.Tests.{eq-eqb, ne_eqb, le-leb, lt-leb}
use Rattle.declarations.specs.Declaring.{own_limit_of}
use Rattle.declarations.proofs.own_limit.Goals as goal

pub returns-then-maximum-eq0 : goal.returns-then-maximum-eq0
unfolding own_limit_of
returns-then-maximum-eq0 c = simp (eq-eqb _ _ c.if-maximum-eq0.true)

pub returns-then-access-maximum : goal.returns-then-access-maximum
unfolding own_limit_of
returns-then-access-maximum c = simp (ne_eqb _ _ c.if-maximum-eq0.false, le-leb _ _ c.if-access-maximum.true)

pub returns : goal.returns
unfolding own_limit_of
returns c = simp (ne_eqb _ _ c.if-maximum-eq0.false, lt-leb _ _ c.if-access-maximum.false)
