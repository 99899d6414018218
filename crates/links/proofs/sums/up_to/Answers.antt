-- `links::up_to` meets its contract: the test is that of two rates.
-- Assumes nothing.
use mathlib.Core.Bool.{true, false}
use mathlib.Core.Path.{◌≡◌, ◌∙◌, ap, sym}
use Rattle.fractions.specs.Fraction.{le_of, whole_of}
use Rattle.links.specs.Links.{upto_of}
use Rattle.links.proofs.sums.up_to.Goals as goal

pub returns-then-le : goal.returns-then-le
unfolding upto_of
returns-then-le c = let e : le_of c.args.sum (whole_of c.args.capacity) ≡ true = ap (le_of c.args.sum) (sym c.whole.ensures) ∙ (sym c.le.ensures ∙ c.if-le.true) in
    rw e

pub returns-else-le : goal.returns-else-le
unfolding upto_of
returns-else-le c = let e : le_of c.args.sum (whole_of c.args.capacity) ≡ false = ap (le_of c.args.sum) (sym c.whole.ensures) ∙ (sym c.le.ensures ∙ c.if-le.false) in
    rw e
