-- `totals::is_bound_fine` meets its contract, whatever F comes to.
-- Assumes nothing.
use mathlib.Core.Path.{sym, subst, ◌∙◌}
use borrow.Author.Tests.{le-leb}
use Rattle.links.specs.Links.{TotalSized}
use Rattle.totals.proofs.FineBounds.{fine_error, fine_within}
use Rattle.totals.proofs.is_bound_fine.Goals as goal

pub returns-then-y-count-le-MAX_DEN : goal.returns-then-y-count-le-MAX_DEN
returns-then-y-count-le-MAX_DEN c =
    let z = subst (TotalSized c.args.capacity) c.in-Ok.is c.requires.2 in
    let h = c.if-y-count-le-MAX_DEN.true in
    rw c.in-Ok.is (le-leb _ _ h ∙ sym (fine_within c.args.capacity c.args.count _ z.pos h))

pub returns-in-Err : goal.returns-in-Err
returns-in-Err c = rw c.in-Err.is (c.eq.ensures ∙ fine_error _ _ c.in-Err.e)
