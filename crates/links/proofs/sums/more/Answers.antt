-- `links::more` meets its contract: a rate more, or the same that it was.
-- Assumes nothing.
use mathlib.Core.Path.{subst, sym, ◌∙◌}
use Rattle.std.proofs.lemmas.Result.{err_from_is_err_and}
use Rattle.fractions.specs.Fraction.{Sized, limit}
use Rattle.fractions.specs.declared.TooFine.{TooFine}
use Rattle.fractions.proofs.Cases.{said_too}
use Rattle.fractions.proofs.Ranges.{sized_more}
use Rattle.links.specs.Links.{TotalSized, more_of, total_said, upto_of}
use Rattle.links.proofs.Sizes.{two_sized}
use Rattle.links.proofs.sums.more.Goals as goal

pub up_to-requires : goal.up_to-requires
up_to-requires c =
    let y : Sized limit c.in_ok-plus.field-0 = subst (TotalSized {E = TooFine} limit) (sym c.plus.ensures.exact ∙ c.in_ok-plus.was) (two_sized (sized_more c.requires.0 (subst (TotalSized c.args.capacity) c.in_ok-total.was c.requires.1)) c.requires.2) in
    (c.requires.0, y)

pub returns-in_err-total : goal.returns-in_err-total
unfolding more_of
returns-in_err-total c =
    let p = err_from_is_err_and c.from_residual.result c.from_residual.ensures.1 in
    said_too total_said (rw (p.1, p.2, c.in_err-total.was))

pub returns-in_err-plus : goal.returns-in_err-plus
unfolding more_of upto_of
returns-in_err-plus c =
    let r = c.from_residual-in_err-plus in
    let p = err_from_is_err_and r.result r.ensures.1 in
    said_too total_said (rw (p.1, p.2, c.in_ok-total.was, ← c.plus.ensures.exact, c.in_err-plus.was))

pub returns : goal.returns
unfolding more_of
returns c = said_too total_said (rw (c.in_ok-total.was, ← c.plus.ensures.exact, c.in_ok-plus.was) c.up_to.ensures)
