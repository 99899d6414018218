-- `lent::lend` meets its contract: what f gives is put back, and where it refuses all is as it was.
-- Assumes nothing.
use Rattle.std.proofs.Common.{Err, ap, ◌∙◌}
use Rattle.std.proofs.lemmas.Result.{err_from_is_err_and}
use Rattle.lent.proofs.Whole.{given_back, refused_back}
use Rattle.lent.proofs.lend.Goals as goal

pub returns-in_err-next : goal.returns-in_err-next
returns-in_err-next g c = λ of works.
    let p = err_from_is_err_and c.from_residual.result c.from_residual.ensures.1 in
    let own = c.in-Some.ensures.cases in
    refused_back of _ _ c.args.entries.now c.f.result _ _ own.enough own.same (works _ _ c.f.ensures) c.in_err-next.was (p.1 ∙ ap Err p.2)

pub returns : goal.returns
returns g c = λ of works.
    let own = c.in-Some.ensures.cases in
    given_back of _ c.in-Some.own.now c.args.entries.now c.f.result c.in_ok-next.next _ _ own.enough own.same (works _ _ c.f.ensures) c.in_ok-next.was c.copy_from_slice.ensures.after
