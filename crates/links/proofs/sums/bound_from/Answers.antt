-- `links::bound_from` meets its contract, whatever F comes to.
-- Assumes nothing.
use Rattle.std.proofs.Common.{rules}
use Rattle.links.specs.declared.NoTotal.TheVariants as no_total
use mathlib.Core.Path.{◌≡◌, ap, refl, sym, ◌∙◌}
use native.Mathlib.Omega.{arith}
use Rattle.fractions.proofs.Cases.{said_too}
use Rattle.links.specs.Links.{as_bound, bound_of, bound_said}
use Rattle.links.proofs.Bounds.{bound_none, bound_past, bound_past_none, bound_some}
use Rattle.links.proofs.sums.bound_from.Goals.{in_default-via-in-Err+in-PastC, in_default-via-in-Ok}
use Rattle.links.proofs.sums.bound_from.Goals as goal

pub returns-in_default : goal.returns-in_default
returns-in_default c =
    elim c.in_default.branch [ in_default-via-in-Err+in-PastC w ↦ said_too bound_said (rw w.in_default.is (let e : w.in_default.field-0 ≡ no_total.PastC = search rules in rw e (sym (bound_past_none _ _ c.if-count-eq0.true)))) | in_default-via-in-Ok w ↦ said_too bound_said (rw w.in_default.is (sym (bound_none _ _ _ c.if-count-eq0.true))) ]

pub returns-in-Err-PastC : goal.returns-in-Err-PastC
returns-in-Err-PastC c = said_too bound_said (rw c.in-Err-PastC.is (let e : c.in-Err-PastC.field-0 ≡ no_total.PastC = search rules in rw e (sym (bound_past _ _ (omega arith)))))

pub returns-in-Ok : goal.returns-in-Ok
returns-in-Ok c = said_too bound_said (rw c.in-Ok.is (c.from.ensures ∙ (ap as_bound c.share.ensures.exact ∙ sym (bound_some _ _ _ (omega arith)))))

pub returns-in-Err-TooFine : goal.returns-in-Err-TooFine
unfolding bound_of
returns-in-Err-TooFine c = said_too bound_said (rw c.in-Err-TooFine.is (let e : c.in-Err-TooFine.field-0 ≡ no_total.TooFine = search rules in rw e refl))
