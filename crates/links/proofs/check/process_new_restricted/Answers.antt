-- `links::process_new_restricted` meets its contract: the check, those above B, and the link where they wait.
-- Assumes nothing.
use Rattle.links.specs.Links.{BoundSized, Rates, idle_above}
use Rattle.std.proofs.Common.{rules}
use mathlib.Core.Path.{subst, sym}
use Rattle.links.specs.declared.Checked.{Checked}
use Rattle.links.proofs.Checks.{processed_is}
use Rattle.links.proofs.Sizes.{b_sized, check_workable}
use Rattle.links.proofs.check.process_new_restricted.Goals as goal

pub those-over-requires-clause-rates : goal.those-over-requires-clause-rates
those-over-requires-clause-rates c = subst (λ (q : Checked). Rates q.place.entries) (sym c.check_f-q.ensures) (check_workable 32 _ c.requires).rates

pub those-over-requires-clause-asked : goal.those-over-requires-clause-asked
those-over-requires-clause-asked c = λ x h.
    let v : BoundSized c.check_f-q.result.bound = subst (λ (q : Checked). BoundSized q.bound) (sym c.check_f-q.ensures) (b_sized _ (check_workable 32 _ c.requires)) in
    search rules

pub returns : goal.returns
returns c =
    let over = c.those-over.ensures (idle_above c.check_f-q.result.bound) (λ x b h e. search rules) in
    processed_is _ _ _ _ _ c.check_f-q.ensures over c.waiting-next.ensures
