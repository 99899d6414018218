-- `links::check_f` meets its contract: what is left of the check comes to the whole.
-- Assumes nothing.
use Rattle.std.proofs.Common.{rules}
use mathlib.Core.Path.{◌≡◌, subst, sym, ◌∙◌}
use Rattle.links.specs.Links.{BoundSized, Workable, at_least, those_of}
use Rattle.links.proofs.Checks.{check_ends, check_stays, check_turns, checked_is}
use Rattle.links.proofs.Sizes.{b_sized, turn_workable}
use Rattle.links.proofs.check.check_f.Goals.{After-those-back}
use Rattle.links.proofs.check.check_f.Goals as goal

pub those-back-requires-clause-asked : goal.those-back-requires-clause-asked
those-back-requires-clause-asked c = λ x h.
    let v : BoundSized c.bottleneck_rate-b.result = subst BoundSized (sym c.bottleneck_rate-b.ensures.exact) (b_sized _ c.loop-k.invariant.0) in
    search rules

-- those that it found
found : (c : After-those-back) → c.those-back.result ≡ those_of (at_least c.bottleneck_rate-b.result) c.loop-k.now.entries c.loop-k.now.link.f
found c = c.those-back.ensures (at_least c.bottleneck_rate-b.result) (λ x b h e. search rules)

pub returns-then-back-eq0 : goal.returns-then-back-eq0
returns-then-back-eq0 c = checked_is _ _ _ c.bottleneck_rate-b.ensures.exact (sym (check_stays c.loop-k.now c.loop-k.k c.those-back.result _ c.loop-k-test.true c.bottleneck_rate-b.ensures.exact (found c.before) c.if-back-eq0.true) ∙ c.loop-k.invariant.1)

pub loop-k-preserved : goal.loop-k-preserved
loop-k-preserved c = (
  subst Workable (sym c.turned-now.ensures) (turn_workable _ c.loop-k.invariant.0),
  sym (check_turns c.loop-k.now c.loop-k.k c.those-back.result c.bottleneck_rate-b.result c.loop-k-test.true c.bottleneck_rate-b.ensures.exact (found c.before.before) c.if-back-eq0.false c.turned-now.result c.turned-now.ensures) ∙ c.loop-k.invariant.1,
)

pub returns : goal.returns
returns c = checked_is _ _ _ c.bottleneck_rate-last.ensures.exact (sym (check_ends c.loop-k.now c.loop-k.k c.loop-k-test.false) ∙ c.loop-k.invariant.1)
