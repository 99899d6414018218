-- `links::sum_of_f` meets its contract: what is left to add comes to the whole.
-- Assumes nothing.
use mathlib.Core.Path.{sym, subst, ◌∙◌}
use native.Mathlib.Omega.{arith}
use borrow.Author.Rules.{rules}
use Rattle.fractions.proofs.Ranges.{whole_sized}
use Rattle.sessions.proofs.Loops.{walk_last, walk_next}
use Rattle.fractions.proofs.Cases.{said_too}
use Rattle.links.specs.Links.{TotalSized, more_of, rate_at, sum_of, total_said}
use Rattle.links.proofs.Sizes.{more_sized}
use Rattle.links.proofs.sums.sum_of_f.Goals as goal

pub loop-s-init : goal.loop-s-init
unfolding sum_of
loop-s-init c = (whole_sized {n = 0} (omega arith), search rules)

pub more-total-requires : goal.more-total-requires
more-total-requires c = (c.requires.capacity, c.loop-s.invariant.0, c.requires.rates.sized _ c.in-Some.ensures.steps.1)

pub loop-s-preserved : goal.loop-s-preserved
loop-s-preserved c = (
  subst (TotalSized c.args.p.link.capacity) (sym c.more-total.ensures.exact) (more_sized _ _ _ c.requires.capacity c.loop-s.invariant.0 (c.requires.rates.sized _ c.in-Some.ensures.steps.1)),
  walk_next (λ a s. more_of c.args.p.link.capacity a (rate_at c.args.p s)) _ c.in-Some.ensures.steps.0 c.more-total.ensures.exact ∙ c.loop-s.invariant.1,
)

pub returns : goal.returns
returns c = said_too total_said (walk_last _ _ c.in-None.ensures.steps.0 ∙ c.loop-s.invariant.1)
