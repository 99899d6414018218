-- `links::highest` meets its contract: the highest of what is left, and of what was seen, is the highest.
-- Assumes nothing.
use mathlib.Core.Path.{sym, subst, ◌∙◌}
use borrow.Author.Rules.{rules}
use Rattle.sessions.proofs.Loops.{walk_last, walk_next}
use Rattle.fractions.specs.Fraction.{Sized, max_rate}
use Rattle.fractions.proofs.Ranges.{whole_sized}
use Rattle.links.specs.FCheck.{higher_of, highest_of}
use Rattle.links.specs.Links.{rate_at}
use Rattle.links.proofs.Sizes.{higher_sized}
use lib.Dec.{lit≤}
use Rattle.links.proofs.check.highest.Goals as goal

pub loop-s-init : goal.loop-s-init
unfolding highest_of
loop-s-init c = (whole_sized {m = max_rate} {n = 0} (lit≤ tt), search rules)

pub higher-m-requires : goal.higher-m-requires
higher-m-requires c = (c.loop-s.invariant.0, c.requires.sized _ c.in-Some.ensures.steps.1)

pub loop-s-preserved : goal.loop-s-preserved
loop-s-preserved c = (
  subst (Sized max_rate) (sym c.higher-m.ensures) (higher_sized _ _ c.loop-s.invariant.0 (c.requires.sized _ c.in-Some.ensures.steps.1)),
  walk_next (λ a s. higher_of a (rate_at c.args.p s)) _ c.in-Some.ensures.steps.0 c.higher-m.ensures ∙ c.loop-s.invariant.1,
)

pub returns : goal.returns
returns c = walk_last _ _ c.in-None.ensures.steps.0 ∙ c.loop-s.invariant.1
