-- What the loop of `links::check::highest` keeps: the highest of what is left, and of what was seen, is the highest.
use mathlib.Core.Path.{◌≡◌}
use Rattle.sessions.specs.Set.{members, walk}
use Rattle.fractions.specs.Fraction.{Sized, max_rate}
use Rattle.links.specs.FCheck.{higher_of, highest_of}
use Rattle.links.specs.Links.{rate_at}
use Rattle.links.proofs.check.highest.Given as goal

abbrev pub invariant-loop-s : goal.invariant-loop-s
invariant-loop-s l = Sized max_rate l.m × (walk (λ a s. higher_of a (rate_at l.p s)) l.m (members l.s-iterator.left) ≡ highest_of l.p)
