-- What the loop of `links::sums::sum_of_f` keeps: what is left to add comes to the whole.
use mathlib.Core.Path.{◌≡◌}
use Rattle.sessions.specs.Set.{members, walk}
use Rattle.links.specs.Links.{TotalSized, more_of, rate_at, sum_of}
use Rattle.links.proofs.sums.sum_of_f.Given as goal

abbrev pub invariant-loop-s : goal.invariant-loop-s
invariant-loop-s l =
    TotalSized l.p.link.capacity l.total × (walk (λ a s. more_of l.p.link.capacity a (rate_at l.p s)) l.total (members l.s-iterator.left) ≡ sum_of l.p)
