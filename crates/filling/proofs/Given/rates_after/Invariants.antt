-- What the loop of `filling::Given::rates_after` keeps.
use lib.ListN.{get_or}
use Rattle.sessions.proofs.Remaining.{Remains}
use Rattle.filling.specs.OneRound.{rate_after}
use Rattle.filling.proofs.Visits.{Visited}
use Rattle.filling.proofs.Given.rates_after.Given as goal

abbrev pub invariant-loop-s : goal.invariant-loop-s
invariant-loop-s l =
    (goal.iterator-loop-s).can_next l.s-iterator × (goal.iterator-loop-s).is_finite l.s-iterator
    × Remains 32 l.these l.s-iterator.left
    × Visited (λ j. rate_after l.self (get_or l.initial.rate j 0) j) l.initial.rate l.s-iterator.left l.rate
