-- What the loop of `filling::Links::count_all` keeps.
use mathlib.Core.Path.{◌≡◌}
use lib.Count.{ones}
use lib.ListN.{get_or, length}
use Rattle.sessions.proofs.Remaining.{Remains}
use Rattle.filling.proofs.Visits.{Visited}
use Rattle.filling.proofs.Links.count_all.Given as goal

abbrev pub invariant-loop-e : goal.invariant-loop-e
invariant-loop-e l =
    (goal.iterator-loop-e).can_next l.e-iterator × (goal.iterator-loop-e).is_finite l.e-iterator
    × Remains 64 l.initial.self.busy l.e-iterator.left
    × Visited (λ j. ones (get_or l.initial.self.at j 0)) l.initial.self.count l.e-iterator.left l.self.count
    × (length l.initial.self.count ≡ 64)
    × (l.self ≡ record l.initial.self { count = l.self.count })
