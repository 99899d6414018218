-- What the loop of `filling::Links::grow` keeps.
use mathlib.Core.Bool.{cond}
use mathlib.Core.Path.{◌≡◌}
use Prim.Native.Nat.{◌*◌}
use lib.Dec.{eqb}
use lib.ListN.{get_or}
use Rattle.sessions.specs.Set.{has}
use Rattle.sessions.proofs.Remaining.{Remains}
use Rattle.filling.proofs.Visits.{Visited}
use Rattle.filling.proofs.Links.grow.Given as goal

abbrev pub invariant-loop-e : goal.invariant-loop-e
invariant-loop-e l =
    (goal.iterator-loop-e).can_next l.e-iterator × (goal.iterator-loop-e).is_finite l.e-iterator
    × Remains 64 l.initial.self.busy l.e-iterator.left
    × Visited (λ j. cond (eqb (has j l.initial.self.busy) 1) (get_or l.initial.self.room j 0 * l.by) (get_or l.initial.self.room j 0)) l.initial.self.room l.e-iterator.left l.self.room
    × (l.self ≡ record l.initial.self { room = l.self.room })
