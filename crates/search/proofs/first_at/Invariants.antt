-- What the loops of `search::first_at` keep.
use mathlib.Core.Path.{◌≡◌}
use Rattle.std.specs.Prelude.{None}
use Rattle.sessions.proofs.Remaining.{Remains}
use Rattle.search.proofs.Turns.{NoneOf, Tried}
use Rattle.search.proofs.first_at.Given as goal

abbrev pub invariant-loop-e : goal.invariant-loop-e
invariant-loop-e l = (l.found ≡ None) × NoneOf l.path l.links l.s l.e-index

abbrev pub invariant-search : goal.invariant-search
invariant-search l =
    (goal.iterator-search).can_next l.s-iterator × (goal.iterator-search).is_finite l.s-iterator
    × (l.found ≡ None)
    × Remains 32 l.left l.s-iterator.left
    × Tried l.path l.links l.left l.s-iterator.left
