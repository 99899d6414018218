-- What the loop of `filling::Links::join_all` keeps.
use Rattle.sessions.proofs.Remaining.{Remains}
use Rattle.filling.specs.Crossings.{Beside}
use Rattle.filling.proofs.Crossings.{Placed}
use Rattle.filling.proofs.Links.join_all.Given as goal

abbrev pub invariant-loop-s : goal.invariant-loop-s
invariant-loop-s l =
    (goal.iterator-loop-s).can_next l.s-iterator × (goal.iterator-loop-s).is_finite l.s-iterator
    × Remains 32 l.sessions l.s-iterator.left
    × Placed l.path l.sessions l.s-iterator.left l.self × Beside l.initial.self l.self
