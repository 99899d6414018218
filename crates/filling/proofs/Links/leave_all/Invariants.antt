-- What the loop of `filling::Links::leave_all` keeps.
use Rattle.sessions.proofs.Remaining.{Remains}
use Rattle.filling.proofs.Leaving.{Departed}
use Rattle.filling.proofs.Links.leave_all.Given as goal

abbrev pub invariant-loop-s : goal.invariant-loop-s
invariant-loop-s l =
    (goal.iterator-loop-s).can_next l.s-iterator × (goal.iterator-loop-s).is_finite l.s-iterator
    × Remains 32 l.chosen l.s-iterator.left
    × Departed l.path l.chosen l.s-iterator.left l.share l.initial.self l.self
