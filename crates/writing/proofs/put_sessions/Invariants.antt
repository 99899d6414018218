-- What the loop of `writing::put_sessions` keeps.
use Rattle.writing.specs.Writing.{session_from}
use Rattle.writing.proofs.LaidOut.{Laid}
use Rattle.writing.proofs.put_sessions.Given as goal

abbrev pub invariant-loop-t : goal.invariant-loop-t
invariant-loop-t l =
    (goal.iterator-loop-t).can_next l.t-iterator × (goal.iterator-loop-t).is_finite l.t-iterator
    × Laid 32 (session_from l.d.access l.d.maximum l.d.path) l.d.sessions l.t-iterator.left l.initial.out l.from l.at l.out
