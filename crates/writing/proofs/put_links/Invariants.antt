-- What the loop of `writing::put_links` keeps.
use Rattle.writing.specs.Writing.{link_from}
use Rattle.writing.proofs.LaidOut.{Laid}
use Rattle.writing.proofs.put_links.Given as goal

abbrev pub invariant-loop-e : goal.invariant-loop-e
invariant-loop-e l =
    (goal.iterator-loop-e).can_next l.e-iterator × (goal.iterator-loop-e).is_finite l.e-iterator
    × Laid 64 (link_from l.d.capacity) l.d.links l.e-iterator.left l.initial.out l.from l.at l.out
