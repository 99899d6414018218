-- What the loop of `links::waiting` keeps.
use mathlib.Core.Path.{◌≡◌}
use Rattle.links.specs.Links.{waiting_of}
use Rattle.links.proofs.waiting.Given as goal

abbrev pub invariant-loop-s : goal.invariant-loop-s
invariant-loop-s l = waiting_of l.next l.s-iterator.left ≡ waiting_of l.initial.next l.w
