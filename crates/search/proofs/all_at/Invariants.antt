-- What the loop of `search::all_at` keeps.
use Rattle.search.proofs.Turns.{Found}
use Rattle.search.proofs.all_at.Given as goal

abbrev pub invariant-loop-s : goal.invariant-loop-s
invariant-loop-s l = Found l.path l.opens l.links l.found l.left

abbrev pub decreases-loop-s : goal.decreases-loop-s
decreases-loop-s l = l.left
