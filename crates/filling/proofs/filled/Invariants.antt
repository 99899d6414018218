-- What the loop of `filling::filled` keeps.
use lib.Count.{ones}
use Rattle.filling.specs.OneRound.{Running}
use Rattle.filling.specs.State.{fill_of}
use Rattle.filling.proofs.filled.Given as goal

abbrev pub invariant-loop-opens : goal.invariant-loop-opens
invariant-loop-opens l =
    Running l.d (fill_of l.den l.opens l.links l.rate)

abbrev pub decreases-loop-opens : goal.decreases-loop-opens
decreases-loop-opens l = ones l.opens
