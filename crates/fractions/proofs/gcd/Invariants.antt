-- What the loop of `fractions::gcd` keeps.
use Prim.Native.Nat.{◌+◌}
use Rattle.fractions.proofs.Stripping.{Leads}
use Rattle.fractions.proofs.gcd.Given as goal

abbrev pub invariant-loop-x : goal.invariant-loop-x
invariant-loop-x l = Leads l.a l.b l.twos l.x l.y

abbrev pub decreases-loop-x : goal.decreases-loop-x
decreases-loop-x l = l.x + l.y
