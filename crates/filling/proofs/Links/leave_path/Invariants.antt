-- What the loop of `filling::Links::leave_path` keeps.
use Rattle.filling.specs.OneRound.{Leaves}
use Rattle.filling.proofs.Crossings.{some_hop}
use Rattle.filling.proofs.Links.leave_path.Given as goal

abbrev pub invariant-loop-e : goal.invariant-loop-e
invariant-loop-e l = Leaves (some_hop l.path l.s l.e-index) l.s l.share l.initial.self l.self
