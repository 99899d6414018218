-- What the loop of `filling::Links::join_path` keeps.
use Rattle.filling.specs.Crossings.{Joins}
use Rattle.filling.proofs.Crossings.{some_hop}
use Rattle.filling.proofs.Links.join_path.Given as goal

abbrev pub invariant-loop-e : goal.invariant-loop-e
invariant-loop-e l = Joins (some_hop l.path l.s l.e-index) l.s l.initial.self l.self
