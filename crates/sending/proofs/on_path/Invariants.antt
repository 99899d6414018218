-- What the loop of `sending::on_path` keeps: what is found, and what is left to look at, come to the whole.
use mathlib.Core.Path.{◌≡◌}
use Rattle.sessions.specs.Set.{members, walk}
use Rattle.sending.specs.Sending.{add_on_path, on_path_of}
use Rattle.sending.proofs.on_path.Given as goal

abbrev pub invariant-loop-r : goal.invariant-loop-r
invariant-loop-r l = walk (add_on_path l.t l.e) l.found (members l.r-iterator.left) ≡ on_path_of l.t l.e l.to
