-- What the loop of `sending::send_all` keeps: what is left to send comes to the whole.
use mathlib.Core.Path.{◌≡◌}
use Rattle.sessions.specs.Set.{members, walk}
use Rattle.sending.specs.Sending.{send_all_of, send_up_of}
use Rattle.sending.proofs.send_all.Given as goal

abbrev pub invariant-loop-r : goal.invariant-loop-r
invariant-loop-r l = walk (send_up_of l.e l.b) l.t (members l.r-iterator.left) ≡ send_all_of l.initial.t l.e l.b l.to
