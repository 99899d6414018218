-- What the loop of `links::check::check_f` keeps.
use mathlib.Core.Path.{◌≡◌}
use Prim.Native.Nat.{◌-◌}
use Rattle.links.specs.FCheck.{check_of}
use Rattle.links.specs.Links.{Workable}
use Rattle.links.proofs.check.check_f.Given as goal

abbrev pub invariant-loop-k : goal.invariant-loop-k
invariant-loop-k l = Workable l.now × (check_of (32 - l.k) l.now ≡ check_of 32 l.initial.now)
