-- What the loop of `machine::run_records` keeps.
use mathlib.Core.Path.{◌≡◌}
use Prim.Native.Nat.{◌-◌, ◌≤◌}
use lib.ListN.{length}
use Rattle.machine.specs.Machine.{run_records_of}
use Rattle.machine.proofs.Turns.{going}
use Rattle.machine.proofs.run_records.Given as goal

abbrev pub invariant-loop-at : goal.invariant-loop-at
invariant-loop-at l = (l.n ≤ l.at) × (l.at ≤ length l.s) × (going l.s (length l.s - l.n) l.t l.n l.at ≡ run_records_of l.initial.t l.s)

abbrev pub decreases-loop-at : goal.decreases-loop-at
decreases-loop-at l = length l.s - l.at
