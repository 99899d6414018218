-- What the loop of `declarations::declare_all` keeps.
use mathlib.Core.Path.{◌≡◌}
use Prim.Native.Nat.{◌-◌, ◌≤◌}
use lib.ListN.{length}
use Rattle.records.specs.Run.{run_from, run_of}
use Rattle.records.specs.declared.Call.TheVariants as call
use Rattle.declarations.specs.Declaring.{declare_of, judging, none_declared}
use Rattle.declarations.proofs.declare_all.Given as goal

abbrev pub invariant-loop-at : goal.invariant-loop-at
invariant-loop-at l =
    (l.taken ≤ l.at) × (l.at ≤ length l.s)
    × (run_from call.Calculation (judging l.s) (declare_of l.s) l.s (length l.s - l.taken) l.declared l.taken l.at
    ≡ run_of call.Calculation (judging l.s) (declare_of l.s) l.s none_declared)

abbrev pub decreases-loop-at : goal.decreases-loop-at
decreases-loop-at l = length l.s - l.at
