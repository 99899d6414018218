-- What the loop of `handed::path_passes` keeps.
use mathlib.Core.Bool.{true, ◌&&◌}
use mathlib.Core.Path.{◌≡◌}
use Prim.Native.Nat.{◌-◌, ◌≤◌}
use Rattle.records.specs.Format.{all}
use Rattle.handed.specs.Handed.{stop_declared, stop_new}
use Rattle.handed.proofs.Stops.{Seen}
use Rattle.handed.proofs.path_passes.Given as goal

abbrev pub invariant-loop-i : goal.invariant-loop-i
invariant-loop-i l = (l.i ≤ l.n) × (l.n ≤ 8) × (all l.i (λ j. stop_declared l.t l.s j && stop_new l.t l.s j) ≡ true) × Seen l.t l.s l.i l.seen

abbrev pub decreases-loop-i : goal.decreases-loop-i
decreases-loop-i l = l.n - l.i
