-- 01, refusal 12: "a partial sum or B that the rule reads, or one of any link after the step, has a denominator over 1,048,576". The machine tests it
-- at the link of the step. After a run on any table that passes the test of refusal 14, reached or handed, every link is within it and no F sums past
-- C, also where the run ended in a refusal.
-- Assumes nothing.
use Rattle.std.specs.Prelude.{Err}
use mathlib.Core.Bool.{true}
use mathlib.Core.List.{List}
use mathlib.Core.Path.{◌≡◌}
use Prim.Native.Nat.{ℕ, ◌<◌}
use lib.ListN.{length}
use Rattle.handed.specs.Handed.{passes14_of}
use Rattle.handed.proofs.Passing.{passes_means}
use Rattle.links.specs.declared.NoTotal.TheVariants as no_total
use Rattle.links.specs.Links.{B, is_fine, sum_of}
use Rattle.machine.specs.Machine.{machine_of}
use Rattle.records.specs.Format.{Bytes}
use Rattle.soundness.proofs.Shares.{sound_not_past}
use Rattle.table.specs.Words.{place_of}
use Rattle.reachable.specs.Invariant.{Safe}
use Rattle.reachable.proofs.EveryRun.{machine_kept}
use Rattle.reachable.proofs.PassesSafe.{passes_safe}
use Rattle.reachable.proofs.SafeRecords.{event_safe}

pub handed_stays_safe : (w s : List ℕ) → length w ≡ 9153 → Bytes s → passes14_of w ≡ true → Safe (machine_of w s).state
handed_stays_safe w s n bytes t = machine_kept Safe event_safe w s bytes (passes_safe w n (passes_means w t))

pub handed_stays_within_c : (w s : List ℕ) → length w ≡ 9153 → Bytes s → passes14_of w ≡ true → (e : ℕ) → e < 64
    → sum_of (place_of (machine_of w s).state e) ≡ Err no_total.PastC
    → ⊥
handed_stays_within_c w s n bytes t e l = sound_not_past (place_of (machine_of w s).state e) ((handed_stays_safe w s n bytes t).place e l)

pub handed_stays_fine : (w s : List ℕ) → length w ≡ 9153 → Bytes s → passes14_of w ≡ true → (e : ℕ) → e < 64
    → is_fine (B (place_of (machine_of w s).state e)) ≡ true
handed_stays_fine w s n bytes t e l = (handed_stays_safe w s n bytes t).fine e l
