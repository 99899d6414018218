-- What every record keeps, whether it is taken or refused, every run keeps; and where the empty table has it, every table that is reached has it.
-- Assumes nothing.
use mathlib.Core.List.{List}
use Prim.Native.Nat.{ℕ}
use lib.Dec.{ltb}
use lib.ListN.{length}
use Rattle.events.specs.Events.{event_of}
use Rattle.fractions.proofs.Cases.{cases}
use Rattle.handed.specs.Handed.{passes14_of}
use Rattle.machine.specs.Machine.{acting, judging, machine_of, run_records_of}
use Rattle.records.specs.declared.Call.TheVariants as call
use Rattle.records.specs.declared.Record.{Record}
use Rattle.records.specs.Format.{Bytes, RecordOk}
use Rattle.records.specs.Limits.{input_limit}
use Rattle.records.specs.Run as records
use Rattle.records.proofs.Runs.{run_keeps}
use Rattle.table.specs.Words.{empty_words}
use Rattle.reachable.specs.Reachable.{Reachable, empty, ran}

module _ (P : List ℕ → Type 0) (keeps : (s w : List ℕ) (x : Record) → RecordOk s x → P w → P (event_of s w x).words) where
  run_kept : (w s : List ℕ) → Bytes s → P w → P (run_records_of w s).state
  unfolding run_records_of
  run_kept w s bytes i = run_keeps P call.Machine (judging s) (acting s) s bytes (λ z x o k t. keeps s z x k o) (length s) w 0 0 i

  pub machine_kept : (w s : List ℕ) → Bytes s → P w → P (machine_of w s).state
  unfolding machine_of
  machine_kept w s bytes i =
      cases (λ (r : records.Ran (List ℕ)). P r.state) (passes14_of w) _ _
      (λ e. cases (λ (r : records.Ran (List ℕ)). P r.state) (ltb input_limit (length s)) _ _ (λ f. i) (λ f. run_kept w s bytes i))
      (λ e. i)

  pub reachable_kept : P empty_words → (w : List ℕ) → Reachable w → P w
  reachable_kept i w empty = i
  reachable_kept i w (ran {w = b} r s bytes) = machine_kept b s bytes (reachable_kept i b r)
