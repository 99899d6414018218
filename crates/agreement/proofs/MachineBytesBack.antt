-- 02, §3: "reading and writing a file in this order gives its bytes back", through the machine: `run` on the empty table, then the writer's call.
-- Assumes nothing.
use Rattle.std.specs.Prelude.{Ok}
use mathlib.Core.Bool.{true}
use mathlib.Core.List.{List}
use mathlib.Core.Logic.{◌↔◌}
use mathlib.Core.Path.{◌≡◌, ap, subst, sym, ◌∙◌}
use Prim.Native.Nat.{ℕ, ◌≤◌}
use native.Mathlib.Omega.{arith}
use lib.ListN.{length}
use Rattle.declarations.specs.Declaring.{declarations_of}
use Rattle.machine.specs.Machine.{machine_of}
use Rattle.reachable.specs.Reachable.{empty, ran}
use Rattle.reachable.proofs.ReachablePasses.{reachable_passes_14}
use Rattle.records.specs.Format.{Bytes}
use Rattle.table.specs.Words.{empty_words}
use Rattle.writing.specs.Order.{in_order}
use Rattle.writing.specs.Writing.{records_of}
use Rattle.writing.specs.Written.{written}
use Rattle.writing.proofs.BytesBack.{bytes_back}
use Rattle.writing.proofs.Declared.{declarations_declarable}
use Rattle.writing.proofs.EqualOutput.{same_output}
use Rattle.writing.proofs.Whole.{enough}
use Rattle.present_set.specs.Held.{declarations_in}
use Rattle.present_set.specs.Present.{present_of}
use Rattle.present_set.proofs.Called.{good_table}
use Rattle.agreement.specs.Kinds.{declares_only}
use Rattle.agreement.specs.Loaded.{Loaded}
use Rattle.agreement.proofs.TakenAccepted.{taken_accepted}
use Rattle.agreement.proofs.OutputKinds.{accepted_kinds}
use Rattle.agreement.proofs.RunBack.{run_back}

-- a file in the writer's order that the calculation accepts holds the records of what it declares, so the machine takes these
loaded : (s : List ℕ) → Bytes s → in_order s ≡ true → (declarations_of s).end ≡ Ok tt → Loaded (declarations_of s).declared (machine_of empty_words s)
loaded s bytes rises accepted =
    let d = (declarations_of s).declared in
    subst (λ (v : List ℕ). Loaded d (machine_of empty_words v)) (bytes_back s bytes accepted rises) (run_back d (declarations_declarable s bytes))

-- the calculation accepts a file in this order exactly where it has no kinds but 1 and 2 and the machine takes it whole, from the empty table on
pub both_accept : (s : List ℕ) → Bytes s → in_order s ≡ true
    → ((declarations_of s).end ≡ Ok tt) ↔ ((declares_only s ≡ true) × ((machine_of empty_words s).end ≡ Ok tt))
both_accept s bytes rises = (λ e. (accepted_kinds s e, (loaded s bytes rises e).end), λ b. taken_accepted s bytes b.0 b.1)

-- a file of links by rising number, then sessions by rising number, and nothing else, that `run` takes whole on the empty table: of the table after it
-- the writer's call writes the file's bytes, and reports their count, into every slice that is long enough
pub machine_bytes_back : (s : List ℕ) → Bytes s → in_order s ≡ true → declares_only s ≡ true → (machine_of empty_words s).end ≡ Ok tt
    → (out : List ℕ) → length s ≤ length out → present_of (machine_of empty_words s).state out ≡ written s out
machine_bytes_back s bytes rises kinds taken out h =
    let d = (declarations_of s).declared in
    let w = (machine_of empty_words s).state in
    let accepted = taken_accepted s bytes kinds taken in
    let held : records_of (declarations_in w) ≡ s =
    sym (same_output d (declarations_in w) (loaded s bytes rises accepted).same) ∙ bytes_back s bytes accepted rises in
    good_table w out (reachable_passes_14 w (ran empty s bytes))
    ∙ enough (declarations_in w) out (omega (arith, h, ap length held))
    ∙ ap (λ (v : List ℕ). written v out) held
