-- 02, §3: whoever loads the present set of a settled table elsewhere gets the rates there that the sessions have here. The calculation accepts the bytes
-- that the writer's call gives for the table, and writes for each active session the rate that the session was last told.
-- Assumes nothing.
use Rattle.std.specs.Prelude.{Ok, Result, true}
use mathlib.Core.List.{List}
use mathlib.Core.Path.{◌≡◌, ap₂, refl, subst, sym, ◌∙◌}
use Prim.Native.Nat.{ℕ, ◌≤◌}
use native.Mathlib.Omega.{arith}
use lib.ListN.{length, take}
use Rattle.calculation.specs.declared.Calculated.{Calculated}
use Rattle.calculation.proofs.Outcomes.{accepted}
use Rattle.machine.specs.Machine.{answer_of}
use Rattle.records.specs.declared.Refused.{Refused}
use Rattle.reachable.specs.Reachable.{Reachable}
use Rattle.reachable.proofs.ReachablePasses.{reachable_passes}
use Rattle.writing.specs.Writing.{records_of}
use Rattle.writing.proofs.Lengths.{output_most}
use Rattle.writing.proofs.ReadBack.{read_back}
use Rattle.present_set.specs.Held.{declarations_in}
use Rattle.present_set.specs.Present.{present_of}
use Rattle.present_set.proofs.Called.{answer_means}
use Rattle.present_set.proofs.TableDeclarable.{table_declarable, table_written}
use Rattle.agreement.specs.Agrees.{GivesRates}
use Rattle.agreement.proofs.Agreement.{calculate_agrees}

-- THE RECORDS OF WHAT THE TABLE HOLDS ---------------------------------------------------------------------------------

-- the answer for an input that was accepted
abbrev accepting : ℕ → ℕ → Result Calculated Refused
accepting links sessions = Ok (record { links = links; sessions = sessions })

held_gives : (w : List ℕ) → Reachable w → answer_of w ≡ Ok true
    → (nums dens places : List ℕ) → 32 ≤ length nums → 32 ≤ length dens → 32 ≤ length places
    → GivesRates w (records_of (declarations_in w)) nums dens places
held_gives w r says nums dens places a b c =
    let s = records_of (declarations_in w) in
    let passes = reachable_passes w r in
    let x = table_written w passes in
    let same = (read_back (declarations_in w) (table_declarable w passes)).1 in
    let short : length s ≤ 32768 = omega (arith, output_most (declarations_in w)) in
    let done = accepted s nums dens places a b c short x.0 in
    record {
      accepted = done ∙ ap₂ accepting (sym same.links) (sym same.sessions);
      rates = calculate_agrees w r says s nums dens places _ _ done x.1;
    }

-- THE WRITER'S CALL ---------------------------------------------------------------------------------------------------

-- where it answers n, the n bytes that it wrote are the records of what the table holds
pub present_bytes : (w out : List ℕ) (n : ℕ) → (present_of w out).answer ≡ Ok n → take n (present_of w out).bytes ≡ records_of (declarations_in w)
present_bytes w out n e = (answer_means w out (Ok n) (present_of w out).bytes (sym e) refl).bytes

-- for every table that is reached and of which `settled` says yes, whatever the slice: `calculate` on the bytes that the writer's call gives
pub present_agrees : (w : List ℕ) → Reachable w → answer_of w ≡ Ok true
    → (out : List ℕ) (n : ℕ) → (present_of w out).answer ≡ Ok n
    → (nums dens places : List ℕ) → 32 ≤ length nums → 32 ≤ length dens → 32 ≤ length places
    → GivesRates w (take n (present_of w out).bytes) nums dens places
present_agrees w r says out n e nums dens places a b c =
    subst (λ (s : List ℕ). GivesRates w s nums dens places) (sym (present_bytes w out n e)) (held_gives w r says nums dens places a b c)
