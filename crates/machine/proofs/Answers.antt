-- Each way out of the machine's calls: a table that is turned away, an input that is too long, a run; and what an answer on `settled` means.
-- Assumes nothing.
use Rattle.std.specs.Prelude.{Result, Ok, Err}
use mathlib.Core.Bool.{Bool, cond, false, true}
use mathlib.Core.List.{List}
use mathlib.Core.Path.{◌≡◌, ap, refl, sym, ◌∙◌}
use Prim.Native.Nat.{ℕ, ◌≤◌, ◌<◌}
use borrow.Author.Tests.{le-ltb, lt-ltb}
use lib.Dec.{ltb}
use lib.ListN.{length}
use Rattle.conditions.specs.Settled.{settled_of}
use Rattle.conditions.proofs.Means.{means_settled, settled_means}
use Rattle.fractions.proofs.Cases.{chosen}
use Rattle.handed.specs.Handed.{passes14_of}
use Rattle.handed.proofs.Passing.{means_passes, passes_means}
use Rattle.records.specs.declared.Refusal.TheVariants as refusal
use Rattle.records.specs.Run as records
use Rattle.records.specs.declared.Refused.{Refused}
use Rattle.records.specs.Refusals.{refused_at}
use Rattle.records.proofs.Somes.{clash}
use Rattle.machine.specs.declared.Ran.{Ran}
use Rattle.machine.specs.Machine.{Means, answer_of, machine_of, nothing_taken, ran_of, run_records_of, turned_away}

-- A RUN ---------------------------------------------------------------------------------------------------------------

-- what a run says, from what it comes to
pub run_says : (r : Ran) (u : List ℕ) (m : records.Ran (List ℕ)) → ran_of r u ≡ m → records.said_of r.taken r.end ≡ records.said_of m.taken m.end
run_says r u m e = ap (λ (x : records.Ran (List ℕ)). records.said_of x.taken x.end) e

module _ (w s : List ℕ) (p : Bool) (is : p ≡ passes14_of w) where
  abbrev within : records.Ran (List ℕ)
  within = cond (ltb 32768 (length s)) (turned_away refusal.TooLong w) (run_records_of w s)

  pub handed_away : p ≡ false → (r : Ran) → r ≡ nothing_taken refusal.BadTable → ran_of r w ≡ machine_of w s
  unfolding machine_of
  handed_away h r e = ap (λ (x : Ran). ran_of x w) e ∙ sym (chosen (passes14_of w) false within (turned_away refusal.BadTable w) (sym is ∙ h))

  module _ (h : p ≡ true) where
    passed : machine_of w s ≡ within
    unfolding machine_of
    passed = chosen (passes14_of w) true within (turned_away refusal.BadTable w) (sym is ∙ h)

    pub too_long : 32768 < length s → (r : Ran) → r ≡ nothing_taken refusal.TooLong → ran_of r w ≡ machine_of w s
    too_long l r e =
        ap (λ (x : Ran). ran_of x w) e
        ∙ sym (passed ∙ chosen (ltb 32768 (length s)) true (turned_away refusal.TooLong w) (run_records_of w s) (lt-ltb 32768 (length s) l))

    pub runs : length s ≤ 32768 → (r : Ran) (u : List ℕ) → ran_of r u ≡ run_records_of w s → ran_of r u ≡ machine_of w s
    runs l r u e = e ∙ sym (passed ∙ chosen (ltb 32768 (length s)) false (turned_away refusal.TooLong w) (run_records_of w s) (le-ltb 32768 (length s) l))

-- SETTLED -------------------------------------------------------------------------------------------------------------

module _ (w : List ℕ) (p : Bool) (is : p ≡ passes14_of w) where
  abbrev answer : Result Bool Refused
  answer = cond (settled_of w) (Ok true) (Ok false)

  pub question_refused : p ≡ false → (Err (refused_at refusal.BadTable 0) ≡ answer_of w) × Means w (Err (refused_at refusal.BadTable 0))
  unfolding answer_of
  question_refused h = (
    sym (chosen (passes14_of w) false answer (Err (refused_at refusal.BadTable 0)) (sym is ∙ h)),
    (refl, refl, λ g. clash (passes14_of w) (means_passes w g) (sym is ∙ h)),
  )

  module _ (h : p ≡ true) where
    asked : answer_of w ≡ answer
    unfolding answer_of
    asked = chosen (passes14_of w) true answer (Err (refused_at refusal.BadTable 0)) (sym is ∙ h)

    pub answered : (q : Bool) → q ≡ settled_of w → (Ok q ≡ answer_of w) × Means w (Ok q)
    answered true k = (sym (asked ∙ chosen (settled_of w) true (Ok true) (Ok false) (sym k)), (passes_means w (sym is ∙ h), settled_means w (sym k)))
    answered false k = (
      sym (asked ∙ chosen (settled_of w) false (Ok true) (Ok false) (sym k)),
      (passes_means w (sym is ∙ h), λ g. clash (settled_of w) (means_settled w g) (sym k)),
    )
