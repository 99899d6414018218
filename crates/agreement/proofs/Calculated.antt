-- Rates of a table that answer the problem of some declarations are what the calculation gives for these: what its definition says, and what
-- `calculate` writes for an input with these declarations.
-- Assumes nothing.
use Rattle.std.specs.Prelude.{Ok}
use mathlib.Core.Bool.{true}
use mathlib.Core.List.{List}
use mathlib.Core.Path.{◌≡◌, ap₂, refl, sym, ◌∙◌}
use Prim.Native.Nat.{ℕ, ◌<◌}
use borrow.Author.Tests.{eqb-true}
use Rattle.calculation.proofs.Outcomes.{ordered_of}
use Rattle.calculation.proofs.SameResults.{active}
use Rattle.calculation.specs.Calculating.{calculate_of, results_of}
use Rattle.fairness.proofs.Answers.{answer_unique, figure1_answer}
use Rattle.fairness.proofs.Running.{values_at}
use Rattle.fairness.specs.Answer.{Answer, figure1_rate}
use Rattle.filling.specs.Lines.{problem_of}
use Rattle.fractions.specs.declared.Rate.{Rate}
use Rattle.fractions.specs.Fraction.{frac}
use Rattle.declarations.specs.Declaring.{declarations_of}
use Rattle.declarations.specs.declared.Declared.{Declared}
use Rattle.sessions.specs.Set.{has, has_of}
use Rattle.table.specs.Words.{source_of}
use Rattle.agreement.specs.Agrees.{calculated_rate, written_rate}
use Rattle.present_set.specs.Held.{Declares}

-- the definition's results are Figure 1 in lowest terms
pub results_are : (d : Declared) (s : ℕ) → s < 32 → calculated_rate d s ≡ figure1_rate (problem_of d) s
unfolding results_of
results_are d s h = ap₂ frac (values_at 32 s _ 0 h) (values_at 32 s _ 0 h)

-- so every answer to the problem has these rates
pub answer_calculated : (d : Declared) (r : ℕ → Rate) → Answer (problem_of d) r → (s : ℕ) → s < 32 → has_of s d.sessions ≡ true → r s ≡ calculated_rate d s
answer_calculated d r a s h m =
    answer_unique (problem_of d) r (figure1_rate (problem_of d)) a (figure1_answer (problem_of d)) s (active d s h (eqb-true (has s d.sessions) 1 m))
    ∙ sym (results_are d s h)

-- the rates at the sources, where they answer it
pub same_as_calculated : (d : Declared) (w : List ℕ) → Declares d w → Answer (problem_of d) (λ s. (source_of w s).rate)
    → (s : ℕ) → s < 32 → (source_of w s).active ≡ true → (source_of w s).rate ≡ calculated_rate d s
same_as_calculated d w l a s h m = answer_calculated d (λ s. (source_of w s).rate) a s h (l.active s h ∙ m)

module _ (s nums dens places : List ℕ) (links sessions : ℕ) (done : (calculate_of s nums dens places).answer ≡ Ok (record { links = links; sessions = sessions })) where
  -- and what `calculate` writes for the sessions that an accepted input declares
  pub calculate_writes : (t : ℕ) → t < 32 → has_of t (declarations_of s).declared.sessions ≡ true
      → written_rate (calculate_of s nums dens places) t ≡ calculated_rate (declarations_of s).declared t
  calculate_writes t h m =
      let o = calculate_of s nums dens places in
      answer_calculated (declarations_of s).declared (written_rate o)
      (ordered_of s nums dens places (Ok (record { links = links; sessions = sessions })) o.nums o.dens (sym done) refl refl)
      t h m
