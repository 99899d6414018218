-- What the reported numbers mean: an accepted calculation is max-min fair (00, demand 2) and says what binds (02, §2), settled is 01's five
-- conditions, and what was written is the present set (02, §3).
-- Assumes nothing: definitions.
use Rattle.std.specs.Prelude.{List, ◌⊎◌, ◌≡◌, ℕ, get_or}
use Rattle.calculation.specs.Calculating.{Placed}
use Rattle.conditions.specs.Conditions.{FiveConditions}
use Rattle.fairness.specs.Answer.{Answer}
use Rattle.filling.specs.Lines.{problem_of}
use Rattle.fractions.specs.Fraction.{frac}
use Rattle.handed.specs.Passes.{Passes}
use Rattle.declarations.specs.Declaring.{declarations_of}
use Rattle.present_set.specs.Present.{Absent, Present}

-- where the report's first word is 0, the slices hold for the declared sessions the rates in lowest terms that are max-min fair
abbrev pub FairWhereTaken : List ℕ → List ℕ → List ℕ → List ℕ → Type 0
FairWhereTaken s report nums dens =
    get_or report 0 0 ≡ 0 → Answer (problem_of (declarations_of s).declared) (λ t. frac (get_or nums t 0) (get_or dens t 0))

-- and what binds each of them at these rates
abbrev pub BindsWhereTaken : List ℕ → List ℕ → List ℕ → List ℕ → List ℕ → Type 0
BindsWhereTaken s report nums dens places =
    get_or report 0 0 ≡ 0 → Placed (declarations_of s).declared (λ t. frac (get_or nums t 0) (get_or dens t 0)) (λ t. get_or places t 0)

-- the number of `settled`, of a table that passes the test of refusal 14: 1 under the five conditions, 0 where they do not hold; 14 of one that fails it;
-- no other
pub record SettledMeans (w : List ℕ) (n : ℕ) : Type 0 where
  pub number : (n ≡ 1) ⊎ ((n ≡ 0) ⊎ (n ≡ 14))
  pub yes : n ≡ 1 → Passes w × FiveConditions w
  pub no : n ≡ 0 → Passes w × (FiveConditions w → ⊥)
  pub refused : n ≡ 14 → Passes w → ⊥

-- a report of `umbraconga_records`, of a table w and a slice that was `out` and is `after`: where its first word is 0, so many bytes of the present set
-- were written, and else nothing was
pub record RecordsMean (w out after report : List ℕ) : Type 0 where
  pub written : get_or report 0 0 ≡ 0 → Present w out after (get_or report 2 0)
  pub refused : (get_or report 0 0 ≡ 0 → ⊥) → Absent w out after (get_or report 0 0) (get_or report 1 0)
