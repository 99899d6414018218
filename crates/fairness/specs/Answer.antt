-- What is asked of a calculation of rates (00, demand 2; 01, "Fractions"): they are in lowest terms, and max-min fair.
-- Assumes nothing: definitions.
use Rattle.std.specs.Prelude.{ℕ}
use Rattle.fractions.specs.Fraction.{Lowest, Same, frac, lowest_of}
use Rattle.fractions.specs.declared.Rate.{Rate}
use Rattle.fairness.specs.Figure1.{figure1, rate}
use Rattle.fairness.specs.MaxMin.{Active, MaxMinFair, Problem}

-- the rates r of the active sessions are max-min fair (written over one denominator), each in lowest terms
pub record Answer (p : Problem) (r : ℕ → Rate) : Type 0 where
  pub over : ℕ
  pub rates : ℕ → ℕ
  pub fair : MaxMinFair p over rates
  pub shown : (s : ℕ) → Active p s → Same (r s) (frac (rates s) over)
  pub lowest : (s : ℕ) → Active p s → Lowest (r s)

-- the rates of Figure 1 in lowest terms
abbrev pub figure1_rate : Problem → ℕ → Rate
figure1_rate p s = lowest_of (rate (figure1 p) s) (figure1 p).den
