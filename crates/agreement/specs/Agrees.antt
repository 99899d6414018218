-- 00, demand 3: the rates of a table are the calculation's, fraction for fraction. w are the words of the table.
-- Assumes nothing: definitions.
use Rattle.std.specs.Prelude.{Ok, true, List, ◌≡◌, ℕ, ◌<◌, get_or, Some}
use Rattle.calculation.specs.Calculating.{Outcome, calculate_of, results_of}
use Rattle.conditions.specs.Conditions.{Active, OnPath}
use Rattle.fractions.specs.declared.Rate.{Rate}
use Rattle.fractions.specs.Fraction.{frac}
use Rattle.links.specs.Links.{holds, rate_at}
use Rattle.declarations.specs.declared.Declared.{Declared}
use Rattle.table.specs.Words.{place_of, source_of}
use Rattle.present_set.specs.Held.{declarations_in}

-- what the calculation gives session s, one of those that d declares: numerator and denominator of the definition that `calculate` is proved equal to
abbrev pub calculated_rate : Declared → ℕ → Rate
calculated_rate d s = frac (get_or (results_of d).nums s 0) (get_or (results_of d).dens s 0)

-- what stands in the slices for session s after a call of `calculate`
abbrev pub written_rate : Outcome → ℕ → Rate
written_rate o s = frac (get_or o.nums s 0) (get_or o.dens s 0)

-- a link holds session s with the rate x
pub record HasRateAt (w : List ℕ) (e s : ℕ) (x : Rate) : Type 0 where
  pub held : holds (place_of w e) s ≡ true
  pub rate : rate_at (place_of w e) s ≡ x

-- session s has the rate x at its source and at every link of its path, and was last told it
pub record HasRate (w : List ℕ) (s : ℕ) (x : Rate) : Type 0 where
  pub source : (source_of w s).rate ≡ x
  pub links : (e : ℕ) → OnPath w s e → HasRateAt w e s x
  pub told : (source_of w s).told ≡ Some x

-- every active session has the rate that the calculation gives it for the declarations that the table holds
pub record Agrees (w : List ℕ) : Type 0 where
  pub rates : (s : ℕ) → s < 32 → Active w s → HasRate w s (calculated_rate (declarations_in w) s)

-- a call of `calculate` on the input s accepts it with the table's links and active sessions, and writes for each of these the rate that it has and was
-- last told
pub record GivesRates (w s nums dens places : List ℕ) : Type 0 where
  pub accepted : (calculate_of s nums dens places).answer ≡ Ok (record { links = (declarations_in w).links; sessions = (declarations_in w).sessions })
  pub rates : (t : ℕ) → t < 32 → Active w t → HasRate w t (written_rate (calculate_of s nums dens places) t)
