-- One word of a table: a number within its range, or the code of a state, of a Response's kind, of a link's name or of a told rate.
-- Reading is total: a word outside its field's range reads as 0, and two words that are no rate within the limits as 0/1.
-- Assumes nothing: definitions.
use Rattle.std.specs.Prelude.{Bool, cond, false, true, ℕ, eqb, leb, None, Option, Some}
use Rattle.fractions.specs.Fraction.{frac, kept_of}
use Rattle.fractions.specs.declared.Rate.{Rate}
use Rattle.links.specs.declared.Mu.{Mu}
use Rattle.links.specs.declared.Mu.TheVariants as mu
use Rattle.tasks.specs.declared.Eta.{Eta}
use Rattle.tasks.specs.declared.Eta.TheVariants as eta
use Rattle.tasks.specs.declared.Tau.{Tau}
use Rattle.tasks.specs.declared.Tau.TheVariants as tau

-- a number of at most `most`, or 0 where the word is over it
unfoldable pub field_of : ℕ → ℕ → ℕ
field_of most n = cond (leb n most) n 0

abbrev pub bit_of : Bool → ℕ
bit_of true = 1
bit_of false = 0

unfoldable pub mu_of : ℕ → Mu
mu_of n = cond (eqb n 1) mu.WaitingProbe (cond (eqb n 2) mu.WaitingResponse mu.Idle)

abbrev pub mu_code : Mu → ℕ
mu_code mu.Idle = 0
mu_code mu.WaitingProbe = 1
mu_code mu.WaitingResponse = 2

unfoldable pub tau_of : ℕ → Tau
tau_of n = cond (eqb n 1) tau.Update (cond (eqb n 2) tau.Bottleneck tau.Response)

abbrev pub tau_code : Tau → ℕ
tau_code tau.Response = 0
tau_code tau.Update = 1
tau_code tau.Bottleneck = 2

-- a link's number, or 64 for the source's own line
unfoldable pub eta_of : ℕ → Eta
eta_of n = cond (eqb n 64) eta.Own (eta.Link (field_of 63 n))

abbrev pub eta_code : Eta → ℕ
eta_code eta.Own = 64
eta_code (eta.Link e) = e

unfoldable pub told_of : ℕ → ℕ → ℕ → Option Rate
told_of code n d = cond (eqb code 1) (Some (kept_of n d)) None

abbrev pub told_code : Option Rate → ℕ
told_code None = 0
told_code (Some x) = 1

-- the two words of the rate told: 0 and 0 where none was
abbrev pub told_rate : Option Rate → Rate
told_rate None = frac 0 0
told_rate (Some x) = x
