-- What a report says of the answer behind it: a refusal's number is never 0, a calculation reported by 0 is the one that was ordered, with the places
-- that bind, and a number of `settled` and a report of the writer have the meaning of their answers.
-- Assumes nothing.
use Rattle.std.specs.Prelude.{Result, Ok, Err, Bool, true, false}
use mathlib.Core.List.{List}
use mathlib.Core.Logic.{inl, inr}
use mathlib.Core.Path.{◌≡◌, ap, refl, subst, sym, ◌∙◌}
use Prim.Native.Nat.{ℕ, ◌<◌}
use lib.ListN.{get_or}
use native.Mathlib.Omega.{arith}
use Rattle.calculation.specs.Calculating.{PlacesBind, Ordered, Outcome}
use Rattle.calculation.specs.declared.Calculated.{Calculated}
use Rattle.machine.specs.Machine.{Means, ran_of}
use Rattle.machine.specs.declared.Ran.{Ran}
use Rattle.records.specs.Refusals.{number_of, refused_at}
use Rattle.records.specs.Run as records
use Rattle.records.specs.declared.Refusal.{Refusal}
use Rattle.records.specs.declared.Refusal.TheVariants as refusal
use Rattle.records.specs.declared.Refused.{Refused}
use Rattle.present_set.specs.Present as present
use Rattle.exports.specs.Meanings.{BindsWhereTaken, FairWhereTaken, RecordsMean, SettledMeans}
use Rattle.exports.specs.Reports.{calculation_report_of, end_report_of, run_report_of, settled_number_of, wrote_report_of}

-- the documents' numbers start at 1
numbered : (r : Refusal) → 0 < number_of r
numbered refusal.TooLong = omega arith
numbered refusal.KindNotTaken = omega arith
numbered refusal.CutOff = omega arith
numbered refusal.NumberTooLarge = omega arith
numbered refusal.RateOutOfRange = omega arith
numbered refusal.BadPath = omega arith
numbered refusal.AlreadyThere = omega arith
numbered refusal.UndeclaredLink = omega arith
numbered refusal.NotActive = omega arith
numbered refusal.StillLeaving = omega arith
numbered refusal.BadPosition = omega arith
numbered refusal.TooFine = omega arith
numbered refusal.TooManyPackets = omega arith
numbered refusal.BadTable = omega arith
numbered refusal.ShortSlice = omega arith
numbered refusal.AboveLine = omega arith
numbered refusal.ShorterThanOutput = omega arith

-- a calculation's report, from what the calculation comes to
pub calculation_reported : (a : Result Calculated Refused) (report : List ℕ) (o : Outcome) → a ≡ o.answer → report ≡ calculation_report_of a → report ≡ calculation_report_of o.answer
calculation_reported a report o e f = f ∙ ap calculation_report_of e

module _ (s report nums dens : List ℕ) where
  -- the report of a refusal does not begin with 0
  not_refused : (r : Refused) → report ≡ calculation_report_of (Err r) → get_or report 0 0 ≡ 0 → ⊥
  not_refused r e z = omega (arith, numbered r.refusal, sym (ap (λ (l : List ℕ). get_or l 0 0) e) ∙ z)

  pub fair_where_taken : (a : Result Calculated Refused) → report ≡ calculation_report_of a → Ordered s a nums dens → FairWhereTaken s report nums dens
  fair_where_taken (Ok a) e fair z = fair
  fair_where_taken (Err r) e fair z = absurd (not_refused r e z)

  pub binds_where_taken : (places : List ℕ) (a : Result Calculated Refused) → report ≡ calculation_report_of a → PlacesBind s a nums dens places
      → BindsWhereTaken s report nums dens places
  binds_where_taken places (Ok a) e bound z = bound
  binds_where_taken places (Err r) e bound z = absurd (not_refused r e z)

-- a run's report and table, from what the run comes to
pub run_reported : (r : Ran) (u report : List ℕ) (m : records.Ran (List ℕ)) → ran_of r u ≡ m → report ≡ end_report_of r.taken r.end
    → (report ≡ run_report_of m) × (u ≡ m.state)
run_reported r u report m e f =
    (f ∙ ap run_report_of e, ap (λ (x : records.Ran (List ℕ)). x.state) e)

module _ (w : List ℕ) (n : ℕ) where
  pub settled_means : (a : Result Bool Refused) → n ≡ settled_number_of a → Means w a → SettledMeans w n
  settled_means (Ok true) e five =
      record { number = inl e; yes = λ h. five; no = λ h. absurd (omega arith); refused = λ h. absurd (omega arith) }
  settled_means (Ok false) e not_five =
      record { number = inr (inl e); yes = λ h. absurd (omega arith); no = λ h. not_five; refused = λ h. absurd (omega arith) }
  settled_means (Err r) e (is-14, at-0, fails) =
      record { number = inr (inr (e ∙ is-14)); yes = λ h. absurd (omega arith); no = λ h. absurd (omega arith); refused = λ h. fails }

module _ (w out after : List ℕ) where
  -- of the report as it stands
  records_mean_of : (a : Result ℕ Refused) → present.Means w out after a → RecordsMean w out after (wrote_report_of a)
  records_mean_of (Ok n) m = record { written = λ z. m; refused = λ z. absurd (z refl) }
  records_mean_of (Err r) m = record { written = λ z. absurd (omega (arith, numbered r.refusal, z)); refused = λ z. m }

  pub records_mean : (a : Result ℕ Refused) (report : List ℕ) → report ≡ wrote_report_of a → present.Means w out after a → RecordsMean w out after report
  records_mean a report e m = subst (RecordsMean w out after) (sym e) (records_mean_of a m)
