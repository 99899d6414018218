-- What the exported calls report, as words (include/umbraconga.h): the answers of the library's calls, by the documents' numbers.
-- Assumes nothing: definitions.
use Rattle.std.specs.Prelude.{List, [], ◌∷◌, ℕ, Result, Ok, Err, ⊤, Bool, true, false}
use Rattle.calculation.specs.Calculating as calculation
use Rattle.calculation.specs.declared.Calculated.{Calculated}
use Rattle.records.specs.Refusals.{number_of}
use Rattle.records.specs.Run as records
use Rattle.records.specs.declared.Refused.{Refused}

-- the calculation: the refusal's number or 0, its place, the declared links, the declared sessions
abbrev pub calculation_words : calculation.Said → List ℕ
calculation_words x = x.number ∷ x.place ∷ x.links ∷ x.sessions ∷ []

abbrev pub calculation_report_of : Result Calculated Refused → List ℕ
calculation_report_of a = calculation_words (calculation.said_of a)

-- a run, which took some records and then ended: the refusal's number or 0, its place, the records taken
abbrev pub run_words : records.Said → List ℕ
run_words x = x.number ∷ x.place ∷ x.taken ∷ []

abbrev pub end_report_of : ℕ → Result ⊤ Refused → List ℕ
end_report_of taken e = run_words (records.said_of taken e)

abbrev pub run_report_of : records.Ran (List ℕ) → List ℕ
run_report_of r = end_report_of r.taken r.end

-- the writer: the refusal's number or 0, its place, the bytes written
abbrev pub wrote_report_of : Result ℕ Refused → List ℕ
wrote_report_of (Ok n) = 0 ∷ 0 ∷ n ∷ []
wrote_report_of (Err r) = number_of r.refusal ∷ r.place ∷ 0 ∷ []

-- whether a table is settled: 1 yes, 0 no, or the refusal's number
abbrev pub settled_number_of : Result Bool Refused → ℕ
settled_number_of (Ok true) = 1
settled_number_of (Ok false) = 0
settled_number_of (Err r) = number_of r.refusal
