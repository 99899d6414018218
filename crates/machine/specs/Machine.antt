-- The machine's calls (01): a run of the records of an input on a handed table, and whether a table is settled. w are the words of the table.
-- Assumes nothing: definitions.
use Rattle.std.specs.Prelude.{cond, List, [], ◌∷◌, ◌≡◌, ℕ, ltb, length, Result, Ok, Err, ⊤, Bool, true, false, None, Option, Some}
use Rattle.conditions.specs.Conditions.{FiveConditions}
use Rattle.conditions.specs.Settled.{settled_of}
use Rattle.events.specs.Events.{Step, event_of, refusing}
use Rattle.handed.specs.Handed.{passes14_of}
use Rattle.handed.specs.Passes.{Passes}
use Rattle.records.specs.declared.Call.TheVariants as call
use Rattle.records.specs.declared.Record.{Record}
use Rattle.records.specs.declared.Refusal.{Refusal}
use Rattle.records.specs.declared.Refusal.TheVariants as refusal
use Rattle.records.specs.Format.{read_at}
use Rattle.records.specs.Limits.{input_limit, session_limit}
use Rattle.records.specs.Refusals.{number_of, refused_at}
use Rattle.records.specs.Run as records
use Rattle.records.specs.declared.Refused.{Refused}
use Rattle.table.specs.Words.{source_of}
use Rattle.machine.specs.declared.Ran.{Ran}
use Rattle.machine.specs.declared.Session.{Session}
use Rattle.machine.specs.declared.Session.TheVariants as session
use Rattle.fractions.specs.declared.Rate.{Rate}

-- a session as its owner sees it
unfoldable pub session_of : List ℕ → ℕ → Session
session_of w s = cond (ltb s session_limit) (cond (source_of w s).active (session.Active (source_of w s).told) session.NotActive) session.NotActive

-- the values of an active session: 1, and the rate last told to it, or 0 and 0 where none was
abbrev pub told_report_of : Option Rate → List ℕ
told_report_of None = 1 ∷ 0 ∷ 0 ∷ []
told_report_of (Some x) = 1 ∷ x.num ∷ x.den ∷ []

-- the values of a session: whether it is active, and what it was last told
abbrev pub session_report_of : Session → List ℕ
session_report_of session.NotActive = 0 ∷ 0 ∷ 0 ∷ []
session_report_of (session.Active x) = told_report_of x

-- the record at a place of the input s, and what it does
abbrev pub read_step : List ℕ → List ℕ → Result Record Refusal → Step
read_step s w (Ok x) = event_of s w x
read_step s w (Err r) = refusing r w

unfoldable pub step_of : List ℕ → List ℕ → ℕ → Step
step_of s w at = read_step s w (read_at call.Machine s at)

-- whether a record is taken, and what it leaves
abbrev pub judging : List ℕ → List ℕ → Record → Result ⊤ Refusal
judging s w x = (event_of s w x).verdict

abbrev pub acting : List ℕ → List ℕ → Record → List ℕ
acting s w x = (event_of s w x).words

-- what a run comes to, with the table after it
abbrev pub ran_of : Ran → List ℕ → records.Ran (List ℕ)
ran_of r w = record { state = w; taken = r.taken; end = r.end }

-- a run of the records: the definition of a run that every call shares
unfoldable pub run_records_of : List ℕ → List ℕ → records.Ran (List ℕ)
run_records_of w s = records.run_of call.Machine (judging s) (acting s) s w

-- A HANDED TABLE: 14, THEN 1, THEN THE RECORDS ------------------------------------------------------------------------

-- "A refusal returns its number and the place of its record's kind byte (0 for 1, 14, 15)"; nothing was taken, and the table stays
abbrev pub nothing_taken : Refusal → Ran
nothing_taken r = record { taken = 0; end = Err (refused_at r 0) }

abbrev pub turned_away : Refusal → List ℕ → records.Ran (List ℕ)
turned_away r w = ran_of (nothing_taken r) w

unfoldable pub machine_of : List ℕ → List ℕ → records.Ran (List ℕ)
machine_of w s =
    cond (passes14_of w) (cond (ltb input_limit (length s)) (turned_away refusal.TooLong w) (run_records_of w s)) (turned_away refusal.BadTable w)

-- SETTLED -------------------------------------------------------------------------------------------------------------

-- the answer; of a table that fails the test of refusal 14 the question is refused
unfoldable pub answer_of : List ℕ → Result Bool Refused
answer_of w = cond (passes14_of w) (cond (settled_of w) (Ok true) (Ok false)) (Err (refused_at refusal.BadTable 0))

-- what it means: of a table that passes the test, yes exactly under the five conditions; a refusal is 01's 14, at place 0, of one that does not
abbrev pub Means : List ℕ → Result Bool Refused → Type 0
Means w (Ok true) = Passes w × FiveConditions w
Means w (Ok false) = Passes w × (FiveConditions w → ⊥)
Means w (Err r) = (number_of r.refusal ≡ 14) × (r.place ≡ 0) × (Passes w → ⊥)
