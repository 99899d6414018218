-- What a run of records means (01, "Records", "What is turned away"): from the left, each record is read where the one before ended, and acts; the
-- first that is refused ends it. One definition for all calls that read records: S is what the records act on, `judge` says whether a record is
-- taken, and `act` what it leaves. At the end the documents' numbers of what was read, of a verdict and of how a run ended.
-- Assumes nothing: definitions.
use Rattle.std.specs.Prelude.{cond, List, ℕ, zero, suc, ◌+◌, ltb, length, Result, Ok, Err, ⊤}
use Rattle.records.specs.Format.{read_at, size_at}
use Rattle.records.specs.Refusals.{number_of, refused_at}
use Rattle.records.specs.declared.Call.{Call}
use Rattle.records.specs.declared.Record.{Record}
use Rattle.records.specs.declared.Refused.{Refused}
use Rattle.records.specs.declared.Refusal.{Refusal}

-- what a run comes to: what stays, how many records were taken, and how it ended
pub record Ran (S : Type 0) : Type 0 where
  pub state : S
  pub taken : ℕ
  pub end : Result ⊤ Refused

-- a record that was read, unless the verdict on it is a refusal
abbrev pub weighed : Result ⊤ Refusal → Record → Result Record Refusal
weighed (Ok taken) x = Ok x
weighed (Err r) x = Err r

abbrev pub judged : Result Record Refusal → (Record → Result ⊤ Refusal) → Result Record Refusal
judged (Ok x) judge = weighed (judge x) x
judged (Err r) judge = Err r

-- at place `at`, where n records were taken and left z: a record goes on, a refusal ends the run with what was before it
abbrev pub after : {S : Type 0} → Result Record Refusal → (Record → Ran S) → S → ℕ → ℕ → Ran S
after (Ok x) more z n at = more x
after (Err r) more z n at = record { state = z; taken = n; end = Err (refused_at r at) }

-- the records from place `at` on: each has a byte at least, so as many turns as bytes are enough
unfoldable pub run_from : {S : Type 0} → Call → (S → Record → Result ⊤ Refusal) → (S → Record → S) → List ℕ → ℕ → S → ℕ → ℕ → Ran S
run_from c judge act s zero z n at = record { state = z; taken = n; end = Ok tt }
run_from c judge act s (suc k) z n at =
    cond (ltb at (length s))
    (after (judged (read_at c s at) (judge z)) (λ x. run_from c judge act s k (act z x) (n + 1) (at + size_at s at)) z n at)
    (record { state = z; taken = n; end = Ok tt })

-- all records of an input
abbrev pub run_of : {S : Type 0} → Call → (S → Record → Result ⊤ Refusal) → (S → Record → S) → List ℕ → S → Ran S
run_of c judge act s z = run_from c judge act s (length s) z 0 0

-- 01'S NUMBERS AND VALUES ---------------------------------------------------------------------------------------------

-- a verdict, and what was read: the number of the refusal, or 0
abbrev pub verdict_number : Result ⊤ Refusal → ℕ
verdict_number (Ok taken) = 0
verdict_number (Err r) = number_of r

abbrev pub read_number : Result Record Refusal → ℕ
read_number (Ok x) = 0
read_number (Err r) = number_of r

-- how a run ended: 0 at its end, or the number of the refusal with its place; and the records taken
pub record Said : Type 0 where
  pub number : ℕ
  pub place : ℕ
  pub taken : ℕ

abbrev pub said_of : ℕ → Result ⊤ Refused → Said
said_of n (Ok finished) = record { number = 0; place = 0; taken = n }
said_of n (Err r) = record { number = number_of r.refusal; place = r.place; taken = n }
