-- 02, §3: a call of the writer on a lent slice. "The count reported is the bytes written, the bytes after it stay. Refusals: 17 at place 0, the slice is
-- shorter than the output".
-- Assumes nothing: definitions.
use Rattle.std.specs.Prelude.{cond, List, ◌++◌, ℕ, ltb, drop, length, Result, Ok, Err}
use Rattle.declarations.specs.declared.Declared.{Declared}
use Rattle.records.specs.declared.Refusal.{Refusal}
use Rattle.records.specs.declared.Refusal.TheVariants as refusal
use Rattle.records.specs.declared.Refused.{Refused}
use Rattle.records.specs.Refusals.{refused_at}
use Rattle.writing.specs.Writing.{records_of}

-- the answer, and the slice after the call
pub record Written : Type 0 where
  pub answer : Result ℕ Refused
  pub bytes : List ℕ

-- "a refusal writes nothing": the slice stays
abbrev pub nothing_written : Refusal → List ℕ → Written
nothing_written r out = record { answer = Err (refused_at r 0); bytes = out }

-- the bytes s at the slice's front, and how many
abbrev pub written : List ℕ → List ℕ → Written
written s out = record { answer = Ok (length s); bytes = s ++ drop (length s) out }

-- a slice of exactly the length is enough
unfoldable pub written_of : Declared → List ℕ → Written
written_of d out = cond (ltb (length out) (length (records_of d))) (nothing_written refusal.ShorterThanOutput out) (written (records_of d) out)
