-- 02, §3: the call that writes the present set of a table, w its words, into a lent slice. "Refusals: 17 at place 0, the slice is shorter than the output,
-- tried after 14."
-- Assumes nothing: definitions.
use Rattle.std.specs.Prelude.{cond, List, ◌⊎◌, ◌≡◌, ℕ, ◌<◌, ◌≤◌, drop, length, take, Result, Ok, Err}
use Rattle.declarations.specs.Declaring.{declarations_of}
use Rattle.handed.specs.Handed.{passes14_of}
use Rattle.handed.specs.Passes.{Passes}
use Rattle.records.specs.declared.Refusal.TheVariants as refusal
use Rattle.records.specs.Refusals.{number_of}
use Rattle.records.specs.declared.Refused.{Refused}
use Rattle.writing.specs.Sets.{SameSet}
use Rattle.writing.specs.Writing.{records_of}
use Rattle.writing.specs.Written.{Written, nothing_written, written_of}
use Rattle.present_set.specs.Held.{declarations_in}

-- 14, then 17, or the records of what the table holds
unfoldable pub present_of : List ℕ → List ℕ → Written
present_of w out = cond (passes14_of w) (written_of (declarations_in w) out) (nothing_written refusal.BadTable out)

-- n bytes were written into a slice that was `out` and is `after`: the records of what the table holds, and whoever reads them gets its set
pub record Present (w out after : List ℕ) (n : ℕ) : Type 0 where
  pub passes : Passes w
  pub fits : n ≤ length out
  pub count : n ≡ length (records_of (declarations_in w))
  pub bytes : take n after ≡ records_of (declarations_in w)
  pub stays : drop n after ≡ drop n out
  pub taken : (declarations_of (take n after)).end ≡ Ok tt
  pub same : SameSet (declarations_in w) (declarations_of (take n after)).declared

-- nothing was, and why
pub record Absent (w out after : List ℕ) (number at : ℕ) : Type 0 where
  pub place : at ≡ 0
  pub stays : after ≡ out
  pub why : ((number ≡ 14) × (Passes w → ⊥)) ⊎ ((number ≡ 17) × Passes w × (length out < length (records_of (declarations_in w))))

-- what an answer means
abbrev pub Means : List ℕ → List ℕ → List ℕ → Result ℕ Refused → Type 0
Means w out after (Ok n) = Present w out after n
Means w out after (Err r) = Absent w out after (number_of r.refusal) r.place
