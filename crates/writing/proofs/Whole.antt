-- All records of a set written one after the other into a slice: whether it is long enough, and what it is then.
-- Assumes nothing.
use mathlib.Core.List.{List, ◌++◌}
use mathlib.Core.Path.{◌≡◌, ap, refl, ◌∙◌}
use Prim.Native.Nat.{ℕ, ◌+◌, ◌<◌, ◌≤◌}
use native.Mathlib.Omega.{arith}
use borrow.Author.Tests.{le-ltb, lt-ltb}
use lib.ListN.{drop, length}
use lib.Seq.{sets, sets-eq}
use Rattle.records.specs.declared.Refusal.TheVariants as refusal
use Rattle.declarations.specs.declared.Declared.{Declared}
use Rattle.writing.specs.Writing.{link_records, records_of, session_records}
use Rattle.writing.specs.Written.{nothing_written, written, written_of}
use Rattle.writing.proofs.Laying.{sets_then}

module _ (d : Declared) where
  abbrev links : List ℕ
  links = link_records d.links d.capacity

  abbrev sessions : List ℕ
  sessions = session_records d.sessions d.access d.maximum d.path

  module _ (out : List ℕ) where
    pub too_short : length out < length (records_of d) → written_of d out ≡ nothing_written refusal.ShorterThanOutput out
    unfolding written_of
    too_short h = rw (lt-ltb (length out) (length (records_of d)) h) refl

    pub enough : length (records_of d) ≤ length out → written_of d out ≡ written (records_of d) out
    unfolding written_of
    enough h = rw (le-ltb (length out) (length (records_of d)) h) refl

    -- links at the front, sessions behind them, and then as before
    pub both : length (records_of d) ≤ length out → sets (sets out 0 links) (length links) sessions ≡ records_of d ++ drop (length (records_of d)) out
    unfolding records_of
    both h =
        ap (λ (k : ℕ). sets (sets out 0 links) k sessions) {x = length links} {y = 0 + length links} (omega arith)
        ∙ sets_then links sessions out 0
        ∙ sets-eq (links ++ sessions) out 0 (omega (arith, h))
        ∙ ap (λ (k : ℕ). (links ++ sessions) ++ drop k out) {x = 0 + length (links ++ sessions)} {y = length (links ++ sessions)} (omega arith)
