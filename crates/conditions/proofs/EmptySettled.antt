-- 01: "An empty table is settled."
-- Assumes nothing.
use mathlib.Core.Bool.{true}
use mathlib.Core.Path.{◌≡◌}
use Prim.Native.Nat.{ℕ}
use native.Mathlib.Omega.{arith}
use Rattle.fractions.specs.Fraction.{zero_of}
use Rattle.links.specs.Links.{in_f, in_r}
use Rattle.records.proofs.Somes.{clash}
use Rattle.table.specs.Words.{empty_words, place_of, source_of}
use Rattle.table.proofs.Empty.{empty_count}
use Rattle.table.proofs.EmptyLinks.{empty_sum, none_active, none_in_f, none_in_r}
use Rattle.conditions.specs.Conditions.{FiveConditions}
use Rattle.conditions.specs.Settled.{settled_of}
use Rattle.conditions.proofs.Means.{means_settled}

inactive : {A : Type 0} (s : ℕ) → (source_of empty_words s).active ≡ true → A
inactive s t = absurd (clash (source_of empty_words s).active t (none_active s))

all_hold : FiveConditions empty_words
all_hold = record {
  a = empty_count;
  b = λ s l t. inactive s t;
  c =
      λ e l.
      record {
        restricted = λ s k t. absurd (clash (in_r (place_of empty_words e) s) t (none_in_r e s));
        free = λ s k t. absurd (clash (in_f (place_of empty_words e) s) t (none_in_f e s));
        unrestricted = λ f. record { sum = zero_of; sums = empty_sum e; most = record { cross = omega arith } };
      };
  d = λ s l t. inactive s t;
  e = λ s l t. inactive s t;
}

pub empty_settled : settled_of empty_words ≡ true
empty_settled = means_settled empty_words all_hold
