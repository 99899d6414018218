-- In a table that passes the test, the sum of F at each link is a rate.
-- Assumes nothing.
use Rattle.fractions.specs.declared.Rate.{Rate}
use Rattle.std.specs.Prelude.{Result, Ok, Err}
use mathlib.Core.Bool.{true}
use mathlib.Core.List.{List}
use mathlib.Core.Path.{ap, refl, ◌≡◌}
use Prim.Native.Nat.{ℕ, ◌<◌}
use Rattle.links.specs.declared.Place.{Place}
use Rattle.links.specs.declared.NoTotal.{NoTotal}
use Rattle.links.specs.declared.NoTotal.TheVariants as no_total
use Rattle.links.specs.Links.{B, R, bound_of, is_fine, sum_of}
use Rattle.records.proofs.Somes.{clash}
use Rattle.sessions.specs.Set.{size_of}
use Rattle.table.specs.Words.{place_of}
use Rattle.handed.specs.Passes.{Passes, SumIsRate}

fine_sum : (p : Place) → is_fine (B p) ≡ true → sum_of p ≡ Err no_total.TooFine → ⊥
unfolding B bound_of
fine_sum p f q = clash (is_fine (B p)) f (ap (λ (y : Result Rate NoTotal). is_fine (bound_of p.link.capacity (size_of (R p)) y)) q)

sum_cases : (p : Place) → (sum_of p ≡ Err no_total.PastC → ⊥) → (sum_of p ≡ Err no_total.TooFine → ⊥) → SumIsRate p
sum_cases p u v = go (sum_of p) refl
  where
    go : (y : Result Rate NoTotal) → sum_of p ≡ y → SumIsRate p
    go (Ok y) e = record { sum = y; sums = e }
    go (Err no_total.TooFine) e = absurd (v e)
    go (Err no_total.PastC) e = absurd (u e)

pub passes_sums : (w : List ℕ) → Passes w → (e : ℕ) → e < 64 → SumIsRate (place_of w e)
passes_sums w o e l = sum_cases (place_of w e) (o.within_c e l) (fine_sum (place_of w e) (o.fine e l))
