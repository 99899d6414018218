-- The sum of an empty F, and B by how many members R has: none, or some.
-- Assumes nothing.
use mathlib.Core.Path.{◌≡◌, refl}
use Prim.Native.Nat.{ℕ, zero, suc, ◌<◌}
use native.Mathlib.Omega.{arith}
use Rattle.std.specs.Prelude.{Ok, Err}
use Rattle.fractions.specs.declared.Rate.{Rate}
use Rattle.fractions.specs.Fraction.{share_of, zero_of}
use Rattle.sessions.specs.Set.{walk}
use Rattle.sessions.proofs.Walks.{no_members}
use Rattle.links.specs.declared.Bound.TheVariants as bound
use Rattle.links.specs.declared.Place.{Place}
use Rattle.links.specs.declared.NoTotal.TheVariants as no_total
use Rattle.links.specs.Links.{F, as_bound, bound_of, sum_of}

pub sum_none : (p : Place) → F p ≡ 0 → sum_of p ≡ Ok zero_of
unfolding sum_of walk
sum_none p h = rw (no_members 32 (F p) h)

module _ (c k : ℕ) where
  pub bound_none : (y : Rate) → k ≡ 0 → bound_of c k (Ok y) ≡ bound.Above
  unfolding bound_of
  bound_none y e = rw e

  pub bound_past_none : k ≡ 0 → bound_of c k (Err no_total.PastC) ≡ bound.Above
  unfolding bound_of
  bound_past_none e = rw e

pub bound_some : (c k : ℕ) (y : Rate) → 0 < k → bound_of c k (Ok y) ≡ as_bound (share_of c y k)
unfolding bound_of
bound_some c zero y h = absurd (omega arith)
bound_some c (suc k) y h = refl

pub bound_past : (c k : ℕ) → 0 < k → bound_of c k (Err no_total.PastC) ≡ bound.At zero_of
unfolding bound_of
bound_past c zero h = absurd (omega arith)
bound_past c (suc k) h = refl
