-- When B is within refusal 12: a share's denominator is no greater than before it was put into lowest terms.
-- Assumes nothing.
use Rattle.std.specs.Prelude.{Result, Ok, Err}
use mathlib.Core.Bool.{true}
use mathlib.Core.Path.{◌≡◌, refl, sym}
use Prim.Native.Nat.{ℕ, zero, suc, ◌*◌, ◌≤◌, ◌<◌}
use native.Mathlib.Omega.{arith}
use Rattle.fractions.specs.declared.Rate.{Rate}
use Rattle.fractions.specs.declared.TooFine.{TooFine}
use Rattle.fractions.specs.Fraction.{max_den, share_of}
use Rattle.fractions.proofs.Shares.{share_den_most, share_too_fine}
use denote.Enum.Bare.{sameb}
use Rattle.links.specs.contracts.NoTotal.{the_type}
use Rattle.links.specs.declared.NoTotal.{NoTotal}
use Rattle.links.specs.declared.NoTotal.TheVariants as no_total
use Rattle.links.specs.Links.{as_bound, bound_of, is_fine}

pub fine_within : (c k : ℕ) (y : Rate) → 0 < y.den → y.den * k ≤ max_den → is_fine (bound_of c k (Ok y)) ≡ true
unfolding bound_of
fine_within c zero y p h = refl
fine_within c (suc k) y p h = go (share_of c y (suc k)) refl
  where
    go : (x : Result Rate TooFine) → share_of c y (suc k) ≡ x → is_fine (as_bound x) ≡ true
    go (Ok b) e = refl
    go (Err _) e = absurd (omega (arith, h, share_too_fine c y (suc k) e, share_den_most c y (suc k) p (omega arith)))

pub fine_past : (c k : ℕ) → is_fine (bound_of c k (Err no_total.PastC)) ≡ true
unfolding bound_of
fine_past c zero = refl
fine_past c (suc k) = refl

-- where F comes to no rate, B is fine exactly if F is past the capacity
pub fine_error : (c k : ℕ) (e : NoTotal) → sameb the_type e no_total.PastC ≡ is_fine (bound_of c k (Err e))
unfolding bound_of
fine_error c k no_total.TooFine = refl
fine_error c k no_total.PastC = sym (fine_past c k)
