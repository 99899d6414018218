-- Some i < n passes a test.
-- Assumes nothing.
use mathlib.Core.Bool.{Bool, ◌||◌}
use mathlib.Core.Logic.{◌⊎◌, inl, inr}
use mathlib.Core.Path.{◌≡◌, refl, subst}
use Prim.Native.Nat.{ℕ, zero, suc, ◌+◌, ◌<◌}
use native.Mathlib.Numerals.{add-one}
use native.Mathlib.Omega.{arith}
use lib.Dec.{T}
use Rattle.fairness.specs.Figure1.{any}
use Rattle.fractions.proofs.Cases.{last, or_cases, or_left, or_right}

pub any_next : (n : ℕ) (f : ℕ → Bool) → any (n + 1) f ≡ (f n || any n f)
unfolding any
any_next n f = rw add-one refl

pub any_found : (n : ℕ) (f : ℕ → Bool) → T (any n f) → (i : ℕ) × (i < n) × T (f i)
unfolding any
any_found zero f t = absurd t
any_found (suc n) f t = go (any_found n f) (or_cases (f n) (any n f) t)
  where
    go : (T (any n f) → (i : ℕ) × (i < n) × T (f i)) → T (f n) ⊎ T (any n f) → (i : ℕ) × (i < suc n) × T (f i)
    go ih (inl u) = (n, omega arith, u)
    go ih (inr u) = let r = ih u in (r.0, omega (arith, r.1), r.2)

pub any_at : (n : ℕ) (f : ℕ → Bool) (i : ℕ) → i < n → T (f i) → T (any n f)
unfolding any
any_at zero f i h t = absurd (omega arith)
any_at (suc n) f i h t = go (any_at n f i) (last h)
  where
    go : (i < n → T (f i) → T (any n f)) → (i < n) ⊎ (i ≡ n) → T (f n || any n f)
    go ih (inl l) = or_right (f n) (any n f) (ih l t)
    go ih (inr e) = or_left (f n) (any n f) (subst (λ (v : ℕ). T (f v)) e t)
