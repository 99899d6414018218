-- Sums over 0 .. n-1: compared and added place by place, one place apart, and a place where one of two is less.
-- Assumes nothing.
use mathlib.Core.Bool.{Bool}
use mathlib.Core.Logic.{◌⊎◌, inl, inr}
use mathlib.Core.Path.{◌≡◌, ap, refl}
use Prim.Native.Nat.{ℕ, zero, suc, ◌*◌, ◌+◌, ◌≤◌, ◌<◌}
use native.Mathlib.Numerals.{add-one}
use native.Mathlib.Omega.{arith}
use lib.Dec.{T}
use Rattle.fairness.specs.Sum.{part, sum}
use Rattle.fractions.proofs.Cases.{last, order}
use Rattle.fairness.proofs.Parts.{not_part, part_is}

pub sum_le : (n : ℕ) (f g : ℕ → ℕ) → ((s : ℕ) → s < n → f s ≤ g s) → sum n f ≤ sum n g
unfolding sum
sum_le zero f g h = omega arith
sum_le (suc n) f g h = omega (arith, sum_le n f g (λ s l. h s (omega arith)), h n (omega arith))

pub sum_eq : (n : ℕ) (f g : ℕ → ℕ) → ((s : ℕ) → s < n → f s ≡ g s) → sum n f ≡ sum n g
unfolding sum
sum_eq zero f g h = refl
sum_eq (suc n) f g h = omega (arith, sum_eq n f g (λ s l. h s (omega arith)), h n (omega arith))

pub sum_scale : (n k : ℕ) (f : ℕ → ℕ) → sum n (λ s. k * f s) ≡ k * sum n f
unfolding sum
sum_scale zero k f = omega arith
sum_scale (suc n) k f = omega (arith, sum_scale n k f)

pub sum_add : (n : ℕ) (f g : ℕ → ℕ) → sum n (λ s. f s + g s) ≡ sum n f + sum n g
unfolding sum
sum_add zero f g = refl
sum_add (suc n) f g = omega (arith, sum_add n f g)

pub sum_none : (n : ℕ) (f : ℕ → ℕ) → ((s : ℕ) → s < n → f s ≡ 0) → sum n f ≡ 0
unfolding sum
sum_none zero f h = refl
sum_none (suc n) f h = omega (arith, sum_none n f (λ s l. h s (omega arith)), h n (omega arith))

-- terms of at most 1
pub sum_few : (n : ℕ) (f : ℕ → ℕ) → ((s : ℕ) → s < n → f s ≤ 1) → sum n f ≤ n
unfolding sum
sum_few zero f h = omega arith
sum_few (suc n) f h = omega (arith, sum_few n f (λ s l. h s (omega arith)), h n (omega arith))

-- a term is at most the sum
pub sum_at : (n : ℕ) (f : ℕ → ℕ) (s : ℕ) → s < n → f s ≤ sum n f
unfolding sum
sum_at zero f s h = absurd (omega arith)
sum_at (suc n) f s h = go (sum_at n f s) (last h)
  where
    go : (s < n → f s ≤ sum n f) → (s < n) ⊎ (s ≡ n) → f s ≤ sum n f + f n
    go ih (inl l) = omega (arith, ih l)
    go ih (inr e) = rw e (omega arith)

-- g is below f somewhere, or the sum of f has no more than that of g, and stays so where one place is exchanged
pub below_or : (n : ℕ) (f g : ℕ → ℕ)
    → ((t : ℕ) × (t < n) × (g t < f t))
    ⊎ ((sum n f ≤ sum n g) × ((s : ℕ) → s < n → sum n f + g s ≤ sum n g + f s))
unfolding sum
below_or zero f g = inr (omega arith, λ s h. absurd (omega arith))
below_or (suc n) f g = go (below_or n f g) (order (f n) (g n))
  where
    go : ((t : ℕ) × (t < n) × (g t < f t)) ⊎ ((sum n f ≤ sum n g) × ((s : ℕ) → s < n → sum n f + g s ≤ sum n g + f s))
        → (f n ≤ g n) ⊎ (g n < f n)
        → ((t : ℕ) × (t < suc n) × (g t < f t))
        ⊎ ((sum (suc n) f ≤ sum (suc n) g) × ((s : ℕ) → s < suc n → sum (suc n) f + g s ≤ sum (suc n) g + f s))
    go (inl w) o = inl (w.0, omega arith, w.2)
    go (inr h) (inr l) = inl (n, omega arith, l)
    go (inr h) (inl l) = inr (omega arith, λ s b. at s (last b))
      where
        at : (s : ℕ) → (s < n) ⊎ (s ≡ n) → sum (suc n) f + g s ≤ sum (suc n) g + f s
        at s (inl b) = omega (arith, h.1 s b)
        at s (inr e) = rw e (omega arith)

-- only the place s passes the test
pub sum_one : (n : ℕ) (test : ℕ → Bool) (f : ℕ → ℕ) (s : ℕ) → T (test s) → ((t : ℕ) → t < n → T (test t) → t ≡ s) → s < n
    → sum n (λ t. part (test t) (f t)) ≡ f s
unfolding sum
sum_one zero test f s p only h = absurd (omega arith)
sum_one (suc n) test f s p only h = go (sum_one n test f s p (λ t l. only t (omega arith))) (last h)
  where
    go : (s < n → sum n (λ t. part (test t) (f t)) ≡ f s) → (s < n) ⊎ (s ≡ n) → sum n (λ t. part (test t) (f t)) + part (test n) (f n) ≡ f s
    go ih (inl l) = omega (arith, ih l, not_part (test n) (f n) (λ t. omega (arith, only n (omega arith) t)))
    go ih (inr e) =
        omega (
          arith,
          sum_none n (λ t. part (test t) (f t)) (λ t l. not_part (test t) (f t) (λ u. omega (arith, only t (omega arith) u))),
          part_is (test n) (f n) (rw e at p),
          ap f e,
        )

-- one place more, as code counts
pub sum_next : (n : ℕ) (f : ℕ → ℕ) → sum (n + 1) f ≡ sum n f + f n
unfolding sum
sum_next n f = rw add-one refl

-- the first place apart
pub sum_first : (n : ℕ) (f : ℕ → ℕ) → sum (suc n) f ≡ f 0 + sum n (λ s. f (suc s))
unfolding sum
sum_first zero f = omega arith
sum_first (suc n) f = omega (arith, sum_first n f)

-- a sum that is not 0 has a term that is not
pub sum_find : (n : ℕ) (f : ℕ → ℕ) → 0 < sum n f → (s : ℕ) × (s < n) × (0 < f s)
unfolding sum
sum_find zero f h = absurd (omega arith)
sum_find (suc n) f h = go (sum_find n f) (order (f n) 0)
  where
    go : (0 < sum n f → (s : ℕ) × (s < n) × (0 < f s)) → (f n ≤ 0) ⊎ (0 < f n) → (s : ℕ) × (s < suc n) × (0 < f s)
    go ih (inl z) = let r = ih (omega arith) in (r.0, omega arith, r.2)
    go ih (inr l) = (n, omega arith, l)
