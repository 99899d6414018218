-- A test of all places below n: one more, one that fails, and each of them; and tests that agree.
-- Assumes nothing.
use mathlib.Core.Bool.{Bool, ◌&&◌, ◌||◌, false, true}
use mathlib.Core.Logic.{◌⊎◌, inl, inr}
use mathlib.Core.Path.{◌≡◌, refl, ap, ap₂, sym, ◌∙◌}
use Prim.Native.Nat.{ℕ, zero, suc, ◌+◌, ◌-◌, ◌<◌, ◌≤◌}
use native.Mathlib.Numerals.{add-one}
use native.Mathlib.Omega.{arith}
use borrow.Author.Tests.{le-ltb, lt-ltb}
use lib.Dec.{ltb}
use Rattle.fractions.proofs.Cases.{and_both, and_false, last, order}
use Rattle.records.specs.Format.{all}

pub all_none : (f : ℕ → Bool) → all 0 f ≡ true
unfolding all
all_none f = refl

pub all_next : (n : ℕ) (f : ℕ → Bool) → all n f ≡ true → f n ≡ true → all (n + 1) f ≡ true
unfolding all
all_next n f h k = rw add-one (ap₂ ◌&&◌ h k)

pub all_fails : (n : ℕ) (f : ℕ → Bool) (i : ℕ) → i < n → f i ≡ false → all n f ≡ false
unfolding all
all_fails zero f i h e = absurd (omega arith)
all_fails (suc n) f i h e = go (all_fails n f i) (last h)
  where
    go : (i < n → f i ≡ false → all n f ≡ false) → (i < n) ⊎ (i ≡ n) → (all n f && f n) ≡ false
    go ih (inl l) = ap (λ (b : Bool). b && f n) (ih l e)
    go ih (inr q) = ap (λ (b : Bool). all n f && b) (ap f (sym q) ∙ e) ∙ and_false (all n f)

pub all_at : (n : ℕ) (f : ℕ → Bool) (i : ℕ) → all n f ≡ true → i < n → f i ≡ true
unfolding all
all_at zero f i e h = absurd (omega arith)
all_at (suc n) f i e h = go (all_at n f i) (and_both (all n f) (f n) e) (last h)
  where
    go : (all n f ≡ true → i < n → f i ≡ true) → (all n f ≡ true) × (f n ≡ true) → (i < n) ⊎ (i ≡ n) → f i ≡ true
    go ih b (inl l) = ih b.0 l
    go ih b (inr q) = ap f q ∙ b.1

pub all_below : (n : ℕ) (f : ℕ → Bool) → ((i : ℕ) → i < n → f i ≡ true) → all n f ≡ true
unfolding all
all_below zero f h = refl
all_below (suc n) f h = ap₂ ◌&&◌ (all_below n f (λ i l. h i (omega arith))) (h n (omega arith))

-- tests that agree on all of them
pub all_eq : (n : ℕ) (f g : ℕ → Bool) → ((i : ℕ) → i < n → f i ≡ g i) → all n f ≡ all n g
unfolding all
all_eq zero f g h = refl
all_eq (suc n) f g h = ap₂ ◌&&◌ (all_eq n f g (λ i l. h i (omega arith))) (h n (omega arith))

-- a test that is asked only of the places from n on
pub all_behind : (m n : ℕ) (f : ℕ → Bool) → n ≤ m → all m (λ i. ltb i n || f i) ≡ all (m - n) (λ k. f (n + k))
unfolding all
all_behind zero n f h = let e : 0 - n ≡ 0 = omega arith in ap (λ (k : ℕ). all k (λ i. f (n + i))) (sym e)
all_behind (suc m) n f h = go (all_behind m n f) (order n m)
  where
    go : (n ≤ m → all m (λ i. ltb i n || f i) ≡ all (m - n) (λ k. f (n + k))) → (n ≤ m) ⊎ (m < n)
        → (all m (λ i. ltb i n || f i) && (ltb m n || f m)) ≡ all (suc m - n) (λ k. f (n + k))
    go ih (inl l) =
        let e : suc m - n ≡ suc (m - n) = omega arith in
        let p : m ≡ n + (m - n) = omega arith in
        ap₂ ◌&&◌ (ih l) (ap (λ (b : Bool). b || f m) (le-ltb m n l) ∙ ap f p) ∙ ap (λ (k : ℕ). all k (λ i. f (n + i))) (sym e)
    go ih (inr l) =
        let e : suc m - n ≡ 0 = omega arith in
        all_below (suc m) (λ i. ltb i n || f i) (λ i k. rw (lt-ltb i n (omega arith)) refl) ∙ ap (λ (k : ℕ). all k (λ i. f (n + i))) (sym e)
