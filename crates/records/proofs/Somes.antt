-- Tests that are asked only where another passes, and a place where a test of all places below n fails.
-- Assumes nothing.
use mathlib.Core.Bool.{Bool, false, not, true, ◌&&◌, ◌||◌}
use mathlib.Core.Path.{ap, refl, sym, ◌∙◌, ◌≡◌}
use Prim.Native.Nat.{suc, zero, ℕ, ◌<◌}
use native.Mathlib.Omega.{arith}
use Rattle.records.specs.Format.{all}

-- no test both passes and fails
pub clash : (a : Bool) → a ≡ true → a ≡ false → ⊥
clash a e f = let z : ◌≡◌ {A = ℕ} 0 1 = cc in omega arith

-- a test that cannot pass fails
pub not_so : (a : Bool) → (a ≡ true → ⊥) → a ≡ false
not_so true f = absurd (f refl)
not_so false f = refl

pub implied : (a b : Bool) → (not a || b) ≡ true → a ≡ true → b ≡ true
implied true b e h = e
implied false b e h = absurd (clash false h refl)

pub implies : (a b : Bool) → (a ≡ true → b ≡ true) → (not a || b) ≡ true
implies true b f = f refl
implies false b f = refl

-- a place below n where the test fails
pub record Fails (n : ℕ) (f : ℕ → Bool) : Type 0 where
  pub place : ℕ
  pub below : place < n
  pub fails : f place ≡ false

and_true : (a : Bool) → (a && true) ≡ a
and_true true = refl
and_true false = refl

pub all_some : (n : ℕ) (f : ℕ → Bool) → all n f ≡ false → Fails n f
unfolding all
all_some zero f e = absurd (clash true refl e)
all_some (suc n) f e = go (all_some n f) (f n) refl
  where
    go : (all n f ≡ false → Fails n f) → (b : Bool) → f n ≡ b → Fails (suc n) f
    go ih false q = record { place = n; below = omega arith; fails = q }
    go ih true q =
        let r = ih (sym (and_true (all n f)) ∙ ap (λ (b : Bool). all n f && b) (sym q) ∙ e) in
        record { place = r.place; below = omega (arith, r.below); fails = r.fails }
