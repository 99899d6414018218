-- The largest product of whole numbers whose sum is at most 32 is 118,098 (01, "Fractions").
-- Assumes nothing.
use mathlib.Core.Bool.{Bool, ◌&&◌, true}
use mathlib.Core.List.{List, [], ◌∷◌}
use mathlib.Core.Logic.{◌⊎◌, inl, inr}
use mathlib.Core.Path.{◌≡◌, ap, refl}
use Prim.Native.Nat.{ℕ, zero, suc, ◌*◌, ◌+◌, ◌-◌, ◌≤◌, ◌<◌}
use native.Mathlib.Nat.{mul-le-mul_right}
use native.Mathlib.Omega.{arith}
use lib.Dec.{T, leb, leb→le}
use lib.ListN.{get_or}
use Rattle.fractions.proofs.Cases.{and_split, last}

-- no product of whole numbers whose sum is at most the place, 0 to 32, is larger
abbrev products : List ℕ
products = 1 ∷ 1 ∷ 2 ∷ 3 ∷ 4 ∷ 6 ∷ 9 ∷ 12 ∷ 18 ∷ 27 ∷ 36 ∷ 54 ∷ 81 ∷ 108 ∷ 162 ∷ 243 ∷ 324 ∷ 486 ∷ 729 ∷ 972 ∷ 1458 ∷ 2187 ∷ 2916 ∷ 4374 ∷ 6561 ∷ 8748 ∷ 13122 ∷ 19683 ∷ 26244 ∷ 39366 ∷ 59049 ∷ 78732 ∷ 118098 ∷ []

-- the bound for a sum of k
unfoldable pub largest : ℕ → ℕ
largest k = get_or products k 0

-- the test passes at all i < n
abbrev all : ℕ → (ℕ → Bool) → Bool
all zero f = true
all (suc n) f = f n && all n f

all_at : (n : ℕ) (f : ℕ → Bool) → T (all n f) → (i : ℕ) → i < n → T (f i)
all_at zero f t i h = absurd (omega arith)
all_at (suc n) f t i h = go (all_at n f (and_split (f n) (all n f) t).1 i) (last h)
  where
    go : (i < n → T (f i)) → (i < n) ⊎ (i ≡ n) → T (f i)
    go ih (inl l) = ih l
    go ih (inr e) = rw e (and_split (f n) (all n f) t).0

right : ℕ → ℕ → Bool
right k c = leb (largest k * c) (largest (k + c))

-- one test of the whole table: a factor c more takes c of the sum
products_right : T (all 33 (λ k. all (33 - k) (right k)))
unfolding largest right
products_right = tt

-- a further factor c takes c of the sum
pub largest_mul : (k c : ℕ) → k + c ≤ 32 → largest k * c ≤ largest (k + c)
unfolding right
largest_mul k c h = leb→le (largest k * c) (largest (k + c)) (all_at (33 - k) (right k) (all_at 33 (λ i. all (33 - i) (right i)) products_right k (omega arith)) c (omega arith))

pub largest_up : (k j : ℕ) → k + j ≤ 32 → largest k ≤ largest (k + j)
largest_up k zero h = let e : k ≡ k + 0 = omega arith in omega (arith, ap largest e)
largest_up k (suc j) h =
    let e : k + j + 1 ≡ k + suc j = omega arith in
    omega (arith, largest_up k j (omega arith), largest_mul (k + j) 1 (omega arith), ap largest e)

pub largest_32 : largest 32 ≡ 118098
unfolding largest
largest_32 = refl

largest_0 : T (leb 1 (largest 0))
unfolding largest
largest_0 = tt

pub one_largest : (k : ℕ) → k ≤ 32 → 1 ≤ largest k
one_largest k h =
    let e : 0 + k ≡ k = omega arith in
    omega (arith, leb→le 1 (largest 0) largest_0, largest_up 0 k (omega arith), ap largest e)

unfoldable pub product : List ℕ → ℕ
product [] = 1
product (c ∷ cs) = product cs * c

unfoldable pub total : List ℕ → ℕ
total [] = 0
total (c ∷ cs) = total cs + c

pub product_largest : (cs : List ℕ) → total cs ≤ 32 → product cs ≤ largest (total cs)
unfolding product total
product_largest [] h = leb→le 1 (largest 0) largest_0
product_largest (c ∷ cs) h = omega (arith, mul-le-mul_right c (product_largest cs (omega arith)), largest_mul (total cs) c h)

-- 01: with a sum of at most 32 no product is above 118,098
pub product_32 : (cs : List ℕ) → total cs ≤ 32 → product cs ≤ 118098
product_32 cs h =
    let e : total cs + (32 - total cs) ≡ 32 = omega arith in
    omega (arith, product_largest cs h, largest_up (total cs) (32 - total cs) (omega arith), ap largest e, largest_32)

-- ten threes and a two reach it, with a sum of 32
tens : List ℕ
tens = 2 ∷ 3 ∷ 3 ∷ 3 ∷ 3 ∷ 3 ∷ 3 ∷ 3 ∷ 3 ∷ 3 ∷ 3 ∷ []

pub product_reached : (cs : List ℕ) × (total cs ≡ 32) × (product cs ≡ 118098)
unfolding product total tens
product_reached = (tens, refl, refl)
