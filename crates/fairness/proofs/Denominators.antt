-- Denominators of Figure 1: after some rounds N is at most the largest product for the number of sessions fixed, so with 32 sessions N, and N times
-- the number of sessions open at a link, are never above 118,098.
-- Assumes nothing.
use mathlib.Core.Bool.{Bool, not}
use mathlib.Core.Path.{◌≡◌, ap}
use Prim.Native.Nat.{ℕ, ◌*◌, ◌+◌, ◌-◌, ◌≤◌, ◌<◌}
use native.Mathlib.Nat.{mul-le-mul_right}
use native.Mathlib.Omega.{arith}
use Rattle.fairness.specs.Figure1.{Net, open_all, open_at}
use Rattle.fairness.specs.Sum.{sum}
use Rattle.fairness.proofs.Products.{largest, largest_32, largest_mul, largest_up}
use Rattle.fairness.proofs.Rounds.{Filling, Round, falls, open_le}
use Rattle.fairness.proofs.Sums.{sum_le}
use Rattle.fairness.proofs.Parts.{part_le}

-- the weight of all sessions
unfoldable pub all_weight : Net → ℕ
all_weight w = sum w.sessions w.weight

-- the denominator after some rounds, by how many are fixed
abbrev pub SmallDenominator : Net → ℕ → (ℕ → Bool) → Type 0
SmallDenominator w N d = N ≤ largest (all_weight w - open_all w d)

pub open_all_le : (w : Net) (d : ℕ → Bool) → open_all w d ≤ all_weight w
unfolding open_all all_weight
open_all_le w d = sum_le w.sessions _ _ (λ s h. part_le (not (d s)) (w.weight s))

-- the denominator of a share
pub share_small : (w : Net) → all_weight w ≤ 32 → (N : ℕ) (d : ℕ → Bool) → SmallDenominator w N d → (e : ℕ) → N * open_at w d e ≤ 118098
share_small w h N d small e =
    let f = all_weight w - open_all w d in
    let le = open_le w d e in
    let up : f + open_at w d e + (32 - (f + open_at w d e)) ≡ 32 = omega (arith, open_all_le w d) in
    omega (
      arith,
      mul-le-mul_right (open_at w d e) small,
      largest_mul f (open_at w d e) (omega (arith, open_all_le w d)),
      largest_up (f + open_at w d e) (32 - (f + open_at w d e)) (omega arith),
      ap largest up,
      largest_32,
    )

pub small_32 : (w : Net) → all_weight w ≤ 32 → (N : ℕ) (d : ℕ → Bool) → SmallDenominator w N d → N ≤ 118098
small_32 w h N d small =
    let f = all_weight w - open_all w d in
    let up : f + (32 - f) ≡ 32 = omega arith in
    omega (arith, largest_up f (32 - f) (omega arith), ap largest up, largest_32)

pub small_step : (w : Net) → all_weight w ≤ 32 → (N : ℕ) (x : ℕ → ℕ) (d : ℕ → Bool) (pos : (s : ℕ) → s < w.sessions → 0 < w.weight s) (i : Filling w N x d) (b : ℕ) (ch : ℕ → Bool) (N' : ℕ) (x' : ℕ → ℕ) (d' : ℕ → Bool)
    → Round w N x d b ch N' x' d' → SmallDenominator w N d → SmallDenominator w N' d'
small_step w h N x d pos i b ch N' x' d' r small =
    let f = all_weight w - open_all w d in
    let f' = all_weight w - open_all w d' in
    let fewer = falls w N x d pos i b ch N' x' d' r in
    let up : f + open_at w d b + (f' - (f + open_at w d b)) ≡ f' = omega (arith, open_all_le w d) in
    omega (
      arith,
      r.den,
      mul-le-mul_right (open_at w d b) small,
      largest_mul f (open_at w d b) (omega (arith, open_all_le w d)),
      largest_up (f + open_at w d b) (f' - (f + open_at w d b)) (omega (arith, open_all_le w d)),
      ap largest up,
    )
