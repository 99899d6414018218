-- The count of ones: with a session more or less, of fewer members, and as the count that computes.
-- Assumes nothing.
use mathlib.Core.Path.{◌≡◌, ap, ◌∙◌}
use Prim.Native.Nat.{ℕ, zero, suc, ◌+◌, ◌*◌, ◌/◌, ◌%◌, ◌^◌, ◌≤◌, ◌<◌}
use native.Mathlib.Nat.{pow-suc}
use native.Mathlib.Omega.{arith}
use lib.Count.{ones_in, ones, ones_step, ones-ones}
use Rattle.sessions.specs.Set.{has, put, cut}

pub ones_zero : ones 0 ≡ 0
ones_zero = ones-ones 0

-- a count over k digits, which computes on a number that is written out
pub ones_in_lem : (k w : ℕ) → w < 2 ^ k → ones w ≡ ones_in k w
unfolding ones_in
ones_in_lem zero w h = ap ones {x = w} {y = 0} (omega arith) ∙ ones_zero
ones_in_lem (suc k) w h = ones_step w ∙ ap (λ (x : ℕ). w % 2 + x) (ones_in_lem k (w / 2) (omega (arith, pow-suc 2 k)))

pub ones_put : (s w : ℕ) → has s w ≡ 0 → ones (put s w) ≡ ones w + 1
unfolding has put
ones_put zero w h = omega (arith, ones_step w, ones_step (w / 2 * 2 + 1), ap ones {x = (w / 2 * 2 + 1) / 2} {y = w / 2} (omega arith))
ones_put (suc s) w h =
    omega (
      arith,
      ones_step w,
      ones_step (put s (w / 2) * 2 + w % 2),
      ap ones {x = (put s (w / 2) * 2 + w % 2) / 2} {y = put s (w / 2)} (omega arith),
      ones_put s (w / 2) h,
    )

pub ones_cut : (s w : ℕ) → has s w ≡ 1 → ones w ≡ ones (cut s w) + 1
unfolding has cut
ones_cut zero w h = omega (arith, ones_step w, ones_step (w / 2 * 2), ap ones {x = w / 2 * 2 / 2} {y = w / 2} (omega arith))
ones_cut (suc s) w h =
    omega (
      arith,
      ones_step w,
      ones_step (cut s (w / 2) * 2 + w % 2),
      ap ones {x = (cut s (w / 2) * 2 + w % 2) / 2} {y = cut s (w / 2)} (omega arith),
      ones_cut s (w / 2) h,
    )

-- a member makes the count positive
pub ones_pos : (s w : ℕ) → has s w ≡ 1 → 0 < ones w
unfolding has
ones_pos zero w h = omega (arith, ones_step w)
ones_pos (suc s) w h = omega (arith, ones_step w, ones_pos s (w / 2) h)

-- no members more, no greater a count
pub ones_mono : (k v w : ℕ) → v < 2 ^ k → w < 2 ^ k → ((s : ℕ) → s < k → has s v ≤ has s w) → ones v ≤ ones w
unfolding has
ones_mono zero v w a b h = omega (arith, ap ones {x = v} {y = w} (omega arith))
ones_mono (suc k) v w a b h =
    omega (
      arith,
      ones_step v,
      ones_step w,
      h 0 (omega arith),
      ones_mono k (v / 2) (w / 2) (omega (arith, pow-suc 2 k)) (omega (arith, pow-suc 2 k)) (λ s l. h (suc s) (omega arith)),
    )

-- no more than the digits
pub count_most : (k w : ℕ) → ones_in k w ≤ k
unfolding ones_in
count_most zero w = omega arith
count_most (suc k) w = omega (arith, count_most k (w / 2))
