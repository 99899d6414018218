-- Sums over 0 .. n-1: the sums of 001, Figure 1, over links and sessions.
-- Assumes nothing: definitions.
use Rattle.std.specs.Prelude.{Bool, false, true, ℕ, zero, suc, ◌+◌}

-- the number a where the test passes, and 0 where it fails
abbrev pub part : Bool → ℕ → ℕ
part true a = a
part false a = 0

-- f 0 + .. + f (n-1)
unfoldable pub sum : ℕ → (ℕ → ℕ) → ℕ
sum zero f = 0
sum (suc n) f = sum n f + f n
