-- The greatest common divisor: what it is, and a definition of it that computes. Follows 01, "Fractions", and 02, §4.
-- Assumes nothing: definitions.
use Rattle.std.specs.Prelude.{◌≡◌, ℕ, zero, suc, ◌*◌, ◌%◌, ◌^◌}
use Rattle.std.specs.Int.{◌∣◌}

-- g is the greatest common divisor of a and b: it divides both, and every common divisor divides it
pub record IsGcd (a b g : ℕ) : Type 0 where
  pub left : g ∣ a
  pub right : g ∣ b
  pub greatest : (d : ℕ) → d ∣ a → d ∣ b → d ∣ g

-- r is x without its factors of two
pub record OddPart (x r : ℕ) : Type 0 where
  pub twos : ℕ
  pub odd : r % 2 ≡ 1
  pub whole : 2 ^ twos * r ≡ x

-- 01: "found by recursion on remainders", here at most k times. What lowest terms compute with: the code goes another way (02, §4)
unfoldable pub gcd_in : ℕ → ℕ → ℕ → ℕ
gcd_in zero a b = a
gcd_in (suc k) a zero = a
gcd_in (suc k) a (suc b) = gcd_in k (suc b) (a % suc b)

-- the greatest common divisor as a number: the second number falls at each remainder, so b of them are enough
unfoldable pub gcd_of : ℕ → ℕ → ℕ
gcd_of a b = gcd_in b a b
