-- The part of a number that a test lets pass.
-- Assumes nothing.
use mathlib.Core.Bool.{Bool, false, true}
use mathlib.Core.Path.{◌≡◌, refl}
use Prim.Native.Nat.{ℕ, ◌≤◌}
use native.Mathlib.Omega.{arith}
use lib.Dec.{T}
use Rattle.fairness.specs.Sum.{part}

pub part_is : (b : Bool) (a : ℕ) → T b → part b a ≡ a
part_is true a t = refl
part_is false a t = absurd t

pub not_part : (b : Bool) (a : ℕ) → (T b → ⊥) → part b a ≡ 0
not_part true a h = absurd (h tt)
not_part false a h = refl

pub part_zero : (b : Bool) → part b 0 ≡ 0
part_zero true = refl
part_zero false = refl

pub part_le : (b : Bool) (a : ℕ) → part b a ≤ a
part_le true a = omega arith
part_le false a = omega arith

-- two tests that both pass
pub part_both : (a b : Bool) (v : ℕ) → T a → T b → part a (part b v) ≡ v
part_both true true v t u = refl
part_both true false v t u = absurd u
part_both false b v t u = absurd t
