-- The table of body lengths. Assumes nothing.
use mathlib.Core.Path.{◌≡◌, refl}
use Prim.Native.Nat.{ℕ, zero, suc, ◌≤◌}
use native.Mathlib.Omega.{arith}
use Rattle.records.specs.Format.{body_of}

-- no body is longer than a session's
pub body_most : (k : ℕ) → body_of k ≤ 18
unfolding body_of
body_most zero = omega arith
body_most (suc zero) = omega arith
body_most (suc (suc zero)) = omega arith
body_most (suc (suc (suc zero))) = omega arith
body_most (suc (suc (suc (suc zero)))) = omega arith
body_most (suc (suc (suc (suc (suc zero))))) = omega arith
body_most (suc (suc (suc (suc (suc (suc k)))))) = omega arith

-- a kind that 01 does not name has no body
pub body_none : (k : ℕ) → (k ≡ 1 → ⊥) → (k ≡ 2 → ⊥) → (k ≡ 3 → ⊥) → (k ≡ 4 → ⊥) → (k ≡ 5 → ⊥) → body_of k ≡ 0
unfolding body_of
body_none zero a b c d e = refl
body_none (suc zero) a b c d e = absurd (a refl)
body_none (suc (suc zero)) a b c d e = absurd (b refl)
body_none (suc (suc (suc zero))) a b c d e = absurd (c refl)
body_none (suc (suc (suc (suc zero)))) a b c d e = absurd (d refl)
body_none (suc (suc (suc (suc (suc zero))))) a b c d e = absurd (e refl)
body_none (suc (suc (suc (suc (suc (suc k)))))) a b c d e = refl
