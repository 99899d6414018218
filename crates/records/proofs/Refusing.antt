-- What is refused is not taken: it is no record, and a run that ends there has not finished.
-- Assumes nothing.
use mathlib.Core.Path.{◌≡◌}
use Prim.Native.Nat.{ℕ}
use native.Mathlib.Omega.{arith}
use Rattle.std.specs.Prelude.{Err, Ok}

pub not_ok : {T E : Type 0} (e : E) (x : T) → Err e ≡ Ok x → ⊥
not_ok e x q = let z : ◌≡◌ {A = ℕ} 0 1 = cc in omega arith
