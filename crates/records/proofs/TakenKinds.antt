-- Kinds that a call takes are 1 to 5.
-- Assumes nothing.
use mathlib.Core.Bool.{true}
use mathlib.Core.Logic.{◌⊎◌, inl, inr}
use mathlib.Core.Path.{◌≡◌, refl}
use Prim.Native.Nat.{ℕ, zero, suc, ◌≤◌, ◌<◌}
use native.Mathlib.Omega.{arith}
use lib.Dec.{eqb, leb, ltb}
use borrow.Author.Tests.{eqb-true, leb-true, ltb-true}
use Rattle.fractions.proofs.Cases.{and_both, or_either}
use Rattle.records.specs.Format.{takes_of}
use Rattle.records.specs.declared.Call.{Call}
use Rattle.records.specs.declared.Call.TheVariants as call

pub taken_kind : (c : Call) (k : ℕ) → takes_of c k ≡ true → (0 < k) × (k ≤ 5)
taken_kind call.Calculation k e = go (or_either (eqb k 1) (eqb k 2) e)
  where
    go : (eqb k 1 ≡ true) ⊎ (eqb k 2 ≡ true) → (0 < k) × (k ≤ 5)
    go (inl h) = omega (arith, eqb-true k 1 h)
    go (inr h) = omega (arith, eqb-true k 2 h)
taken_kind call.Machine k e = let b = and_both (ltb 0 k) (leb k 5) e in (ltb-true 0 k b.0, leb-true k 5 b.1)

-- the last of them
pub last_kind : (k : ℕ) → 0 < k → k ≤ 5 → (k ≡ 1 → ⊥) → (k ≡ 2 → ⊥) → (k ≡ 3 → ⊥) → (k ≡ 4 → ⊥) → k ≡ 5
last_kind zero p h a b c d = absurd (omega arith)
last_kind (suc zero) p h a b c d = absurd (a refl)
last_kind (suc (suc zero)) p h a b c d = absurd (b refl)
last_kind (suc (suc (suc zero))) p h a b c d = absurd (c refl)
last_kind (suc (suc (suc (suc zero)))) p h a b c d = absurd (d refl)
last_kind (suc (suc (suc (suc (suc zero))))) p h a b c d = refl
last_kind (suc (suc (suc (suc (suc (suc k)))))) p h a b c d = absurd (omega arith)
