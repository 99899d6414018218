-- Refusal 13 leaves the table as it was.
-- Assumes nothing.
use mathlib.Core.List.{List}
use Prim.Native.Nat.{ℕ, ◌≤◌}
use borrow.Author.Tests.{ltb-false}
use lib.Dec.{ltb}
use Rattle.events.specs.Events.{Step, unless_many}
use Rattle.fractions.proofs.Cases.{cases}

pub unless_many_lem : (P : List ℕ → Type 0) (n : ℕ) (w v : List ℕ) → P w → (n ≤ 256 → P v) → P (unless_many n w v).words
unless_many_lem P n w v i f = cases (λ (x : Step). P x.words) (ltb 256 n) _ _ (λ e. i) (λ e. f (ltb-false 256 n e))
