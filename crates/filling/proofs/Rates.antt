-- A rate after a round.
-- Assumes nothing.
use mathlib.Core.Path.{◌≡◌}
use Prim.Native.Nat.{ℕ}
use native.Mathlib.Omega.{arith}
use borrow.Author.Tests.{ne_eqb}
use Rattle.sessions.specs.Set.{has}
use Rattle.filling.specs.OneRound.{rate_after}
use Rattle.filling.specs.declared.Given.{Given}

-- who has no rate and is not chosen has none afterwards
pub rate_still : (l : Given) (x s : ℕ) → (x ≡ 0) × (has s l.chosen ≡ 0) → x ≡ rate_after l x s
unfolding rate_after
rate_still l x s q = rw (ne_eqb (has s l.chosen) 1 (λ e. omega arith), q.0) (omega arith)
