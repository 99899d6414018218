-- The converse of the criterion: in a max-min fair allocation every session has its own limit D or a bottleneck (001, section II), since the
-- allocation is that of Figure 1.
-- Assumes nothing.
use mathlib.Core.Path.{◌≡◌}
use Prim.Native.Nat.{ℕ, ◌*◌}
use Rattle.fairness.specs.Figure1.{figure1, rate}
use Rattle.fairness.specs.MaxMin.{Active, MaxMinFair, Problem, Restricted}
use Rattle.fairness.proofs.Figure1IsFair.{figure1_fair, figure1_restricted}
use Rattle.fairness.proofs.SameRates.{restricted_same}
use Rattle.fairness.proofs.Uniqueness.{max_min_unique}

-- a max-min fair allocation has the rates of Figure 1
pub figure1_is_max_min : (p : Problem) (N : ℕ) (x : ℕ → ℕ) → MaxMinFair p N x → (s : ℕ) → Active p s → rate (figure1 p) s * N ≡ x s * (figure1 p).den
figure1_is_max_min p N x f = max_min_unique p (figure1 p).den (rate (figure1 p)) N x (figure1_fair p) f

pub max_min_restricted : (p : Problem) (N : ℕ) (x : ℕ → ℕ) → MaxMinFair p N x → (s : ℕ) → Active p s → Restricted p N x s
max_min_restricted p N x f s h =
    restricted_same p (figure1 p).den (rate (figure1 p)) N x (figure1_fair p).feasible.pos (figure1_is_max_min p N x f) s h (figure1_restricted p s h)
