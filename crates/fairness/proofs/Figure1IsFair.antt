-- Figure 1 is max-min fair: where the rounds begin, what they have come to where nobody is open, and so the figure; its denominator is small.
-- Assumes nothing.
use mathlib.Core.Bool.{Bool, false, not, true}
use mathlib.Core.Path.{◌∙◌, ◌≡◌, ap, refl, subst, sym}
use Prim.Native.Nat.{ℕ, ◌*◌, ◌+◌, ◌≤◌, ◌<◌}
use native.Mathlib.Omega.{arith}
use lib.Dec.{T, eqb_refl}
use Rattle.fairness.specs.Figure1.{begin, figure1, is_fixed, load_at, net, open_all, rate}
use Rattle.fairness.specs.MaxMin.{Active, Feasible, MaxMinFair, Problem, Restricted}
use Rattle.fairness.specs.Sum.{part}
use Rattle.fairness.proofs.Criterion.{bottleneck_criterion}
use Rattle.fairness.proofs.Denominators.{all_weight, small_32}
use Rattle.fairness.proofs.NetOfProblem.{cap_link, cap_own, load_link, load_own, on_own, open_own, own_bottleneck, restricted_of_net}
use Rattle.fairness.proofs.Products.{one_largest}
use Rattle.fairness.proofs.Rounds.{Filling}
use Rattle.fairness.proofs.Running.{Crosses, StateFilling, all_fixed, filled, values_at}
use Rattle.fairness.proofs.Sums.{sum_few, sum_none}
use Rattle.fairness.proofs.Parts.{part_is, part_le, part_zero}

-- WHERE THE ROUNDS BEGIN ----------------------------------------------------------------------------------------------

pub load_zero : (p : Problem) (x : ℕ → ℕ) → ((s : ℕ) → s < p.sessions → x s ≡ 0) → (e : ℕ) → load_at (net p) x e ≡ 0
unfolding load_at net
load_zero p x z e = sum_none p.sessions (λ s. part ((net p).on e s) (x s)) (λ s h. rw (z s h) (part_zero ((net p).on e s)))

-- who is not active has its limit, 0
inactive : (a : Bool) (l : ℕ) → T (not a) → 0 ≡ 1 * part a l
inactive true l u = absurd u
inactive false l u = omega arith

closed : (a : Bool) → T a → part (not a) 1 ≡ 0
closed true t = refl
closed false t = absurd t

-- nobody has a rate, and those that are not active count as fixed
pub filling_begins : (p : Problem) (x : ℕ → ℕ) (d : ℕ → Bool) → ((s : ℕ) → s < p.sessions → x s ≡ 0) → ((s : ℕ) → s < p.sessions → d s ≡ not (p.active s))
    → Filling (net p) 1 x d
unfolding net
filling_begins p x d z f =
    record {
      pos = omega arith;
      none_yet = λ s h o. z s h;
      fits = λ e h. omega (arith, load_zero p x z e);
      rising = λ t h o e l. rw (z t h) (omega arith);
      held = λ s h o. (
        p.links + s,
        own_bottleneck p 1 x s h (z s h ∙ inactive (p.active s) (p.D s) (subst T (f s h) o)),
        open_own p d s h ∙ closed (d s) o,
      );
    }

pub begin_filling : (p : Problem) → StateFilling (net p) (begin p)
unfolding begin
begin_filling p =
    record {
      inv = filling_begins p (λ s. 0) (is_fixed (begin p)) (λ s h. refl) (λ s h. values_at p.sessions s _ false h);
      small = λ h. one_largest _ (omega arith);
    }

-- WHERE THEY END: NOBODY IS OPEN --------------------------------------------------------------------------------------

module _ (p : Problem) (N : ℕ) (x : ℕ → ℕ) (d : ℕ → Bool) (i : Filling (net p) N x d) (fixed : (s : ℕ) → s < p.sessions → T (d s)) where
  filling_feasible : Feasible p N x
  unfolding net
  filling_feasible =
      record {
        pos = i.pos;
        fits = λ e h. omega (arith, i.fits e (omega arith), load_link p x e h, ap (λ v. N * v) (cap_link p e h));
        own = λ s h.
            omega (
              arith,
              i.fits (p.links + s) (omega arith),
              load_own p x s h.0,
              ap (λ v. N * v) (cap_own p s ∙ part_is (p.active s) (p.D s) h.1),
            );
      }

  pub filling_ends_restricted : (s : ℕ) → Active p s → Restricted p N x s
  unfolding net
  filling_ends_restricted s h = let b = i.held s h.0 (fixed s h.0) in restricted_of_net p N x s b.0 h b.1

  pub filling_ends_fair : MaxMinFair p N x
  filling_ends_fair = bottleneck_criterion p N x filling_feasible filling_ends_restricted

-- THE FIGURE ----------------------------------------------------------------------------------------------------------

pub net_crosses : (p : Problem) → Crosses (net p)
unfolding net
net_crosses p s h = (p.links + s, omega arith, subst T (sym (on_own p s s)) (eqb_refl (p.links + s)), omega arith)

open_few : (p : Problem) (d : ℕ → Bool) → open_all (net p) d ≤ p.sessions
unfolding net open_all
open_few p d = sum_few p.sessions _ (λ s h. part_le (not (d s)) 1)

-- with every weight 1, all sessions together weigh as many as there are
pub weight_32 : (p : Problem) → p.sessions ≤ 32 → all_weight (net p) ≤ 32
unfolding net all_weight
weight_32 p h = omega (arith, sum_few p.sessions (λ s. 1) (λ s l. omega arith))

module _ (p : Problem) where
  figure1_filled : StateFilling (net p) (figure1 p) × (open_all (net p) (is_fixed (figure1 p)) ≡ 0)
  unfolding figure1
  figure1_filled = filled (net p) (net_crosses p) p.sessions (begin p) (begin_filling p) (open_few p (is_fixed (begin p)))

  figure1_fixed : (s : ℕ) → s < p.sessions → T (is_fixed (figure1 p) s)
  unfolding net
  figure1_fixed = all_fixed (net p) (net_crosses p) (is_fixed (figure1 p)) figure1_filled.1

  -- with at most 32 sessions its denominator is at most 118,098
  pub figure1_denominator : p.sessions ≤ 32 → (figure1 p).den ≤ 118098
  figure1_denominator h = small_32 (net p) (weight_32 p h) _ _ (figure1_filled.0.small (weight_32 p h))

  -- every session has its own limit or a bottleneck
  pub figure1_restricted : (s : ℕ) → Active p s → Restricted p (figure1 p).den (rate (figure1 p)) s
  figure1_restricted = filling_ends_restricted p _ _ _ figure1_filled.0.inv figure1_fixed

  -- the rates of Figure 1 are max-min fair
  pub figure1_fair : MaxMinFair p (figure1 p).den (rate (figure1 p))
  figure1_fair = filling_ends_fair p _ _ _ figure1_filled.0.inv figure1_fixed
