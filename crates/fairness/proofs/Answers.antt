-- The answer to a problem: there is one, Figure 1's; no second result meets the statement; its denominators are small.
-- Assumes nothing.
use mathlib.Core.Path.{◌≡◌}
use Prim.Native.Nat.{ℕ, ◌≤◌}
use native.Mathlib.Nat.{le_trans}
use Rattle.fractions.specs.declared.Rate.{Rate}
use Rattle.fractions.proofs.LowestTerms.{lowest_den, lowest_lowest, lowest_same, lowest_unique}
use Rattle.fractions.proofs.Order.{same_sym, same_trans}
use Rattle.fairness.specs.Answer.{Answer, figure1_rate}
use Rattle.fairness.specs.Figure1.{figure1, rate}
use Rattle.fairness.specs.MaxMin.{Active, Problem}
use Rattle.fairness.proofs.Figure1IsFair.{figure1_denominator, figure1_fair}
use Rattle.fairness.proofs.Uniqueness.{max_min_unique}

-- no second result: the same numerator and the same denominator
pub answer_unique : (p : Problem) (q r : ℕ → Rate) → Answer p q → Answer p r → (s : ℕ) → Active p s → q s ≡ r s
answer_unique p q r a b s h =
    lowest_unique (a.lowest s h) (b.lowest s h)
    (same_trans a.fair.feasible.pos (a.shown s h)
    (same_trans b.fair.feasible.pos
    (record { cross = max_min_unique p a.over a.rates b.over b.rates a.fair b.fair s h })
    (same_sym (b.shown s h))))

-- Figure 1 gives the answer
pub figure1_answer : (p : Problem) → Answer p (figure1_rate p)
figure1_answer p =
    record {
      over = (figure1 p).den;
      rates = rate (figure1 p);
      fair = figure1_fair p;
      shown = λ s h. lowest_same (rate (figure1 p) s) (figure1 p).den;
      lowest = λ s h. lowest_lowest (rate (figure1 p) s) (figure1 p).den (figure1_fair p).feasible.pos;
    }

-- 01: with 32 sessions every rate has a denominator of at most 118,098
pub answer_denominator : (p : Problem) (r : ℕ → Rate) → p.sessions ≤ 32 → Answer p r → (s : ℕ) → Active p s → (r s).den ≤ 118098
answer_denominator p r few a s h =
    let N = (figure1 p).den in
    let pos = (figure1_fair p).feasible.pos in
    rw (answer_unique p r (figure1_rate p) a (figure1_answer p) s h)
    (le_trans (lowest_den (rate (figure1 p) s) N pos (lowest_lowest (rate (figure1 p) s) N pos) (lowest_same (rate (figure1 p) s) N)) (figure1_denominator p few))
