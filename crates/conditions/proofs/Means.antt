-- The test says yes exactly where the five conditions of 01 hold.
-- Assumes nothing.
use mathlib.Core.Bool.{true, ◌&&◌}
use mathlib.Core.List.{List}
use mathlib.Core.Path.{ap₂, ◌≡◌}
use Prim.Native.Nat.{ℕ}
use native.Mathlib.Omega.{arith}
use borrow.Author.Tests.{eq-eqb, eqb-true}
use Rattle.fractions.proofs.Cases.{and_both}
use Rattle.records.proofs.Alls.{all_at, all_below}
use Rattle.table.specs.Words.{count_of}
use Rattle.table.proofs.InRange.{r_below}
use Rattle.table.proofs.Workables.{place_workable}
use Rattle.conditions.specs.Conditions.{FiveConditions}
use Rattle.conditions.specs.Settled.{condition_a, condition_b, condition_c, condition_d, condition_e, link_rated, session_limited, session_rests, session_told, settled_of}
use Rattle.conditions.proofs.OneByOne.{limited_means, limited_test, rated_means, rated_test, rests_means, rests_test, told_means, told_test}

pub settled_means : (w : List ℕ) → settled_of w ≡ true → FiveConditions w
unfolding settled_of condition_a condition_b condition_c condition_d condition_e
settled_means w h =
    let a = and_both (condition_a w) (condition_b w && (condition_c w && (condition_d w && condition_e w))) h in
    let b = and_both (condition_b w) (condition_c w && (condition_d w && condition_e w)) a.1 in
    let c = and_both (condition_c w) (condition_d w && condition_e w) b.1 in
    let d = and_both (condition_d w) (condition_e w) c.1 in
    record {
      a = eqb-true (count_of w) 0 a.0;
      b = λ s l. rests_means w s (all_at 32 (session_rests w) s b.0 l);
      c = λ e l. rated_means w e (place_workable w e) (omega (arith, r_below w e)) (all_at 64 (link_rated w) e c.0 l);
      d = λ s l. limited_means w s (all_at 32 (session_limited w) s d.0 l);
      e = λ s l. told_means w s (all_at 32 (session_told w) s d.1 l);
    }

pub means_settled : (w : List ℕ) → FiveConditions w → settled_of w ≡ true
unfolding settled_of condition_a condition_b condition_c condition_d condition_e
means_settled w o =
    ap₂ ◌&&◌ (eq-eqb (count_of w) 0 o.a)
    (ap₂ ◌&&◌ (all_below 32 (session_rests w) (λ s l. rests_test w s (o.b s l)))
    (ap₂ ◌&&◌ (all_below 64 (link_rated w) (λ e l. rated_test w e (o.c e l)))
    (ap₂ ◌&&◌ (all_below 32 (session_limited w) (λ s l. limited_test w s (o.d s l))) (all_below 32 (session_told w) (λ s l. told_test w s (o.e s l))))))
