-- What the code finds is what Figure 1 gives: the same rates in lowest terms, and the same binding places.
-- Assumes nothing.
use mathlib.Core.Bool.{cond, true}
use mathlib.Core.Path.{◌≡◌, ap, refl, sym, ◌∙◌}
use Prim.Native.Nat.{ℕ, ◌+◌, ◌*◌, ◌<◌}
use native.Mathlib.Nat.{le_trans}
use native.Mathlib.Omega.{arith}
use borrow.Author.Tests.{eq-eqb, eqb-true, le-leb, leb-true, lt-ltb, ltb-true}
use lib.Dec.{T, eqb, eqb_refl, ltb}
use lib.ListN.{get_or}
use Rattle.fractions.specs.Fraction.{lowest_of}
use Rattle.fractions.specs.declared.Rate.{Rate}
use Rattle.fractions.proofs.Cases.{and_both, eqb-T, same_test}
use Rattle.fractions.proofs.LowestTerms.{lowest_lowest, lowest_same}
use Rattle.sessions.specs.Set.{has}
use Rattle.fairness.specs.Answer.{Answer, figure1_rate}
use Rattle.fairness.specs.Figure1.{figure1, rate}
use Rattle.fairness.specs.MaxMin.{Active, Bottleneck}
use Rattle.fairness.proofs.Answers.{answer_unique, figure1_answer}
use Rattle.fairness.proofs.Anys.{any_at}
use Rattle.fairness.proofs.Bottlenecks.{bottleneck_or_not}
use Rattle.fairness.proofs.Figure1IsFair.{figure1_fair}
use Rattle.fairness.proofs.Running.{values_at}
use Rattle.declarations.specs.declared.Declared.{Declared}
use Rattle.filling.specs.Lines.{Filled, problem_of}
use Rattle.filling.specs.declared.Fixed.{Fixed}
use Rattle.search.specs.Crossing.{byte_at}
use Rattle.calculation.specs.Binding.{binding_by_last, binding_of, bottleneck_by_last, is_bottleneck, own, says}
use Rattle.calculation.specs.Calculating.{results_of}
use Rattle.calculation.specs.Results.{Found}
use Rattle.calculation.specs.declared.Results.{Results}
use Rattle.calculation.proofs.BindingPlaces.{binding_same, says_so, so_says}
use Rattle.calculation.proofs.FirstOf.{first_cong}

-- a declared session is active
pub active : (d : Declared) (t : ℕ) → t < 32 → has t d.sessions ≡ 1 → Active (problem_of d) t
unfolding problem_of
active d t h m = (h, eqb-T (has t d.sessions) 1 m)

-- the binding place by what the rounds leave
module _ (d : Declared) (z : Fixed) (f : Filled d z) (t : ℕ) (a : Active (problem_of d) t) where
  abbrev x : ℕ → ℕ
  x s = get_or z.rate s 0

  -- a link passes the test: it has no room, so it is fully used, and nobody has more, as the one that was fixed last has not
  tested : (e : ℕ) → T ((problem_of d).crosses e t) → bottleneck_by_last z.rate z.room z.last (x t) e ≡ true → Bottleneck (problem_of d) z.den x t e
  unfolding problem_of
  tested e c q =
      let p = and_both (ltb e 64) _ q in
      let r = and_both (eqb (get_or z.room e 0) 0) _ p.1 in
      let low = ltb-true e 64 p.0 in
      let top = f.last e low t a c in
      let no_more = leb-true (x (get_or z.last e 0)) (x t) r.1 in
      record {
        is_a_link = low;
        crosses = c;
        full = f.full e low (eqb-true _ _ r.0);
        most = λ s b o. le_trans (top.most s b o) no_more;
      }

  -- and every bottleneck passes it
  passes : (e : ℕ) → Bottleneck (problem_of d) z.den x t e → bottleneck_by_last z.rate z.room z.last (x t) e ≡ true
  unfolding problem_of
  passes e k =
      let top = f.last e k.is_a_link t a k.crosses in
      let spent = f.spent e k.is_a_link k.full in
      let no_more = k.most (get_or z.last e 0) top.active top.crosses in
      rw (lt-ltb e 64 k.is_a_link, eq-eqb (get_or z.room e 0) 0 spent, le-leb (x (get_or z.last e 0)) (x t) no_more) refl

  crosses_there : (h : ℕ) → h < 8 → T ((problem_of d).crosses (byte_at d.path t h) t)
  unfolding problem_of
  crosses_there h l = any_at 8 (λ i. eqb (byte_at d.path t i) (byte_at d.path t h)) h l (eqb_refl (byte_at d.path t h))

  agrees : (h : ℕ) → h < 8
      → bottleneck_by_last z.rate z.room z.last (x t) (byte_at d.path t h) ≡ is_bottleneck d z.den x t (byte_at d.path t h)
  agrees h l =
      let e = byte_at d.path t h in
      let b = bottleneck_or_not (problem_of d) z.den x t e in
      same_test _ (says b) (λ q. so_says b (tested e (crosses_there h l) q)) (λ q. passes e (says_so b q))

  place_is_binding : binding_by_last d.path z.rate z.room z.last (z.den * (problem_of d).D t) t ≡ binding_of d z.den x t
  unfolding binding_of
  place_is_binding =
      ap (cond (eqb (x t) (z.den * (problem_of d).D t)) own)
      (first_cong _ (is_bottleneck d z.den x t) (byte_at d.path t) 8 0 (λ h l. agrees (0 + h) (omega arith)))

-- the rates of the code, in lowest terms, answer the problem
filled_answer : (d : Declared) (z : Fixed) → Filled d z → Answer (problem_of d) (λ t. lowest_of (get_or z.rate t 0) z.den)
filled_answer d z f =
    record {
      over = z.den;
      rates = λ t. get_or z.rate t 0;
      fair = f.fair;
      shown = λ t h. lowest_same (get_or z.rate t 0) z.den;
      lowest = λ t h. lowest_lowest (get_or z.rate t 0) z.den f.fair.feasible.pos;
    }

module _ (d : Declared) (z : Fixed) (v : Results) (f : Filled d z) (found : Found d z v) where
  same_rate : (t : ℕ) → Active (problem_of d) t → lowest_of (get_or z.rate t 0) z.den ≡ figure1_rate (problem_of d) t
  same_rate = answer_unique (problem_of d) _ _ (filled_answer d z f) (figure1_answer (problem_of d))

  pub same_nums : (t : ℕ) → t < 32 → has t d.sessions ≡ 1 → get_or v.nums t 0 ≡ get_or (results_of d).nums t 0
  unfolding results_of
  same_nums t h m = found.num t h m ∙ (ap (λ (r : Rate). r.num) (same_rate t (active d t h m)) ∙ sym (values_at 32 t _ 0 h))

  pub same_dens : (t : ℕ) → t < 32 → has t d.sessions ≡ 1 → get_or v.dens t 0 ≡ get_or (results_of d).dens t 0
  unfolding results_of
  same_dens t h m = found.den t h m ∙ (ap (λ (r : Rate). r.den) (same_rate t (active d t h m)) ∙ sym (values_at 32 t _ 0 h))

  pub same_places : (t : ℕ) → t < 32 → has t d.sessions ≡ 1 → get_or v.places t 0 ≡ get_or (results_of d).places t 0
  unfolding results_of problem_of
  same_places t h m =
      found.place t h m
      ∙ (place_is_binding d z f t (active d t h m)
      ∙ binding_same d z.den (λ s. get_or z.rate s 0) (figure1 (problem_of d)).den (rate (figure1 (problem_of d))) f.fair (figure1_fair (problem_of d)) t (active d t h m)
      ∙ sym (values_at 32 t _ 0 h))
