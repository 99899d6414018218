-- 02, §2: every session has a binding place, and only one: what `binding_of` gives is what binds the session, and no other place does.
-- Assumes nothing.
use mathlib.Core.Bool.{Bool, cond, false, true}
use mathlib.Core.Logic.{◌⊎◌, inl, inr}
use mathlib.Core.Path.{◌≡◌, refl, ap, subst, sym, ◌∙◌}
use Prim.Native.Nat.{ℕ, ◌+◌, ◌*◌, ◌<◌, ◌≤◌}
use native.Mathlib.Omega.{arith}
use borrow.Author.Tests.{eq-eqb, eqb-true}
use lib.Dec.{T, eqb, eqb→eq}
use lib.ListN.{get_or}
use Rattle.fractions.proofs.Cases.{order}
use Rattle.fairness.specs.Figure1.{figure1, rate}
use Rattle.fairness.specs.MaxMin.{Active, Bottleneck, MaxMinFair, Restricted}
use Rattle.fairness.proofs.Anys.{any_found}
use Rattle.fairness.proofs.Bottlenecks.{bottleneck_or_not}
use Rattle.fairness.proofs.EverySessionIsRestricted.{max_min_restricted}
use Rattle.fairness.proofs.Figure1IsFair.{figure1_fair}
use Rattle.fairness.proofs.Running.{values_at}
use Rattle.fairness.proofs.SameRates.{bottleneck_same, own_same}
use Rattle.fairness.proofs.Uniqueness.{max_min_unique}
use Rattle.records.proofs.Somes.{clash}
use Rattle.declarations.specs.declared.Declared.{Declared}
use Rattle.filling.specs.Lines.{problem_of}
use Rattle.search.specs.Crossing.{byte_at}
use Rattle.calculation.specs.Binding.{BindingLink, Binds, binding_of, first_of, is_bottleneck, own, path_bytes, says}
use Rattle.calculation.specs.Calculating.{results_of}
use Rattle.calculation.proofs.FirstOf.{First, first_found}

-- WHAT IS DECIDED IS SO -----------------------------------------------------------------------------------------------

pub says_so : {A : Type 0} (d : Dec A) → says d ≡ true → A
unfolding says
says_so (yes a) q = a
says_so (no n) q = absurd (clash false q refl)

pub so_says : {A : Type 0} (d : Dec A) → A → says d ≡ true
unfolding says
so_says (yes a) b = refl
so_says (no n) b = absurd (n b)

-- EVERY SESSION HAS A BINDING PLACE -----------------------------------------------------------------------------------

on_path : (d : Declared) (e t : ℕ) → T ((problem_of d).crosses e t) → (h : ℕ) × (h < 8) × (byte_at d.path t h ≡ e)
unfolding problem_of
on_path d e t c = let r = any_found 8 (λ h. eqb (byte_at d.path t h) e) c in (r.0, r.1, eqb→eq (byte_at d.path t r.0) e r.2)

module _ (d : Declared) (N : ℕ) (x : ℕ → ℕ) (t : ℕ) where
  abbrev test : ℕ → Bool
  test = is_bottleneck d N x t

  -- a bottleneck on the path: the first of them binds
  first_binds : x t < N * (problem_of d).D t → (e : ℕ) → Bottleneck (problem_of d) N x t e → BindingLink d N x t (first_of test (path_bytes d.path t))
  first_binds below e k = go (first_found test (byte_at d.path t) 8 0 p.0 p.1 hit)
    where
      p : (h : ℕ) × (h < 8) × (byte_at d.path t h ≡ e)
      p = on_path d e t k.crosses

      hit : test (byte_at d.path t (0 + p.0)) ≡ true
      hit = ap (λ (h : ℕ). test (byte_at d.path t h)) {x = 0 + p.0} {y = p.0} (omega arith) ∙ ap test p.2 ∙ so_says (bottleneck_or_not (problem_of d) N x t e) k

      go : First test (byte_at d.path t) 0 8 → BindingLink d N x t (first_of test (path_bytes d.path t))
      go f =
          let z : 0 + f.at ≡ f.at = omega arith in
          let there : first_of test (path_bytes d.path t) ≡ byte_at d.path t f.at = f.is ∙ ap (byte_at d.path t) z in
          record {
            below = below;
            hop = f.at;
            within = f.within;
            there = there;
            bottleneck = says_so (bottleneck_or_not (problem_of d) N x t _) (ap test f.is ∙ f.passes);
            first = λ h l b.
                clash (test (byte_at d.path t h)) (so_says (bottleneck_or_not (problem_of d) N x t _) b)
                (ap (λ (j : ℕ). test (byte_at d.path t j)) {x = h} {y = 0 + h} (omega arith) ∙ f.before h l);
          }

-- at max-min fair rates every active session is bound where `binding_of` says
pub binding_binds : (d : Declared) (N : ℕ) (x : ℕ → ℕ) → MaxMinFair (problem_of d) N x → (t : ℕ) → Active (problem_of d) t → Binds d N x t (binding_of d N x t)
unfolding binding_of
binding_binds d N x f t a = go (eqb (x t) (N * (problem_of d).D t)) refl (max_min_restricted (problem_of d) N x f t a)
  where
    go : (b : Bool) → eqb (x t) (N * (problem_of d).D t) ≡ b → Restricted (problem_of d) N x t
        → Binds d N x t (cond b own (first_of (is_bottleneck d N x t) (path_bytes d.path t)))
    go true q r = inl (refl, eqb-true _ _ q)
    go false q (inl o) = absurd (clash _ (eq-eqb _ _ o) q)
    go false q (inr k) =
        let apart : x t ≡ N * (problem_of d).D t → ⊥ = λ o. clash _ (eq-eqb _ _ o) q in
        inr (first_binds d N x t (strict (x t) (N * (problem_of d).D t) (f.feasible.own t a) apart) k.0 k.1)
      where
        strict : (m n : ℕ) → m ≤ n → (m ≡ n → ⊥) → m < n
        strict m n h u = omega arith

-- AND ONLY ONE --------------------------------------------------------------------------------------------------------

-- 64 stands exactly where the rate is D
pub own_exactly : (d : Declared) (N : ℕ) (x : ℕ → ℕ) (t place : ℕ) → Binds d N x t place
    → (place ≡ own → x t ≡ N * (problem_of d).D t) × (x t ≡ N * (problem_of d).D t → place ≡ own)
unfolding problem_of
own_exactly d N x t place (inl o) = (λ q. o.1, λ q. o.0)
own_exactly d N x t place (inr k) = (λ q. absurd (omega (arith, k.bottleneck.is_a_link, q)), λ q. absurd (omega (arith, k.below, q)))

module _ (d : Declared) (N : ℕ) (x : ℕ → ℕ) (M : ℕ) (y : ℕ → ℕ) (f : MaxMinFair (problem_of d) N x) (g : MaxMinFair (problem_of d) M y) (t : ℕ) (a : Active (problem_of d) t) where
  -- two links that bind: neither comes before the other
  links_same : (i j : ℕ) → BindingLink d N x t i → BindingLink d M y t j → i ≡ j
  links_same i j k l = go (order k.hop l.hop) (order l.hop k.hop)
    where
      not_before : l.hop < k.hop → ⊥
      not_before h =
          k.first l.hop h
          (subst (Bottleneck (problem_of d) N x t) l.there
          (bottleneck_same (problem_of d) M y N x g.feasible.pos (max_min_unique (problem_of d) M y N x g f) t a j l.bottleneck))

      not_after : k.hop < l.hop → ⊥
      not_after h =
          l.first k.hop h
          (subst (Bottleneck (problem_of d) M y t) k.there
          (bottleneck_same (problem_of d) N x M y f.feasible.pos (max_min_unique (problem_of d) N x M y f g) t a i k.bottleneck))

      go : (k.hop ≤ l.hop) ⊎ (l.hop < k.hop) → (l.hop ≤ k.hop) ⊎ (k.hop < l.hop) → i ≡ j
      go (inl h) (inl o) = k.there ∙ ap (byte_at d.path t) {x = k.hop} {y = l.hop} (omega arith) ∙ sym l.there
      go (inl h) (inr o) = absurd (not_after o)
      go (inr h) o = absurd (not_before h)

  -- what binds a session is settled by the declarations alone
  pub binds_unique : (i j : ℕ) → Binds d N x t i → Binds d M y t j → i ≡ j
  binds_unique i j (inl o) (inl q) = o.0 ∙ sym q.0
  binds_unique i j (inl o) (inr l) =
      absurd (omega (arith, l.below, own_same (problem_of d) N x M y f.feasible.pos (max_min_unique (problem_of d) N x M y f g) t a o.1))
  binds_unique i j (inr k) (inl q) =
      absurd (omega (arith, k.below, own_same (problem_of d) M y N x g.feasible.pos (max_min_unique (problem_of d) M y N x g f) t a q.1))
  binds_unique i j (inr k) (inr l) = links_same i j k l

  -- so two fair allocations have the same binding places
  pub binding_same : binding_of d N x t ≡ binding_of d M y t
  binding_same = binds_unique _ _ (binding_binds d N x f t a) (binding_binds d M y g t a)

-- the places of the results bind, at whatever max-min fair rates
pub results_bind : (d : Declared) (N : ℕ) (x : ℕ → ℕ) → MaxMinFair (problem_of d) N x → (t : ℕ) → t < 32 → Active (problem_of d) t
    → Binds d N x t (get_or (results_of d).places t 0)
unfolding results_of
results_bind d N x f t h a =
    let z = figure1 (problem_of d) in
    subst (Binds d N x t) (binding_same d N x z.den (rate z) f (figure1_fair (problem_of d)) t a ∙ sym (values_at 32 t (binding_of d z.den (rate z)) 0 h))
    (binding_binds d N x f t a)
