-- Settled rates are max-min fair: by (c) a link carries no more than its capacity and is a bottleneck of each member of its R, and by (d) every
-- session is in R somewhere or has its own limit.
-- Assumes nothing.
use mathlib.Core.Bool.{Bool, ◌&&◌, false, not, true}
use mathlib.Core.Logic.{◌⊎◌, inl, inr}
use mathlib.Core.Path.{◌∙◌, ◌≡◌, ap, refl}
use Prim.Native.Nat.{ℕ, ◌*◌, ◌+◌, ◌≤◌, ◌<◌}
use native.Mathlib.Nat.{eq_of_mul-eq-mul_right, le_of_mul-le-mul_right}
use native.Mathlib.Omega.{arith}
use lib.Dec.{T}
use Rattle.fairness.specs.MaxMin.{Active, Bottleneck, MaxMinFair, Problem, Restricted, used}
use Rattle.fairness.specs.Settled.{SettledLink, SettledRates, size_r, sum_f}
use Rattle.fairness.specs.Sum.{part}
use Rattle.fairness.proofs.Criterion.{bottleneck_criterion}
use Rattle.fairness.proofs.Sums.{sum_add, sum_at, sum_eq, sum_find, sum_scale}
use Rattle.fractions.proofs.Cases.{and_join, and_split, order, split}
use Rattle.fairness.proofs.Parts.{part_both}

two_parts : (a : Bool) (r : Bool) (v : ℕ) → part a v ≡ part a (part r v) + part a (part (not r) v)
two_parts true true v = omega arith
two_parts true false v = omega arith
two_parts false r v = refl

at_rate : (a r : Bool) (v k : ℕ) → (T a → T r → v ≡ k) → part a (part r v) ≡ k * part a (part r 1)
at_rate true true v k h = omega (arith, h tt tt)
at_rate true false v k h = omega arith
at_rate false r v k h = omega arith

-- what is used at e, where all members of R have the rate k
used_is : (p : Problem) (x : ℕ → ℕ) (e : ℕ) (R : ℕ → Bool) (k : ℕ)
    → ((t : ℕ) → Active p t → T (p.crosses e t) → T (R t) → x t ≡ k) → used p x e ≡ k * size_r p R e + sum_f p x R e
unfolding used size_r sum_f
used_is p x e R k same =
    sum_eq _ _ _ (λ t h. two_parts (p.active t && p.crosses e t) (R t) (x t))
    ∙ sum_add _ _ _
    ∙ ap (λ v. v + sum_f p x R e)
    (sum_eq _ _ _
    (λ t h. at_rate (p.active t && p.crosses e t) (R t) (x t) k
    (λ a r. let u = and_split (p.active t) (p.crosses e t) a in same t (h, u.0) u.1 r))
    ∙ sum_scale _ _ _)

a_member : (a r : Bool) → 0 < part a (part r 1) → T a × T r
a_member true true h = (tt, tt)
a_member true false h = absurd (omega arith)
a_member false r h = absurd (omega arith)

module _ (p : Problem) (N : ℕ) (x : ℕ → ℕ) (e : ℕ) (R : ℕ → Bool) (l : SettledLink p N x e R) where
  -- a member of R
  module _ (s : ℕ) (h : Active p s) (c : T (p.crosses e s)) (r : T (R s)) where
    some_r : 0 < size_r p R e
    unfolding size_r
    some_r =
        omega (
          arith,
          sum_at p.sessions (λ s. part (p.active s && p.crosses e s) (part (R s) 1)) s h.0,
          part_both (p.active s && p.crosses e s) (R s) 1 (and_join (p.active s) (p.crosses e s) h.1 c) r,
        )

    same_rate : (t : ℕ) → Active p t → T (p.crosses e t) → T (R t) → x t ≡ x s
    same_rate t ht ct rt = eq_of_mul-eq-mul_right (size_r p R e) some_r (x t) (x s) (omega (arith, l.equal t ht ct rt, l.equal s h c r))

    full : used p x e ≡ N * p.capacity e
    full = used_is p x e R (x s) same_rate ∙ l.equal s h c r

    most : (t : ℕ) → Active p t → T (p.crosses e t) → x t ≤ x s
    most t ht ct = go (split (R t))
      where
        go : T (R t) ⊎ T (not (R t)) → x t ≤ x s
        go (inl rt) = omega (arith, same_rate t ht ct rt)
        go (inr ft) = le_of_mul-le-mul_right {k = size_r p R e} (omega (arith, l.below t ht ct ft some_r, l.equal s h c r)) some_r

  pub settled_fits : used p x e ≤ N * p.capacity e
  unfolding size_r
  settled_fits = go (order (size_r p R e) 0)
    where
      go : (size_r p R e ≤ 0) ⊎ (0 < size_r p R e) → used p x e ≤ N * p.capacity e
      go (inl z) =
          omega (
            arith,
            used_is p x e R 0
                (λ t h c r.
                absurd
                (omega (
                  arith,
                  some_r t h c r,
                ))),
            l.empty (omega arith),
          )
      go (inr n) =
          let f = sum_find p.sessions (λ s. part (p.active s && p.crosses e s) (part (R s) 1)) n in
          let m = a_member (p.active f.0 && p.crosses e f.0) (R f.0) f.2 in
          let u = and_split (p.active f.0) (p.crosses e f.0) m.0 in
          omega (arith, full f.0 (f.1, u.0) u.1 m.1)

  pub settled_bottleneck : e < p.links → (s : ℕ) → Active p s → T (p.crosses e s) → T (R s) → Bottleneck p N x s e
  settled_bottleneck b s h c r = record { is_a_link = b; crosses = c; full = full s h c r; most = most s h c r }

-- a settled values has the max-min fair rates
pub settled_is_fair : (p : Problem) (N : ℕ) (x : ℕ → ℕ) (R : ℕ → ℕ → Bool) → SettledRates p N x R → MaxMinFair p N x
settled_is_fair p N x R z =
    bottleneck_criterion p N x
    (record { pos = z.pos; fits = λ e h. settled_fits p N x e (R e) (z.links e h); own = z.own })
    (λ s h. go s h (z.restricted s h))
  where
    go : (s : ℕ) → Active p s → (x s ≡ N * p.D s) ⊎ ((e : ℕ) × (e < p.links) × T (p.crosses e s) × T (R e s)) → Restricted p N x s
    go s h (inl q) = inl q
    go s h (inr k) = inr (k.0, settled_bottleneck p N x k.0 (R k.0) (z.links k.0 k.1) k.1 s h k.2 k.3)
