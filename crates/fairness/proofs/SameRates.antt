-- Two allocations of the same rates, over different denominators: what a link carries, who has its own limit, which links are full, and who is
-- restricted are the same in both.
-- Assumes nothing.
use mathlib.Core.Bool.{Bool, ◌&&◌, false, true}
use mathlib.Core.Logic.{inl, inr}
use mathlib.Core.Path.{◌∙◌, ◌≡◌, ap, sym}
use Prim.Native.Nat.{ℕ, ◌*◌, ◌<◌}
use native.Mathlib.Nat.{eq_of_mul-eq-mul_right, le_of_mul-le-mul_right, mul-le-mul_right}
use native.Mathlib.Omega.{arith}
use lib.Dec.{T}
use Rattle.fairness.specs.MaxMin.{Active, Bottleneck, Problem, Restricted, used}
use Rattle.fairness.specs.Sum.{part}
use Rattle.fairness.proofs.Sums.{sum_eq, sum_scale}

part_same : (a c : Bool) (k v m u : ℕ) → (T a → v * k ≡ u * m) → k * part (a && c) v ≡ m * part (a && c) u
part_same true true k v m u h = omega (arith, h tt)
part_same true false k v m u h = omega arith
part_same false c k v m u h = omega arith

module _ (p : Problem) (N : ℕ) (x : ℕ → ℕ) (M : ℕ) (y : ℕ → ℕ) (pos : 0 < N) (same : (s : ℕ) → Active p s → x s * M ≡ y s * N) where
  used_same : (e : ℕ) → M * used p x e ≡ N * used p y e
  unfolding used
  used_same e =
      sym (sum_scale _ _ _)
      ∙ sum_eq _ _ _ (λ s h. part_same (p.active s) (p.crosses e s) M (x s) N (y s) (λ t. same s (h, t)))
      ∙ sum_scale _ _ _

  -- the own limit
  pub own_same : (s : ℕ) → Active p s → x s ≡ N * p.D s → y s ≡ M * p.D s
  own_same s h q = eq_of_mul-eq-mul_right N pos (y s) (M * p.D s) (omega (arith, same s h, ap (λ v. v * M) q))

  -- a full link
  pub full_same : (e : ℕ) → used p x e ≡ N * p.capacity e → used p y e ≡ M * p.capacity e
  full_same e q = eq_of_mul-eq-mul_right N pos (used p y e) (M * p.capacity e) (omega (arith, used_same e, ap (λ v. M * v) q))

  -- a bottleneck
  pub bottleneck_same : (s : ℕ) → Active p s → (e : ℕ) → Bottleneck p N x s e → Bottleneck p M y s e
  bottleneck_same s h e k =
      record {
        is_a_link = k.is_a_link;
        crosses = k.crosses;
        full = full_same e k.full;
        most = λ t ht o. le_of_mul-le-mul_right {k = N} (omega (arith, same s h, same t ht, mul-le-mul_right M (k.most t ht o))) pos;
      }

  -- the own limit or a bottleneck
  pub restricted_same : (s : ℕ) → Active p s → Restricted p N x s → Restricted p M y s
  restricted_same s h (inl q) = inl (own_same s h q)
  restricted_same s h (inr k) = inr (k.0, bottleneck_same s h k.0 k.1)
