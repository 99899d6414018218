-- The bottleneck criterion: feasible rates of which every session has its own limit D or a bottleneck are max-min fair.
-- Assumes nothing.
use mathlib.Core.Bool.{Bool, false, not, true}
use mathlib.Core.Logic.{◌⊎◌, inl, inr}
use mathlib.Core.Path.{◌∙◌, ◌≡◌, ap, sym}
use Prim.Native.Nat.{ℕ, ◌*◌, ◌+◌, ◌<◌}
use native.Mathlib.Omega.{arith}
use lib.Dec.{T}
use Rattle.fairness.specs.Figure1.{net}
use Rattle.fairness.specs.MaxMin.{Active, Feasible, MaxMinFair, Problem, Restricted}
use Rattle.fairness.specs.Sum.{part}
use Rattle.fairness.proofs.NetOfProblem.{fair_of_net, feasible_net, link_bottleneck, own_bottleneck}
use Rattle.fairness.proofs.Nets.{NetBottleneck, net_criterion}
use Rattle.fractions.proofs.Cases.{split}
use Rattle.fairness.proofs.Parts.{part_is}

pub bottleneck_criterion : (p : Problem) (N : ℕ) (x : ℕ → ℕ) → Feasible p N x → ((s : ℕ) → Active p s → Restricted p N x s) → MaxMinFair p N x
unfolding net
bottleneck_criterion p N x a b = fair_of_net p N x a (net_criterion (net p) N X (feasible_net p N x a) (λ s h. find s h (split (p.active s))))
  where
    X : ℕ → ℕ
    X s = part (p.active s) (x s)

    inactive : (c : Bool) (v l : ℕ) → T (not c) → part c v ≡ N * part c l
    inactive true v l u = absurd u
    inactive false v l u = omega arith

    bind : (s : ℕ) → Active p s → Restricted p N x s → (e : ℕ) × NetBottleneck (net p) N X s e
    bind s h (inl q) = (
      p.links + s,
      own_bottleneck p N X s h.0
          (part_is (p.active s) (x s) h.1 ∙ q ∙ ap (λ v. N * v) (sym (part_is (p.active s) (p.D s) h.1))),
    )
    bind s h (inr k) = (k.0, link_bottleneck p N x s k.0 h k.1)

    find : (s : ℕ) → s < p.sessions → T (p.active s) ⊎ T (not (p.active s)) → (e : ℕ) × NetBottleneck (net p) N X s e
    find s h (inr u) = (p.links + s, own_bottleneck p N X s h (inactive (p.active s) (x s) (p.D s) u))
    find s h (inl u) = bind s (h, u) (b s (h, u))
