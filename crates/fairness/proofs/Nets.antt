-- Max-min fairness over a Net, where an own limit is one more link: feasible, fair, bottleneck, and the bottleneck criterion.
-- Rates stand over one denominator: session s has x s / N. Everything is per unit of weight.
-- Assumes nothing.
use mathlib.Core.Bool.{Bool, false, true}
use mathlib.Core.Logic.{◌⊎◌, inl, inr}
use mathlib.Core.Path.{◌≡◌, ap, refl}
use Prim.Native.Nat.{ℕ, ◌*◌, ◌+◌, ◌≤◌, ◌<◌}
use native.Mathlib.Nat.{mul-le-mul_left}
use native.Mathlib.Omega.{arith}
use lib.Dec.{T}
use Rattle.fairness.specs.Figure1.{Net, load_at}
use Rattle.fairness.specs.Sum.{part, sum}
use Rattle.fairness.proofs.Sums.{below_or, sum_eq, sum_scale}
use Rattle.fairness.proofs.Parts.{part_is}

pub record NetFeasible (w : Net) (N : ℕ) (x : ℕ → ℕ) : Type 0 where
  pub pos : 0 < N
  pub fits : (e : ℕ) → e < w.links → load_at w x e ≤ N * w.capacity e

-- of the sessions S, one loses by the change from x to y, and had no more than s
pub record Takes (S : ℕ → Type 0) (weight : ℕ → ℕ) (N : ℕ) (x : ℕ → ℕ) (M : ℕ) (y : ℕ → ℕ) (s : ℕ) : Type 0 where
  pub from : ℕ
  pub here : S from
  pub less : y from * N < x from * M
  pub small : x from * weight s ≤ x s * weight from

-- max-min fair: whoever has more in another feasible allocation takes it from one that has no more
pub record NetFair (w : Net) (N : ℕ) (x : ℕ → ℕ) : Type 0 where
  pub feasible : NetFeasible w N x
  pub fair : (M : ℕ) (y : ℕ → ℕ) → NetFeasible w M y → (s : ℕ) → s < w.sessions → x s * M < y s * N
      → Takes (λ t. t < w.sessions) w.weight N x M y s

-- e is a bottleneck of s: s crosses e, e is full, and nobody has more there than s
pub record NetBottleneck (w : Net) (N : ℕ) (x : ℕ → ℕ) (s e : ℕ) : Type 0 where
  pub is_a_link : e < w.links
  pub crosses : T (w.on e s)
  pub full : load_at w x e ≡ N * w.capacity e
  pub most : (t : ℕ) → t < w.sessions → T (w.on e t) → x t * w.weight s ≤ x s * w.weight t

part_scale : (b : Bool) (k a : ℕ) → part b (k * a) ≡ k * part b a
part_scale true k a = refl
part_scale false k a = omega arith

part_lt : (b : Bool) (a c : ℕ) → part b a < part b c → T b × (a < c)
part_lt true a c h = (tt, h)
part_lt false a c h = absurd (omega arith)

pub load_scale : (w : Net) (k : ℕ) (x : ℕ → ℕ) (e : ℕ) → sum w.sessions (λ s. part (w.on e s) (k * x s)) ≡ k * load_at w x e
unfolding load_at
load_scale w k x e =
    rw (sum_eq w.sessions (λ s. part (w.on e s) (k * x s)) (λ s. k * part (w.on e s) (x s)) (λ s h. part_scale (w.on e s) k (x s)))
    (sum_scale w.sessions k (λ s. part (w.on e s) (x s)))

-- the criterion: who gains crosses a full link, so somebody there loses, and had no more
pub net_criterion : (w : Net) (N : ℕ) (x : ℕ → ℕ) → NetFeasible w N x
    → ((s : ℕ) → s < w.sessions → (e : ℕ) × NetBottleneck w N x s e) → NetFair w N x
net_criterion w N x fx b = record { feasible = fx; fair = taken }
  where
    taken : (M : ℕ) (y : ℕ → ℕ) → NetFeasible w M y → (s : ℕ) → s < w.sessions → x s * M < y s * N
        → Takes (λ t. t < w.sessions) w.weight N x M y s
    taken M y fy s hs more = go (below_or w.sessions f g)
      where
        e : ℕ
        e = (b s hs).0

        B : NetBottleneck w N x s e
        B = (b s hs).1

        f : ℕ → ℕ
        f t = part (w.on e t) (M * x t)

        g : ℕ → ℕ
        g t = part (w.on e t) (N * y t)

        go : ((t : ℕ) × (t < w.sessions) × (g t < f t))
            ⊎ ((sum w.sessions f ≤ sum w.sessions g) × ((i : ℕ) → i < w.sessions → sum w.sessions f + g i ≤ sum w.sessions g + f i))
            → Takes (λ t. t < w.sessions) w.weight N x M y s
        go (inl k) =
            let on-lt = part_lt (w.on e k.0) (N * y k.0) (M * x k.0) k.2 in
            record { from = k.0; here = k.1; less = omega (arith, on-lt.1); small = B.most k.0 k.1 on-lt.0 }
        go (inr k) =
            absurd
            (omega (
              arith,
              k.1 s hs,
              load_scale w M x e,
              load_scale w N y e,
              part_is (w.on e s) (M * x s) B.crosses,
              part_is (w.on e s) (N * y s) B.crosses,
              ap (λ v. M * v) B.full,
              mul-le-mul_left N (fy.fits e B.is_a_link),
            ))
