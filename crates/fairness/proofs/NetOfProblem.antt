-- A problem as its reader states it, and as a Net: what links carry, who is on them, what is feasible, fair and a bottleneck, from one to the other.
-- Assumes nothing.
use mathlib.Core.Bool.{Bool, ◌&&◌, false, not, true}
use mathlib.Core.Logic.{◌⊎◌, inl, inr}
use mathlib.Core.Path.{◌∙◌, ◌≡◌, ap, refl, subst, sym}
use Prim.Native.Nat.{ℕ, ◌*◌, ◌+◌, ◌-◌, ◌≤◌, ◌<◌}
use native.Mathlib.Nat.{add-sub_cancel_left}
use native.Mathlib.Omega.{arith}
use lib.Dec.{T, eqb, eqb_refl, eqb→eq}
use borrow.Author.Tests.{le-ltb, lt-ltb}
use Rattle.fairness.specs.Figure1.{load_at, net, open_at}
use Rattle.fairness.specs.MaxMin.{Active, Bottleneck, Feasible, Lowered, MaxMinFair, Problem, Restricted, used}
use Rattle.fairness.specs.Sum.{part}
use Rattle.fairness.proofs.Nets.{NetBottleneck, NetFair, NetFeasible, Takes}
use Rattle.fairness.proofs.Sums.{sum_eq, sum_one}
use Rattle.fractions.proofs.Cases.{and_join, and_split, order, split}
use Rattle.fairness.proofs.Parts.{part_is}

pub load_link : (p : Problem) (x : ℕ → ℕ) (e : ℕ) → e < p.links → load_at (net p) x e ≡ used p x e
unfolding load_at net used
load_link p x e h = rw (lt-ltb e p.links h) refl

pub load_own : (p : Problem) (x : ℕ → ℕ) (s : ℕ) → s < p.sessions → load_at (net p) x (p.links + s) ≡ x s
unfolding load_at net
load_own p x s h =
    rw (le-ltb (p.links + s) p.links (omega arith))
    (sum_one p.sessions (λ t. eqb (p.links + s) (p.links + t)) x s (eqb_refl (p.links + s))
    (λ t l q. omega (arith, eqb→eq (p.links + s) (p.links + t) q)) h)

pub cap_link : (p : Problem) (e : ℕ) → e < p.links → (net p).capacity e ≡ p.capacity e
unfolding net
cap_link p e h = rw (lt-ltb e p.links h) refl

pub cap_own : (p : Problem) (s : ℕ) → (net p).capacity (p.links + s) ≡ part (p.active s) (p.D s)
unfolding net
cap_own p s = rw (le-ltb (p.links + s) p.links (omega arith), add-sub_cancel_left p.links s) refl

-- a link of the Net is a link, or is an own limit
module _ (p : Problem) (P : ℕ → Type 0) (at_link : (e : ℕ) → e < p.links → P e) (at_own : (s : ℕ) → s < p.sessions → P (p.links + s)) where
  each_link : (e : ℕ) → e < p.links + p.sessions → P e
  each_link e h = go (order p.links e)
    where
      go : (p.links ≤ e) ⊎ (e < p.links) → P e
      go (inr l) = at_link e l
      go (inl l) =
          let q : e ≡ p.links + (e - p.links) = omega arith in
          rw q (at_own (e - p.links) (omega arith))

both_part : (a c : Bool) (v : ℕ) → part (a && c) (part a v) ≡ part (a && c) v
both_part true c v = refl
both_part false c v = refl

own_part : (a : Bool) (y M l : ℕ) → (T a → y ≤ M * l) → part a y ≤ M * part a l
own_part true y M l h = h tt
own_part false y M l h = omega arith

used_zeroed : (p : Problem) (y : ℕ → ℕ) (e : ℕ) → used p (λ s. part (p.active s) (y s)) e ≡ used p y e
unfolding used
used_zeroed p y e = sum_eq _ _ _ (λ s h. both_part (p.active s) (p.crosses e s) (y s))

-- a feasible allocation, with 0 for who is not active, is feasible in the Net
pub feasible_net : (p : Problem) (M : ℕ) (y : ℕ → ℕ) → Feasible p M y → NetFeasible (net p) M (λ s. part (p.active s) (y s))
unfolding net
feasible_net p M y a =
    record {
      pos = a.pos;
      fits =
          each_link p (λ e. load_at (net p) (λ s. part (p.active s) (y s)) e ≤ M * (net p).capacity e)
          (λ e h. rw (load_link p _ e h, cap_link p e h) (omega (arith, a.fits e h, used_zeroed p y e)))
          (λ s h. rw (load_own p _ s h, cap_own p s) (own_part (p.active s) (y s) M (p.D s) (λ t. a.own s (h, t))));
    }

-- who loses in the Net is active, since who is not has nothing
lost : (p : Problem) (N : ℕ) (x : ℕ → ℕ) (M : ℕ) (y : ℕ → ℕ) (s : ℕ) → T (p.active s)
    → Takes (λ t. t < p.sessions) (λ t. 1) N (λ t. part (p.active t) (x t)) M (λ t. part (p.active t) (y t)) s
    → Lowered p N x M y s
lost p N x M y s h k = go k.from k.here k.less k.small (split (p.active k.from))
  where
    go : (t : ℕ) → t < p.sessions → part (p.active t) (y t) * N < part (p.active t) (x t) * M → part (p.active t) (x t) * 1 ≤ part (p.active s) (x s) * 1
        → T (p.active t) ⊎ T (not (p.active t)) → Lowered p N x M y s
    go t b l m (inl u) =
        record {
          session = t;
          active = (b, u);
          less = omega (arith, rw (part_is (p.active t) (y t) u, part_is (p.active t) (x t) u) at l);
          no_higher = omega (arith, part_is (p.active t) (x t) u, part_is (p.active s) (x s) h);
        }
    go t b l m (inr u) = absurd (nothing (p.active t) (x t) u l)
      where
        nothing : (a : Bool) (v : ℕ) {k : ℕ} → T (not a) → k < part a v * M → ⊥
        nothing true v u l = u
        nothing false v u l = omega arith

pub fair_of_net : (p : Problem) (N : ℕ) (x : ℕ → ℕ) → Feasible p N x → NetFair (net p) N (λ s. part (p.active s) (x s)) → MaxMinFair p N x
unfolding net
fair_of_net p N x a f =
    record {
      feasible = a;
      fair = λ M y b s h l.
          lost p N x M y s h.1
          (f.fair M (λ t. part (p.active t) (y t)) (feasible_net p M y b) s h.0
          (rw (part_is (p.active s) (x s) h.1, part_is (p.active s) (y s) h.1) l));
    }

pub on_link : (p : Problem) (e s : ℕ) → e < p.links → (net p).on e s ≡ (p.active s && p.crosses e s)
unfolding net
on_link p e s h = rw (lt-ltb e p.links h) refl

pub on_own : (p : Problem) (j s : ℕ) → (net p).on (p.links + j) s ≡ eqb (p.links + j) (p.links + s)
unfolding net
on_own p j s = rw (le-ltb (p.links + j) p.links (omega arith)) refl

pub own_bottleneck : (p : Problem) (N : ℕ) (X : ℕ → ℕ) (s : ℕ) → s < p.sessions → X s ≡ N * part (p.active s) (p.D s)
    → NetBottleneck (net p) N X s (p.links + s)
unfolding net
own_bottleneck p N X s h q =
    record {
      is_a_link = omega arith;
      crosses = subst T (sym (on_own p s s)) (eqb_refl (p.links + s));
      full = load_own p X s h ∙ q ∙ ap (λ v. N * v) (sym (cap_own p s));
      most = λ t ht o.
          let e : s ≡ t = omega (arith, eqb→eq (p.links + s) (p.links + t) (subst T (on_own p s t) o)) in
          omega (arith, ap X e);
    }

pub link_bottleneck : (p : Problem) (N : ℕ) (x : ℕ → ℕ) (s e : ℕ) → Active p s → Bottleneck p N x s e
    → NetBottleneck (net p) N (λ t. part (p.active t) (x t)) s e
unfolding net
link_bottleneck p N x s e h b =
    record {
      is_a_link = omega (arith, b.is_a_link);
      crosses = subst T (sym (on_link p e s b.is_a_link)) (and_join (p.active s) (p.crosses e s) h.1 b.crosses);
      full = load_link p _ e b.is_a_link ∙ used_zeroed p x e ∙ b.full ∙ ap (λ v. N * v) (sym (cap_link p e b.is_a_link));
      most = λ t ht o.
          let u = and_split (p.active t) (p.crosses e t) (subst T (on_link p e t b.is_a_link) o) in
          omega (arith, b.most t (ht, u.0) u.1, part_is (p.active t) (x t) u.0, part_is (p.active s) (x s) h.1);
    }

-- a bottleneck of the Net is the own limit, or a link
pub restricted_of_net : (p : Problem) (N : ℕ) (x : ℕ → ℕ) (s e : ℕ) → Active p s → NetBottleneck (net p) N x s e → Restricted p N x s
unfolding net
restricted_of_net p N x s e h b = each_link p (λ e. NetBottleneck (net p) N x s e → Restricted p N x s) link own e b.is_a_link b
  where
    link : (e : ℕ) → e < p.links → NetBottleneck (net p) N x s e → Restricted p N x s
    link e l b =
        inr (
          e,
          record {
            is_a_link = l;
            crosses = (and_split (p.active s) (p.crosses e s) (subst T (on_link p e s l) b.crosses)).1;
            full = sym (load_link p x e l) ∙ b.full ∙ ap (λ v. N * v) (cap_link p e l);
            most = λ t ht o.
                omega (arith, b.most t ht.0 (subst T (sym (on_link p e t l)) (and_join (p.active t) (p.crosses e t) ht.1 o)));
          },
        )

    own : (j : ℕ) → j < p.sessions → NetBottleneck (net p) N x s (p.links + j) → Restricted p N x s
    own j l b =
        let e : j ≡ s = omega (arith, eqb→eq (p.links + j) (p.links + s) (subst T (on_own p j s) b.crosses)) in
        inl
        (ap x (sym e) ∙ sym (load_own p x j l) ∙ b.full ∙ ap (λ v. N * v) (cap_own p j)
        ∙ ap (λ v. N * part (p.active v) (p.D v)) e ∙ ap (λ v. N * v) (part_is (p.active s) (p.D s) h.1))

pub open_own : (p : Problem) (d : ℕ → Bool) (s : ℕ) → s < p.sessions → open_at (net p) d (p.links + s) ≡ part (not (d s)) 1
unfolding open_at load_at net
open_own p d s h = load_own p (λ t. part (not (d t)) 1) s h
