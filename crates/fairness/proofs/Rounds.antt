-- The rounds of Figure 1 (water-filling): what holds from round to round, and that a round keeps it. Each round multiplies the denominator N by the
-- number of sessions that are open at the chosen link.
-- Assumes nothing.
use mathlib.Core.Bool.{Bool, false, not, true}
use mathlib.Core.Logic.{◌⊎◌, inl, inr}
use mathlib.Core.Path.{◌∙◌, ◌≡◌, ap, ap₂, refl, sym}
use Prim.Native.Nat.{ℕ, ◌*◌, ◌+◌, ◌≤◌, ◌<◌}
use native.Mathlib.Nat.{mul-le-mul_left, mul-le-mul_right, mul-pos}
use native.Mathlib.Omega.{arith}
use lib.Dec.{T}
use Rattle.fairness.specs.Figure1.{Net, left_at, load_at, open_all, open_at}
use Rattle.fairness.specs.Sum.{part, sum}
use Rattle.fairness.proofs.Nets.{NetBottleneck}
use Rattle.fairness.proofs.Sums.{sum_add, sum_at, sum_eq, sum_le, sum_scale}
use Rattle.fractions.proofs.Cases.{split}
use Rattle.fairness.proofs.Parts.{part_both, part_le}

-- what holds after each round (d: fixed): who is not fixed has nothing yet, no link carries more than its capacity, a rate that is fixed is at most every open
-- share, and who is fixed has a bottleneck where nobody is left to fix
pub record Filling (w : Net) (N : ℕ) (x : ℕ → ℕ) (d : ℕ → Bool) : Type 0 where
  pub pos : 0 < N
  pub none_yet : (s : ℕ) → s < w.sessions → T (not (d s)) → x s ≡ 0
  pub fits : (e : ℕ) → e < w.links → load_at w x e ≤ N * w.capacity e
  pub rising : (t : ℕ) → t < w.sessions → T (d t) → (e : ℕ) → e < w.links → x t * open_at w d e ≤ left_at w N x e * w.weight t
  pub held : (s : ℕ) → s < w.sessions → T (d s) → (e : ℕ) × NetBottleneck w N x s e × (open_at w d e ≡ 0)

-- one round, by what it does: b is a link with the smallest share, left_at b / (N * open_at b); ch are the open sessions at the links with that share
pub record Round (w : Net) (N : ℕ) (x : ℕ → ℕ) (d : ℕ → Bool) (b : ℕ) (ch : ℕ → Bool) (N' : ℕ) (x' : ℕ → ℕ) (d' : ℕ → Bool) : Type 0 where
  pub is_a_link : b < w.links
  pub some : 0 < open_at w d b
  pub least : (e : ℕ) → e < w.links → left_at w N x b * open_at w d e ≤ left_at w N x e * open_at w d b
  pub chosen : (s : ℕ) → s < w.sessions → T (ch s)
      → T (not (d s)) × ((e : ℕ) × (e < w.links) × T (w.on e s) × (left_at w N x e * open_at w d b ≡ left_at w N x b * open_at w d e))
  pub all : (s : ℕ) → s < w.sessions → T (not (d s)) → (e : ℕ) → e < w.links → T (w.on e s)
      → left_at w N x e * open_at w d b ≡ left_at w N x b * open_at w d e → T (ch s)
  pub den : N' ≡ N * open_at w d b
  pub hit : (s : ℕ) → s < w.sessions → T (ch s) → (x' s ≡ left_at w N x b * w.weight s) × (d' s ≡ true)
  pub miss : (s : ℕ) → s < w.sessions → T (not (ch s)) → (x' s ≡ open_at w d b * x s) × (d' s ≡ d s)

new_load : (on ch : Bool) (x x' l c v : ℕ) → (T ch → (x ≡ 0) × (x' ≡ l * v)) → (T (not ch) → x' ≡ c * x)
    → part on x' ≡ c * part on x + l * part on (part ch v)
new_load false ch x x' l c v h m = omega arith
new_load true true x x' l c v h m = rw ((h tt).0, (h tt).1) (omega arith)
new_load true false x x' l c v h m = omega (arith, m tt)

new_open : (on ch d d' : Bool) (v : ℕ) → (T ch → T (not d) × (d' ≡ true)) → (T (not ch) → d' ≡ d)
    → part on (part (not d') v) + part on (part ch v) ≡ part on (part (not d) v)
new_open false ch d d' v h m = refl
new_open true true true d' v h m = absurd (h tt).0
new_open true true false d' v h m = rw (h tt).1 (omega arith)
new_open true false d d' v h m = rw (m tt) (omega arith)

-- all that are open are chosen
all_new : (on ch d : Bool) (v : ℕ) → (T on → T (not d) → T ch) → (T ch → T (not d)) → part on (part ch v) ≡ part on (part (not d) v)
all_new false ch d v h m = refl
all_new true true true v h m = absurd (m tt)
all_new true true false v h m = refl
all_new true false true v h m = refl
all_new true false false v h m = absurd (h tt tt)

left_is : (w : Net) (N : ℕ) (x : ℕ → ℕ) (e : ℕ) → load_at w x e ≤ N * w.capacity e → left_at w N x e + load_at w x e ≡ N * w.capacity e
unfolding left_at
left_is w N x e h = omega arith

pub open_le : (w : Net) (d : ℕ → Bool) (e : ℕ) → open_at w d e ≤ open_all w d
unfolding open_at open_all
open_le w d e = sum_le _ _ _ (λ s h. part_le (w.on e s) (part (not (d s)) (w.weight s)))

module _ (w : Net) (N : ℕ) (x : ℕ → ℕ) (d : ℕ → Bool) (pos : (s : ℕ) → s < w.sessions → 0 < w.weight s) (i : Filling w N x d) (b : ℕ) (ch : ℕ → Bool) (N' : ℕ) (x' : ℕ → ℕ) (d' : ℕ → Bool) (r : Round w N x d b ch N' x' d') where
  k : ℕ → ℕ
  k e = sum w.sessions (λ s. part (w.on e s) (part (ch s) (w.weight s)))

  load_next : (e : ℕ) → load_at w x' e ≡ open_at w d b * load_at w x e + left_at w N x b * k e
  unfolding load_at k
  load_next e =
      sum_eq _ _ (λ s. open_at w d b * part (w.on e s) (x s) + left_at w N x b * part (w.on e s) (part (ch s) (w.weight s)))
      (λ s h. new_load (w.on e s) (ch s) (x s) (x' s) (left_at w N x b) (open_at w d b) (w.weight s)
      (λ t. (i.none_yet s h (r.chosen s h t).0, (r.hit s h t).0)) (λ t. (r.miss s h t).0))
      ∙ sum_add _ _ _
      ∙ ap₂ ◌+◌ (sum_scale _ _ _) (sum_scale _ _ _)

  open_next : (e : ℕ) → open_at w d' e + k e ≡ open_at w d e
  unfolding open_at k
  open_next e =
      sym (sum_add _ _ _)
      ∙ sum_eq _ _ _
      (λ s h. new_open (w.on e s) (ch s) (d s) (d' s) (w.weight s) (λ t. ((r.chosen s h t).0, (r.hit s h t).1)) (λ t. (r.miss s h t).1))

  fits : (e : ℕ) → e < w.links → load_at w x' e ≤ N' * w.capacity e
  fits e h =
      omega (
        arith,
        load_next e,
        mul-le-mul_left {m = k e} {n = open_at w d e} (left_at w N x b) (omega (arith, open_next e)),
        r.least e h,
        ap (λ v. v * open_at w d b) (left_is w N x e (i.fits e h)),
        ap (λ v. v * w.capacity e) r.den,
      )

  left_next : (e : ℕ) → e < w.links → left_at w N' x' e + left_at w N x b * k e ≡ open_at w d b * left_at w N x e
  left_next e h =
      omega (
        arith,
        load_next e,
        left_is w N' x' e (fits e h),
        ap (λ v. v * open_at w d b) (left_is w N x e (i.fits e h)),
        ap (λ v. v * w.capacity e) r.den,
      )

  -- what is left after the round, by the number of chosen sessions at the link
  pub left_after : (e : ℕ) → e < w.links
      → left_at w N' x' e + left_at w N x b * sum w.sessions (λ s. part (w.on e s) (part (ch s) (w.weight s))) ≡ open_at w d b * left_at w N x e
  unfolding k
  left_after e h = left_next e h

  -- no rate is above the share that the round gives
  pub at_most : (t : ℕ) → t < w.sessions → x' t ≤ left_at w N x b * w.weight t
  at_most t h = go (split (ch t)) (split (d t))
    where
      go : T (ch t) ⊎ T (not (ch t)) → T (d t) ⊎ T (not (d t)) → x' t ≤ left_at w N x b * w.weight t
      go (inl c) o = omega (arith, (r.hit t h c).0)
      go (inr c) (inl o) = omega (arith, (r.miss t h c).0, i.rising t h o b r.is_a_link)
      go (inr c) (inr o) = rw ((r.miss t h c).0, i.none_yet t h o) (omega arith)

  none_yet : (s : ℕ) → s < w.sessions → T (not (d' s)) → x' s ≡ 0
  none_yet s h o = go (split (ch s))
    where
      go : T (ch s) ⊎ T (not (ch s)) → x' s ≡ 0
      go (inl c) = absurd (rw (r.hit s h c).1 at o)
      go (inr c) = rw ((r.miss s h c).0, i.none_yet s h (rw (r.miss s h c).1 at o)) (omega arith)

  rising : (t : ℕ) → t < w.sessions → (e : ℕ) → e < w.links → x' t * open_at w d' e ≤ left_at w N' x' e * w.weight t
  rising t h e he =
      omega (
        arith,
        mul-le-mul_right (open_at w d' e) (at_most t h),
        ap (λ v. left_at w N x b * v * w.weight t) (open_next e),
        mul-le-mul_right (w.weight t) (r.least e he),
        ap (λ v. v * w.weight t) (left_next e he),
      )

  module _ (e : ℕ) (he : e < w.links) (same : left_at w N x e * open_at w d b ≡ left_at w N x b * open_at w d e) where
    k_all : k e ≡ open_at w d e
    unfolding k open_at
    k_all =
        sum_eq _ _ _
        (λ s h. all_new (w.on e s) (ch s) (d s) (w.weight s) (λ o f. r.all s h f e he o same) (λ c. (r.chosen s h c).0))

    full_new : load_at w x' e ≡ N' * w.capacity e
    full_new =
        omega (
          arith,
          load_next e,
          ap (λ v. left_at w N x b * v) k_all,
          same,
          ap (λ v. v * open_at w d b) (left_is w N x e (i.fits e he)),
          ap (λ v. v * w.capacity e) r.den,
        )

  held_new : (s : ℕ) → s < w.sessions → T (ch s) → (e : ℕ) × NetBottleneck w N' x' s e × (open_at w d' e ≡ 0)
  held_new s h c =
      let a = (r.chosen s h c).1 in (
        a.0,
        record {
          is_a_link = a.1;
          crosses = a.2;
          full = full_new a.0 a.1 a.3;
          most = λ t ht o. omega (arith, mul-le-mul_right (w.weight s) (at_most t ht), ap (λ v. v * w.weight t) (r.hit s h c).0);
        },
        omega (arith, open_next a.0, k_all a.0 a.1 a.3),
      )

  module _ (e : ℕ) (z : open_at w d e ≡ 0) where
    k_none : k e ≡ 0
    k_none = omega (arith, open_next e)

    full_old : load_at w x e ≡ N * w.capacity e → load_at w x' e ≡ N' * w.capacity e
    full_old f =
        omega (
          arith,
          load_next e,
          ap (λ v. left_at w N x b * v) k_none,
          ap (λ v. v * open_at w d b) f,
          ap (λ v. v * w.capacity e) r.den,
        )

    miss : (t : ℕ) → t < w.sessions → T (w.on e t) → T (not (ch t))
    unfolding k
    miss t ht o = go (split (ch t))
      where
        go : T (ch t) ⊎ T (not (ch t)) → T (not (ch t))
        go (inl c) = absurd (omega (arith, sum_at w.sessions (λ s. part (w.on e s) (part (ch s) (w.weight s))) t ht, part_both (w.on e t) (ch t) (w.weight t) o c, pos t ht, k_none))
        go (inr c) = c

  held_old : (s : ℕ) → s < w.sessions → T (not (ch s)) → T (d s) → (e : ℕ) × NetBottleneck w N' x' s e × (open_at w d' e ≡ 0)
  held_old s h c o =
      let a = i.held s h o in
      let e = a.0 in
      let B = a.1 in (
        e,
        record {
          is_a_link = B.is_a_link;
          crosses = B.crosses;
          full = full_old e a.2 B.full;
          most = λ t ht l. rw ((r.miss t ht (miss e a.2 t ht l)).0, (r.miss s h c).0) (omega (arith, mul-le-mul_left (open_at w d b) (B.most t ht l)));
        },
        omega (arith, open_next e, a.2),
      )

  pub step : Filling w N' x' d'
  step =
      record {
        pos = rw r.den (mul-pos i.pos r.some);
        none_yet = none_yet;
        fits = fits;
        rising = λ t h o. rising t h;
        held = λ s h o. held s h o (split (ch s));
      }
    where
      held : (s : ℕ) → s < w.sessions → T (d' s) → T (ch s) ⊎ T (not (ch s)) → (e : ℕ) × NetBottleneck w N' x' s e × (open_at w d' e ≡ 0)
      held s h o (inl c) = held_new s h c
      held s h o (inr c) = held_old s h c (rw (r.miss s h c).1 at o)

  k_le : k b ≤ sum w.sessions (λ s. part (ch s) (w.weight s))
  unfolding k
  k_le = sum_le _ _ _ (λ s h. part_le (w.on b s) (part (ch s) (w.weight s)))

  -- as many sessions as are open at b, or more, are fixed
  pub falls : open_all w d' + open_at w d b ≤ open_all w d
  unfolding open_all
  falls =
      omega (
        arith,
        sum_add w.sessions (λ s. part (not (d' s)) (w.weight s)) (λ s. part (ch s) (w.weight s)),
        sum_eq w.sessions (λ s. part (not (d' s)) (w.weight s) + part (ch s) (w.weight s)) (λ s. part (not (d s)) (w.weight s))
            (λ s h. new_open true (ch s) (d s) (d' s) (w.weight s) (λ t. ((r.chosen s h t).0, (r.hit s h t).1)) (λ t. (r.miss s h t).1)),
        k_all b r.is_a_link refl,
        k_le,
      )
