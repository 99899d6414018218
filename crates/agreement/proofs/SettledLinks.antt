-- Condition (c) of one link (01, "Settled"), over rates x s / N of the sessions that it holds: what R's members and F's members have, as whole
-- numbers. B is (C - sum of F) / |R|, so a rate x s / N is B where x s * |R| and N times the sum of F come to N * C.
-- Assumes nothing.
use Rattle.std.specs.Prelude.{Result, Ok, Err}
use mathlib.Core.Bool.{Bool, true, ◌||◌}
use mathlib.Core.Path.{◌≡◌, ap, refl, subst, sym, ◌∙◌}
use Prim.Native.Nat.{ℕ, ◌+◌, ◌-◌, ◌*◌, ◌≤◌, ◌<◌}
use native.Mathlib.Nat.{eq_of_mul-eq-mul_right, lt_of_mul-lt-mul_right, mul-pos}
use native.Mathlib.Omega.{arith}
use borrow.Author.Tests.{eqb-true}
use Rattle.fractions.specs.declared.Rate.{Rate}
use Rattle.fractions.specs.declared.TooFine.{TooFine}
use Rattle.fractions.specs.Fraction.{Lt, Same, Sized, each_of, fine_of, frac, share_of, too_fine}
use Rattle.fractions.proofs.Cases.{cases, eqb-T, or_hit, so_passes}
use Rattle.fractions.proofs.LowestTerms.{lowest_pos, lowest_same}
use Rattle.fractions.proofs.Order.{le_lt_trans, le_of_same, lt_le_trans, lt_true, same_sym, same_trans}
use Rattle.handed.specs.Passes.{SumIsRate}
use Rattle.links.specs.declared.Bound.{Bound}
use Rattle.links.specs.declared.Bound.TheVariants as bound
use Rattle.links.specs.declared.Place.{Place}
use Rattle.links.specs.Links.{B, F, R, TotalSized, Workable, as_bound, below_b, bound_of, equals_b, holds, in_f, in_r, is_fine, rate_at, sum_of}
use Rattle.links.proofs.Bounds.{bound_some}
use Rattle.links.proofs.Sizes.{sum_sized}
use Rattle.records.proofs.Somes.{clash}
use Rattle.sessions.specs.Set.{has, size_of}
use Rattle.soundness.specs.Sound.{weight}
use Rattle.sessions.proofs.Members.{is_in}
use Rattle.soundness.proofs.Weights.{Comes, member_size, members_weigh, members_within}
use Rattle.agreement.specs.Needed.{Shared}

-- IN WHOLE NUMBERS ----------------------------------------------------------------------------------------------------

-- F sums to S / N, which is yn / yd, and M / yd is left of C. Where X / N is M / (yd * k), k times X and S come to N * C; where it is less, to less
module _ (N S X C k yn yd M : ℕ) (pos : 0 < yd) (sum : yn * N ≡ S * yd) (left : M + yn ≡ C * yd) where
  share_equal : X * (yd * k) ≡ M * N → X * k + S ≡ N * C
  share_equal e = eq_of_mul-eq-mul_right yd pos (X * k + S) (N * C) (omega (arith, e, sum, ap (λ (v : ℕ). v * N) left))

  share_below : X * (yd * k) < M * N → X * k + S < N * C
  share_below l = lt_of_mul-lt-mul_right yd (omega (arith, l, sum, ap (λ (v : ℕ). v * N) left))

-- B -------------------------------------------------------------------------------------------------------------------

-- a share that is not too fine
fine_share : (c : ℕ) (y : Rate) (k : ℕ) → is_fine (as_bound (share_of c y k)) ≡ true → as_bound (share_of c y k) ≡ bound.At (each_of c y k)
unfolding share_of
fine_share c y k =
    cases (λ (z : Result Rate TooFine). is_fine (as_bound z) ≡ true → as_bound z ≡ bound.At (each_of c y k)) (fine_of (each_of c y k)) (Ok (each_of c y k)) (Err too_fine)
    (λ e f. refl)
    (λ e f. absurd (clash (is_fine bound.TooFine) f refl))

-- B of a link whose R has members
share_of_b : (p : Place) (y : Rate) → sum_of p ≡ Ok y → is_fine (B p) ≡ true → 0 < size_of (R p)
    → B p ≡ bound.At (each_of p.link.capacity y (size_of (R p)))
unfolding B
share_of_b p y e f h =
    let c = p.link.capacity in
    let k = size_of (R p) in
    let q : B p ≡ as_bound (share_of c y k) = ap (bound_of c k) e ∙ bound_some c k y h in
    q ∙ fine_share c y k (ap is_fine (sym q) ∙ f)

-- ONE LINK ------------------------------------------------------------------------------------------------------------

-- (c) over the rates x s / N: the weight of F is N times the sum of F
pub record RatedOver (N : ℕ) (x : ℕ → ℕ) (p : Place) : Type 0 where
  pub restricted : (s : ℕ) → s < 32 → in_r p s ≡ true → x s * size_of (R p) + weight (F p) x ≡ N * p.link.capacity
  pub free : (s : ℕ) → s < 32 → in_f p s ≡ true → 0 < size_of (R p) → x s * size_of (R p) + weight (F p) x < N * p.link.capacity
  pub fits : weight (F p) x ≤ N * p.link.capacity

module _ (N : ℕ) (x : ℕ → ℕ) (p : Place) (pos : 0 < N) (work : Workable p) (fine : is_fine (B p) ≡ true) (is : SumIsRate p)
    (shown : (s : ℕ) → s < 32 → holds p s ≡ true → Comes N (rate_at p s) (x s)) (rated : Shared p) where
  abbrev C : ℕ
  C = p.link.capacity

  abbrev k : ℕ
  k = size_of (R p)

  abbrev y : Rate
  y = is.sum

  -- what is left of C, over the denominator of the sum of F
  abbrev M : ℕ
  M = C * y.den - y.num

  free_shown : (s : ℕ) → s < 32 → has s (F p) ≡ 1 → Comes N (rate_at p s) (x s)
  free_shown s l h = shown s l (or_hit (in_r p s) (in_f p s) (eqb-T (has s (F p)) 1 h))

  sum_comes : Comes N y (weight (F p) x)
  sum_comes = members_weigh N x p pos free_shown y is.sums

  sum_most : y.num ≤ C * y.den
  sum_most = let z : Sized C y = subst (TotalSized C) is.sums (sum_sized p work) in z.num

  left : M + y.num ≡ C * y.den
  left = omega (arith, sum_most)

  b_is : 0 < k → B p ≡ bound.At (each_of C y k)
  b_is = share_of_b p y is.sums fine

  b_same : Same (each_of C y k) (frac M (y.den * k))
  unfolding each_of
  b_same = lowest_same M (y.den * k)

  b_pos : 0 < k → 0 < (each_of C y k).den
  unfolding each_of
  b_pos h = lowest_pos M (y.den * k) (mul-pos sum_comes.pos h)

  -- a member of R has the rate B
  at_b : (s : ℕ) → s < 32 → in_r p s ≡ true → Same (frac (x s) N) (frac M (y.den * k))
  at_b s l r =
      let h = member_size (R p) s l (is_in (R p) s r) in
      let i = shown s l (ap (λ (b : Bool). b || in_f p s) r) in
      let e : equals_b (bound.At (each_of C y k)) (rate_at p s) ≡ true = subst (λ (b : Bound). equals_b b (rate_at p s) ≡ true) (b_is h) (rated.restricted s (omega arith) r) in
      same_trans i.pos (same_sym i.same) (same_trans (b_pos h) (record { cross = eqb-true _ _ e }) b_same)

  -- a member of F has less
  under_b : (s : ℕ) → s < 32 → in_f p s ≡ true → 0 < k → Lt (frac (x s) N) (frac M (y.den * k))
  under_b s l r h =
      let i = shown s l (or_hit (in_r p s) (in_f p s) (so_passes (in_f p s) r)) in
      let e : below_b (bound.At (each_of C y k)) (rate_at p s) ≡ true = subst (λ (b : Bound). below_b b (rate_at p s) ≡ true) (b_is h) (rated.free s (omega arith) r) in
      le_lt_trans pos (le_of_same (same_sym i.same)) (lt_le_trans (mul-pos sum_comes.pos h) (lt_true e) (le_of_same b_same))

  -- a link of which (c) holds
  pub rated_over : RatedOver N x p
  rated_over =
      let S = weight (F p) x in
      let c = sum_comes in
      record {
        restricted = λ s l r. share_equal N S (x s) C k y.num y.den M c.pos c.same.cross left (at_b s l r).cross;
        free = λ s l r h. share_below N S (x s) C k y.num y.den M c.pos c.same.cross left (under_b s l r h).cross;
        fits = members_within N x p pos free_shown y work is.sums;
      }
