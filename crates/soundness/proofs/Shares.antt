-- B of a sound link: F never sums past C; B is a rate in range, the share of R's members in what F leaves; it goes by the words and the rates of F
-- alone; and a session whose rate is below B may go to F.
-- Assumes nothing.
use Rattle.std.specs.Prelude.{Result, Ok, Err}
use mathlib.Core.Bool.{true}
use mathlib.Core.List.{List}
use mathlib.Core.Path.{◌≡◌, ap, refl, subst, sym, ◌∙◌}
use Prim.Native.Nat.{ℕ, zero, suc, ◌+◌, ◌-◌, ◌*◌, ◌≤◌, ◌<◌}
use lib.ListN.{get_or}
use native.Mathlib.Decide.{ℕ_discrete}
use native.Mathlib.Nat.{le_of_mul-le-mul_right, lt_of_mul-lt-mul_right, mul-le-mul_left, mul-lt-mul_of_pos_right, mul-pos}
use native.Mathlib.Omega.{arith}
use Rattle.fairness.proofs.CommonDenominator.{together}
use Rattle.fractions.specs.declared.Rate.{Rate}
use Rattle.fractions.specs.declared.TooFine.{TooFine}
use Rattle.fractions.specs.Fraction.{Lt, Within, each_of, max_rate, share_of, zero_of}
use Rattle.fractions.proofs.LowestTerms.{lowest_same}
use Rattle.fractions.proofs.Order.{lt_true}
use Rattle.fractions.proofs.Ranges.{within_more}
use Rattle.fractions.proofs.Shares.{share_within}
use Rattle.links.specs.declared.Bound.{Bound}
use Rattle.links.specs.declared.Bound.TheVariants as bound
use Rattle.links.specs.declared.Entry.{Entry}
use Rattle.links.specs.declared.Place.{Place}
use Rattle.links.specs.declared.NoTotal.{NoTotal}
use Rattle.links.specs.declared.NoTotal.TheVariants as no_total
use Rattle.links.specs.Links.{B, F, R, TotalSized, as_bound, below_b, bound_of, more_of, no_entry, rate_at, sum_of, waiting_of, with_words}
use Rattle.links.proofs.Sizes.{sum_sized, workable_words}
use Rattle.sessions.specs.Set.{cut, has, put, size_of}
use Rattle.sessions.proofs.Members.{cut_le, has_cut_other, has_cut_same, has_put_other, has_put_same, put_lt}
use Rattle.sessions.proofs.Walks.{walk_cong}
use Rattle.soundness.specs.Sound.{Over, Sound, weight}
use Rattle.soundness.proofs.Changes.{waiting_alike, with_entries}
use Rattle.soundness.proofs.Weights.{Comes, member_size, members_weigh, past_weigh, weight_put}

-- THE SUM OF F --------------------------------------------------------------------------------------------------------

-- the rates of a link's entries over one denominator
pub over_one : (p : Place) → Sound p → (N : ℕ) × (x : ℕ → ℕ) × Over N x p.entries
over_one p o =
    let g = together 32 (rate_at p) (λ s l. (o.workable.rates.sized s l).pos) in
    (g.over, g.rates, record { pos = g.pos; shown = g.shown })

comes : (N : ℕ) (x : ℕ → ℕ) (p : Place) → Sound p → Over N x p.entries → (s : ℕ) → s < 32 → has s (F p) ≡ 1 → Comes N (rate_at p s) (x s)
comes N x p o c s l h = record { pos = (o.workable.rates.sized s l).pos; same = c.shown s l }

pub sum_weighs : (N : ℕ) (x : ℕ → ℕ) (p : Place) (y : Rate) → Sound p → Over N x p.entries → sum_of p ≡ Ok y → Comes N y (weight (F p) x)
sum_weighs N x p y o c e = members_weigh N x p c.pos (comes N x p o c) y e

-- F never sums past C
pub sound_not_past : (p : Place) → Sound p → sum_of p ≡ Err no_total.PastC → ⊥
sound_not_past p o e =
    let g = over_one p o in
    omega (arith, past_weigh g.0 g.1 p g.2.pos (comes g.0 g.1 p o g.2) e, o.fits g.0 g.1 g.2)

-- B GOES BY THE WORDS AND THE RATES OF F ------------------------------------------------------------------------------

pub b_alike : (p : Place) (es : List Entry) → ((s : ℕ) → s < 32 → has s (F p) ≡ 1 → (get_or es s no_entry).rate ≡ rate_at p s)
    → B (with_entries p es) ≡ B p
unfolding B sum_of
b_alike p es h =
    let C = p.link.capacity in
    ap (bound_of C (size_of (R p)))
    (walk_cong (λ a s. more_of C a (get_or es s no_entry).rate) (λ a s. more_of C a (rate_at p s)) 32 (F p)
    (λ s l m a. ap (more_of C a) (h s l m)) (Ok zero_of))

pub b_waiting : (p : Place) (w : ℕ) → B (waiting_of p w) ≡ B p
unfolding waiting_of
b_waiting p w = b_alike p (waiting_of p w).entries (λ s l m. (waiting_alike p w).same s)

-- B IS A SHARE --------------------------------------------------------------------------------------------------------

pub record IsShare (p : Place) (b : Rate) : Type 0 where
  pub taken : Rate
  pub is_sum : sum_of p ≡ Ok taken
  pub some : 0 < size_of (R p)
  pub is : share_of p.link.capacity taken (size_of (R p)) ≡ Ok b

pub share_of_lem : (p : Place) (b : Rate) → Sound p → B p ≡ bound.At b → IsShare p b
unfolding B bound_of
share_of_lem p b o e = go (sum_of p) (size_of (R p)) refl refl e
  where
    at : (y : Rate) (k : ℕ) → sum_of p ≡ Ok y → size_of (R p) ≡ suc k → (z : Result Rate TooFine) → share_of p.link.capacity y (suc k) ≡ z → as_bound z ≡ bound.At b
        → IsShare p b
    at y k e f (Ok z) g h =
        let q : z ≡ b = cc in
        record {
          taken = y;
          is_sum = e;
          some = omega (arith, f);
          is = ap (share_of p.link.capacity y) f ∙ g ∙ ap Ok q;
        }
    at y k e f (Err _) g h = absurd (let w : ◌≡◌ {A = ℕ} 0 1 = cc in omega arith)

    go : (t : Result Rate NoTotal) (k : ℕ) → sum_of p ≡ t → size_of (R p) ≡ k → bound_of p.link.capacity k t ≡ bound.At b → IsShare p b
    go (Err no_total.TooFine) k e f g = absurd (let w : ◌≡◌ {A = ℕ} 0 1 = cc in omega arith)
    go (Err no_total.PastC) k e f g = absurd (sound_not_past p o e)
    go (Ok y) zero e f g = absurd (let w : ◌≡◌ {A = ℕ} 0 1 = cc in omega arith)
    go (Ok y) (suc k) e f g = at y k e f (share_of p.link.capacity y (suc k)) refl g

-- B is above every rate only where R is empty
pub above_empty : (p : Place) → Sound p → B p ≡ bound.Above → size_of (R p) ≡ 0
unfolding B bound_of
above_empty p o e = go (sum_of p) (size_of (R p)) refl refl e
  where
    at : (z : Result Rate TooFine) → as_bound z ≡ bound.Above → ⊥
    at (Ok b) h = let w : ◌≡◌ {A = ℕ} 0 1 = cc in omega arith
    at (Err _) h = let w : ◌≡◌ {A = ℕ} 0 1 = cc in omega arith

    go : (t : Result Rate NoTotal) (k : ℕ) → sum_of p ≡ t → size_of (R p) ≡ k → bound_of p.link.capacity k t ≡ bound.Above → size_of (R p) ≡ 0
    go (Err no_total.TooFine) k e f g = absurd (let w : ◌≡◌ {A = ℕ} 0 1 = cc in omega arith)
    go (Err no_total.PastC) k e f g = absurd (sound_not_past p o e)
    go (Ok y) zero e f g = f
    go (Ok y) (suc k) e f g = absurd (at (share_of p.link.capacity y (suc k)) g)

sum_ok : (p : Place) (y : Rate) → Sound p → sum_of p ≡ Ok y → (0 < y.den) × (y.num ≤ p.link.capacity * y.den)
sum_ok p y o e =
    let z = subst (TotalSized p.link.capacity) e (sum_sized p o.workable) in
    (z.pos, z.num)

pub b_within : (p : Place) (b : Rate) → Sound p → B p ≡ bound.At b → Within max_rate b
b_within p b o e =
    let h = share_of_lem p b o e in
    within_more o.workable.capacity (share_within p.link.capacity h.taken (size_of (R p)) (sum_ok p h.taken o h.is_sum).0 h.some h.is).1

-- BELOW B -------------------------------------------------------------------------------------------------------------

-- λ < B = (C - ΣF) / |R| gives λ + ΣF ≤ C
free_fits : (N S X C yn yd bn bd ln ld k M : ℕ) → 0 < N → 0 < yd → 0 < k
    → yn * N ≡ S * yd → ln * N ≡ X * ld → bn * (yd * k) ≡ M * bd → ln * bd < bn * ld → M + yn ≡ C * yd → 0 < ld → S + X ≤ N * C
free_fits N S X C yn yd bn bd ln ld k M hN hy hk s x b lt m hl =
    let a : ln * yd * k < M * ld = lt_of_mul-lt-mul_right bd (omega (arith, mul-lt-mul_of_pos_right lt (mul-pos hy hk), ap (λ (v : ℕ). v * ld) b)) in
    let c : X * yd * k < M * N = lt_of_mul-lt-mul_right ld (omega (arith, mul-lt-mul_of_pos_right a hN, ap (λ (v : ℕ). v * (yd * k)) x)) in
    le_of_mul-le-mul_right {k = yd} (omega (arith, c, ap (λ (v : ℕ). v * N) m, s, mul-le-mul_left {m = 1} {n = k} (X * yd) hk)) hy

share_cross : (C : ℕ) (y b : Rate) (k : ℕ) → each_of C y k ≡ b → b.num * (y.den * k) ≡ (C * y.den - y.num) * b.den
unfolding each_of
share_cross C y b k e =
    subst (λ (z : Rate). z.num * (y.den * k) ≡ (C * y.den - y.num) * z.den) e (lowest_same (C * y.den - y.num) (y.den * k)).cross

pub sound_free : (p : Place) (s : ℕ) → Sound p → s < 32 → has s (R p) ≡ 1 → below_b (B p) (rate_at p s) ≡ true
    → Sound (with_words p (cut s (R p)) (put s (F p)))
sound_free p s o l h e = record {
  workable = workable_words p (cut s (R p)) (put s (F p)) o.workable;
  r32 = omega (arith, cut_le s (R p), o.r32);
  f32 = put_lt 32 s (F p) l o.f32;
  apart = λ r. apart r (ℕ_discrete s r);
  rates = λ r k i. o.rates r k (record { some = held r (ℕ_discrete s r) i.some });
  fits = λ N x c. fit (B p) refl e N x c;
}
  where
    none : has s (F p) ≡ 0
    none = omega (arith, o.apart s)

    apart : (r : ℕ) → Dec (s ≡ r) → has r (cut s (R p)) + has r (put s (F p)) ≤ 1
    apart r (yes q) = rw (sym q) (omega (arith, has_cut_same s (R p), has_put_same s (F p)))
    apart r (no n) = omega (arith, has_cut_other s r (R p) n, has_put_other s r (F p) n, o.apart r)

    held : (r : ℕ) → Dec (s ≡ r) → 0 < has r (cut s (R p)) + has r (put s (F p)) → 0 < has r (R p) + has r (F p)
    held r (yes q) i = rw (sym q) (omega (arith, h))
    held r (no n) i = omega (arith, has_cut_other s r (R p) n, has_put_other s r (F p) n)

    fit : (b : Bound) → B p ≡ b → below_b b (rate_at p s) ≡ true → (N : ℕ) (x : ℕ → ℕ) → Over N x p.entries
        → weight (put s (F p)) x ≤ N * p.link.capacity
    fit (bound.At b) q u N x c =
        let v = rate_at p s in
        let C = p.link.capacity in
        let k = size_of (R p) in
        let i = share_of_lem p b o q in
        let y = i.taken in
        let z = sum_ok p y o i.is_sum in
        let t = share_within C y k z.0 i.some i.is in
        let lt : Lt v b = lt_true u in
        let ff = free_fits N (weight (F p) x) (x s) C y.num y.den b.num b.den v.num v.den k (C * y.den - y.num)
        c.pos z.0 i.some (sum_weighs N x p y o c i.is_sum).same.cross (c.shown s l).cross (share_cross C y b k t.0) lt.cross
        (omega (arith, z.1)) (o.workable.rates.sized s l).pos in
        omega (arith, ff, weight_put (F p) s x l none)
    fit bound.Above q u N x c = absurd (omega (arith, member_size (R p) s l h, above_empty p o q))
    fit bound.TooFine q u N x c = absurd (let w : ◌≡◌ {A = ℕ} 0 1 = cc in omega arith)
