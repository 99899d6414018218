-- The tests of one session and of one link, as statements: from the test, and back to it.
-- Assumes nothing.
use Rattle.std.specs.Prelude.{Result, Ok, Err, None, Option, Some}
use mathlib.Core.Bool.{Bool, false, not, true, ◌&&◌, ◌||◌}
use mathlib.Core.List.{List}
use mathlib.Core.Logic.{inl, inr, ◌⊎◌}
use mathlib.Core.Path.{ap, ap₂, refl, subst, sym, ◌∙◌, ◌≡◌}
use Prim.Native.Nat.{ℕ, ◌*◌, ◌<◌, ◌^◌}
use native.Mathlib.Omega.{arith}
use borrow.Author.Tests.{eq-eqb, eqb-true}
use lib.Dec.{eqb}
use Rattle.fractions.specs.declared.Rate.{Rate}
use Rattle.fractions.specs.Fraction.{Same, le_of, same_of, Sized}
use Rattle.fractions.proofs.Cases.{and_both, not-false, not_true, or_either}
use Rattle.fractions.proofs.Order.{le_true, true_le}
use Rattle.links.specs.declared.Place.{Place}
use Rattle.links.specs.declared.NoTotal.{NoTotal}
use Rattle.links.specs.Links.{B, R, TotalSized, Workable, below_b, equals_b, holds, in_f, in_r, is_idle, mu_at, rate_at, sum_of}
use Rattle.links.proofs.Sizes.{sum_sized}
use Rattle.records.specs.Format.{all}
use Rattle.records.proofs.Alls.{all_at, all_below, all_fails}
use Rattle.records.proofs.Somes.{all_some, clash, implied, implies}
use Rattle.sessions.specs.Set.{has_of}
use Rattle.sessions.proofs.Members.{has_zero, nobody}
use Rattle.table.specs.Words.{hops_of, place_of, source_of, stop_of}
use Rattle.conditions.specs.Conditions.{AgreesAt, Limited, Rated, Restricted, Rests, SumAtMostC, ToldItsRate}
use Rattle.conditions.specs.Settled.{agrees_at, is_at_most_c, is_limited, is_told, limit_of, link_rated, member_rated, members_rated, path_agrees, rated_in_f, rated_in_r, restricted_at, restricted_somewhere, session_limited, session_rests, session_told, stop_agrees, sum_rated}

same_means : (a b : Rate) → same_of a b ≡ true → Same a b
same_means a b e = record { cross = eqb-true (a.num * b.den) (b.num * a.den) e }

same_test : (a b : Rate) → Same a b → same_of a b ≡ true
same_test a b h = eq-eqb (a.num * b.den) (b.num * a.den) h.cross

-- (b) OF ONE SESSION --------------------------------------------------------------------------------------------------

agrees_means : (x : Rate) (p : Place) (s : ℕ) → agrees_at x p s ≡ true → AgreesAt x p s
unfolding agrees_at
agrees_means x p s h =
    let a = and_both (holds p s) (is_idle (mu_at p s) && same_of (rate_at p s) x) h in
    let b = and_both (is_idle (mu_at p s)) (same_of (rate_at p s) x) a.1 in
    record { held = a.0; idle = b.0; rate = same_means (rate_at p s) x b.1 }

agrees_test : (x : Rate) (p : Place) (s : ℕ) → AgreesAt x p s → agrees_at x p s ≡ true
unfolding agrees_at
agrees_test x p s o = ap₂ ◌&&◌ o.held (ap₂ ◌&&◌ o.idle (same_test (rate_at p s) x o.rate))

pub rests_means : (w : List ℕ) (s : ℕ) → session_rests w s ≡ true → (source_of w s).active ≡ true → Rests w s
unfolding session_rests path_agrees stop_agrees
rests_means w s h t =
    let z = source_of w s in
    let a = and_both (is_idle z.mu) (not z.updated && path_agrees w s) (implied z.active (is_idle z.mu && (not z.updated && path_agrees w s)) h t) in
    let b = and_both (not z.updated) (path_agrees w s) a.1 in
    record {
      idle = a.0;
      quiet = not_true z.updated b.0;
      links =
          λ e o.
          agrees_means z.rate (place_of w e) s
          (ap (λ (d : ℕ). agrees_at z.rate (place_of w d) s) (sym o.stop) ∙ all_at (hops_of w s) (stop_agrees w s) o.place b.1 o.within);
    }

pub rests_test : (w : List ℕ) (s : ℕ) → ((source_of w s).active ≡ true → Rests w s) → session_rests w s ≡ true
unfolding session_rests path_agrees stop_agrees
rests_test w s f =
    let z = source_of w s in
    implies z.active (is_idle z.mu && (not z.updated && path_agrees w s))
    (λ t.
    let o = f t in
    ap₂ ◌&&◌ o.idle
    (ap₂ ◌&&◌ (ap not o.quiet)
    (all_below (hops_of w s) (stop_agrees w s)
    (λ i l. agrees_test z.rate (place_of w (stop_of w s i)) s (o.links (stop_of w s i) (record { place = i; within = l; stop = refl }))))))

-- (c) OF ONE LINK -----------------------------------------------------------------------------------------------------

zero_none : (w s : ℕ) → w ≡ 0 → has_of s w ≡ false
zero_none w s e = rw (e, has_zero s)

at_most_means : (p : Place) → Workable p → is_at_most_c (sum_of p) ≡ true → SumAtMostC p
at_most_means p o h = go (sum_of p) refl
  where
    go : (y : Result Rate NoTotal) → sum_of p ≡ y → SumAtMostC p
    go (Ok y) e =
        let q : Sized p.link.capacity y = subst (TotalSized p.link.capacity) e (sum_sized p o) in
        record { sum = y; sums = e; most = record { cross = omega (arith, q.num) } }
    go (Err _) e = absurd (clash (is_at_most_c (sum_of p)) h (ap is_at_most_c e))

pub rated_means : (w : List ℕ) (e : ℕ) → Workable (place_of w e) → R (place_of w e) < 2 ^ 32 → link_rated w e ≡ true → Rated (place_of w e)
unfolding link_rated members_rated member_rated rated_in_r rated_in_f sum_rated
rated_means w e o k h =
    let p = place_of w e in
    let a = and_both (members_rated (B p) p) (sum_rated p) h in
    record {
      restricted =
          λ s l t.
          implied (in_r p s) (equals_b (B p) (rate_at p s)) (and_both (rated_in_r (B p) p s) (rated_in_f (B p) p s) (all_at 32 (member_rated (B p) p) s a.0 l)).0 t;
      free =
          λ s l t.
          implied (in_f p s) (below_b (B p) (rate_at p s)) (and_both (rated_in_r (B p) p s) (rated_in_f (B p) p s) (all_at 32 (member_rated (B p) p) s a.0 l)).1 t;
      unrestricted =
          λ f. at_most_means p o (implied (eqb (R p) 0) (is_at_most_c (sum_of p)) a.1 (eq-eqb (R p) 0 (nobody 32 (R p) k f)));
    }

pub rated_test : (w : List ℕ) (e : ℕ) → Rated (place_of w e) → link_rated w e ≡ true
unfolding link_rated members_rated member_rated rated_in_r rated_in_f sum_rated
rated_test w e o =
    let p = place_of w e in
    ap₂ ◌&&◌
    (all_below 32 (member_rated (B p) p)
    (λ s l. ap₂ ◌&&◌ (implies (in_r p s) (equals_b (B p) (rate_at p s)) (o.restricted s l)) (implies (in_f p s) (below_b (B p) (rate_at p s)) (o.free s l))))
    (implies (eqb (R p) 0) (is_at_most_c (sum_of p))
    (λ t. ap is_at_most_c (o.unrestricted (λ s l. zero_none (R p) s (eqb-true (R p) 0 t))).sums))

-- (d) OF ONE SESSION --------------------------------------------------------------------------------------------------

restricted_means : (w : List ℕ) (s : ℕ) → restricted_somewhere w s ≡ true → Restricted w s
unfolding restricted_somewhere restricted_at
restricted_means w s h =
    let r = all_some 64 (λ e. not (restricted_at w s e)) (not_true (all 64 (λ e. not (restricted_at w s e))) h) in
    record { link = r.place; below = r.below; there = not-false (restricted_at w s r.place) r.fails }

restricted_test : (w : List ℕ) (s : ℕ) → Restricted w s → restricted_somewhere w s ≡ true
unfolding restricted_somewhere restricted_at
restricted_test w s o = ap not (all_fails 64 (λ e. not (restricted_at w s e)) o.link o.below (ap not o.there))

or_first : (a b : Bool) → a ≡ true → (a || b) ≡ true
or_first a b e = rw e

or_second : (a b : Bool) → b ≡ true → (a || b) ≡ true
or_second true b e = refl
or_second false b e = e

pub limited_means : (w : List ℕ) (s : ℕ) → session_limited w s ≡ true → (source_of w s).active ≡ true → Limited w s
unfolding session_limited is_limited limit_of
limited_means w s h t =
    let z = source_of w s in
    let a = and_both (is_limited w s) (le_of z.rate (limit_of w s)) (implied z.active (is_limited w s && le_of z.rate (limit_of w s)) h t) in
    record { limited = go (or_either (restricted_somewhere w s) (same_of z.rate (limit_of w s)) a.0); most = le_true a.1 }
  where
    go : (restricted_somewhere w s ≡ true) ⊎ (same_of (source_of w s).rate (limit_of w s) ≡ true) → Restricted w s ⊎ Same (source_of w s).rate (limit_of w s)
    go (inl q) = inl (restricted_means w s q)
    go (inr q) = inr (same_means (source_of w s).rate (limit_of w s) q)

pub limited_test : (w : List ℕ) (s : ℕ) → ((source_of w s).active ≡ true → Limited w s) → session_limited w s ≡ true
unfolding session_limited is_limited limit_of
limited_test w s f =
    let z = source_of w s in
    implies z.active (is_limited w s && le_of z.rate (limit_of w s)) (λ t. ap₂ ◌&&◌ (go (f t).limited) (true_le (f t).most))
  where
    go : Restricted w s ⊎ Same (source_of w s).rate (limit_of w s) → (restricted_somewhere w s || same_of (source_of w s).rate (limit_of w s)) ≡ true
    go (inl o) = or_first (restricted_somewhere w s) (same_of (source_of w s).rate (limit_of w s)) (restricted_test w s o)
    go (inr q) = or_second (restricted_somewhere w s) (same_of (source_of w s).rate (limit_of w s)) (same_test (source_of w s).rate (limit_of w s) q)

-- (e) OF ONE SESSION --------------------------------------------------------------------------------------------------

pub told_means : (w : List ℕ) (s : ℕ) → session_told w s ≡ true → (source_of w s).active ≡ true → ToldItsRate w s
unfolding session_told
told_means w s h t = go (source_of w s).told refl
  where
    passes : is_told (source_of w s).told (source_of w s).rate ≡ true
    passes = implied (source_of w s).active (is_told (source_of w s).told (source_of w s).rate) h t

    go : (y : Option Rate) → (source_of w s).told ≡ y → ToldItsRate w s
    go None e = absurd (clash (is_told (source_of w s).told (source_of w s).rate) passes (ap (λ (y : Option Rate). is_told y (source_of w s).rate) e))
    go (Some y) e =
        record {
          last = y;
          told = e;
          same = same_means y (source_of w s).rate (sym (ap (λ (x : Option Rate). is_told x (source_of w s).rate) e) ∙ passes);
        }

pub told_test : (w : List ℕ) (s : ℕ) → ((source_of w s).active ≡ true → ToldItsRate w s) → session_told w s ≡ true
unfolding session_told
told_test w s f =
    implies (source_of w s).active (is_told (source_of w s).told (source_of w s).rate)
    (λ t. ap (λ (x : Option Rate). is_told x (source_of w s).rate) (f t).told ∙ same_test (f t).last (source_of w s).rate (f t).same)
