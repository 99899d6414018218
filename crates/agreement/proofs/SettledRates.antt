-- A table that passes the test of refusal 14 and is settled has the max-min fair rates of its active sessions (00, demand 3; 01, "Settled"): with no
-- packet in flight a link holds the sessions of S_e and no others, so its words give |R| and the sum of F, and (c) and (d) are those of the theory.
-- Assumes nothing.
use mathlib.Core.Bool.{Bool, false, not, true, ◌&&◌, ◌||◌}
use mathlib.Core.List.{List}
use mathlib.Core.Logic.{◌⊎◌, inl, inr}
use mathlib.Core.Path.{◌≡◌, ap, ap₂, refl, subst, sym, ◌∙◌}
use Prim.Native.Nat.{ℕ, ◌*◌, ◌≤◌, ◌<◌}
use native.Mathlib.Omega.{arith}
use borrow.Author.Tests.{eq-eqb}
use lib.Dec.{T, T_not}
use Rattle.conditions.specs.Conditions as conditions
use Rattle.ends.specs.Figure3 as figure3
use Rattle.fairness.specs.Answer.{Answer}
use Rattle.fairness.specs.MaxMin.{Active, Problem, of_link}
use Rattle.fairness.specs.Settled.{SettledLink, SettledRates, size_r, sum_f}
use Rattle.fairness.specs.Sum.{part, sum}
use Rattle.fairness.proofs.CommonDenominator.{Together, together}
use Rattle.fairness.proofs.Parts.{part_zero}
use Rattle.fairness.proofs.SettledIsFair.{settled_is_fair}
use Rattle.fairness.proofs.Sums.{sum_eq}
use Rattle.fractions.specs.declared.Rate.{Rate}
use Rattle.fractions.specs.Fraction.{Le, Same, frac, whole_of}
use Rattle.fractions.proofs.Cases.{and_both, and_join, or_either, passes_so, same_test, so_passes}
use Rattle.fractions.proofs.Order.{le_of_same, le_trans, same_sym, same_trans}
use Rattle.handed.specs.Passes.{Passes}
use Rattle.handed.proofs.SumsAreRates.{passes_sums}
use Rattle.links.specs.declared.Place.{Place}
use Rattle.links.specs.Links.{F, R, holds, in_f, in_r, rate_at}
use Rattle.records.proofs.Somes.{clash}
use Rattle.sessions.specs.Set.{has, size_of}
use Rattle.sessions.proofs.Members.{has_or_not}
use Rattle.soundness.specs.Sound.{weight}
use Rattle.soundness.proofs.Weights.{Comes, size_sum}
use Rattle.table.specs.Words.{place_of, source_of}
use Rattle.table.proofs.InRange.{row_rates, source_in_range_lem}
use Rattle.table.proofs.Workables.{place_workable}
use Rattle.agreement.specs.Needed.{Needed}
use Rattle.agreement.proofs.Poses.{Poses}
use Rattle.agreement.proofs.SettledEntries.{entry_active, entry_on_path_lem, settled_links, source_of_active}
use Rattle.agreement.proofs.SettledLinks.{RatedOver, rated_over}

-- THE WORDS OF A LINK -------------------------------------------------------------------------------------------------

-- of the sessions that a link holds, those in R
in_r_counts : (p : Place) (s : ℕ) → part (holds p s) (part (in_r p s) 1) ≡ has s (R p)
in_r_counts p s = go (has_or_not s (R p))
  where
    go : (has s (R p) ≡ 0) ⊎ (has s (R p) ≡ 1) → part (holds p s) (part (in_r p s) 1) ≡ has s (R p)
    go (inl e) = rw e (part_zero (in_f p s))
    go (inr e) = rw e refl

-- and those not in R, which are in F
in_f_counts : (p : Place) (s v : ℕ) → (in_r p s ≡ true → in_f p s ≡ false) → part (holds p s) (part (not (in_r p s)) v) ≡ has s (F p) * v
in_f_counts p s v apart = go (has_or_not s (R p)) (has_or_not s (F p))
  where
    go : (has s (R p) ≡ 0) ⊎ (has s (R p) ≡ 1) → (has s (F p) ≡ 0) ⊎ (has s (F p) ≡ 1) → part (holds p s) (part (not (in_r p s)) v) ≡ has s (F p) * v
    go (inl r) (inl f) = rw (r, f) (omega arith)
    go (inl r) (inr f) = rw (r, f) (omega arith)
    go (inr r) (inl f) = rw (r, f) (omega arith)
    go (inr r) (inr f) = absurd (clash (in_f p s) (eq-eqb (has s (F p)) 1 f) (apart (eq-eqb (has s (R p)) 1 r)))

-- THE TABLE -----------------------------------------------------------------------------------------------------------

module _ (w : List ℕ) where
  -- the rates of the 32 sources over one denominator
  common : Together 32 (λ s. (source_of w s).rate)
  common = together 32 (λ s. (source_of w s).rate) (λ s l. (source_in_range_lem w s).rate.pos)

  abbrev N : ℕ
  N = common.over

  abbrev x : ℕ → ℕ
  x = common.rates

  module _ (o : Passes w) (c : Needed w) where
    entry_shown : (e s : ℕ) → e < 64 → s < 32 → holds (place_of w e) s ≡ true → Comes N (rate_at (place_of w e) s) (x s)
    entry_shown e s le ls h =
        let same = settled_links w o c s ls (entry_active w o c e s le ls h) e (entry_on_path_lem w o e s le ls h) in
        record {
          pos = (row_rates w e s ls).pos;
          same = subst (λ (r : Rate). Same r (frac (x s) N)) (sym same) (common.shown s ls);
        }

    link_rated_lem : (e : ℕ) → e < 64 → RatedOver N x (place_of w e)
    link_rated_lem e le =
        rated_over N x (place_of w e) common.pos (place_workable w e) (o.fine e le) (passes_sums w o e le)
        (λ s ls h. entry_shown e s le ls h) (c.c e (omega arith))

    -- THE PROBLEM THAT IT POSES -----------------------------------------------------------------------------------------

    module _ (p : Problem) (q : Poses w p) where
      -- an active session of the problem is one of the table
      active_there : (s : ℕ) → Active p s → (s < 32) × conditions.Active w s
      active_there s h = let l : s < 32 = omega (arith, h.0, q.sessions) in (l, sym (q.active s l) ∙ passes_so (p.active s) h.1)

      -- a link holds the sessions of S_e and no others
      holds_its_own : (e s : ℕ) → e < 64 → s < 32 → of_link p e s ≡ holds (place_of w e) s
      holds_its_own e s le ls = same_test (of_link p e s) (holds (place_of w e) s) held owned
        where
          held : of_link p e s ≡ true → holds (place_of w e) s ≡ true
          held t =
              let u = and_both (p.active s) (p.crosses e s) t in
              let a = sym (q.active s ls) ∙ u.0 in
              (c.b s (omega arith) a e (q.on_path e s le ls a (so_passes (p.crosses e s) u.1))).held

          owned : holds (place_of w e) s ≡ true → of_link p e s ≡ true
          owned h =
              let a = entry_active w o c e s le ls h in
              ap₂ ◌&&◌ (q.active s ls ∙ a) (passes_so (p.crosses e s) (q.crosses e s le ls a (entry_on_path_lem w o e s le ls h)))

      -- so the size of its R and the sum of its F are the theory's
      size_is : (e : ℕ) → e < 64 → size_r p (in_r (place_of w e)) e ≡ size_of (R (place_of w e))
      unfolding size_r
      size_is e le =
          let f : ℕ → ℕ = λ s. part (of_link p e s) (part (in_r (place_of w e) s) 1) in
          ap (λ (n : ℕ). sum n f) q.sessions
          ∙ sum_eq 32 f (λ s. has s (R (place_of w e)))
          (λ s ls. ap (λ (b : Bool). part b (part (in_r (place_of w e) s) 1)) (holds_its_own e s le ls) ∙ in_r_counts (place_of w e) s)
          ∙ sym (size_sum (R (place_of w e)))

      sum_is : (e : ℕ) → e < 64 → sum_f p x (in_r (place_of w e)) e ≡ weight (F (place_of w e)) x
      unfolding sum_f weight
      sum_is e le =
          let f : ℕ → ℕ = λ s. part (of_link p e s) (part (not (in_r (place_of w e) s)) (x s)) in
          ap (λ (n : ℕ). sum n f) q.sessions
          ∙ sum_eq 32 f (λ s. has s (F (place_of w e)) * x s)
          (λ s ls.
          ap (λ (b : Bool). part b (part (not (in_r (place_of w e) s)) (x s))) (holds_its_own e s le ls)
          ∙ in_f_counts (place_of w e) s (x s) (o.apart e s le ls))

      -- a session of S_e that is not in R is in F
      in_f_lem : (e s : ℕ) → e < 64 → s < 32 → T (of_link p e s) → T (not (in_r (place_of w e) s)) → in_f (place_of w e) s ≡ true
      in_f_lem e s le ls t n =
          go (or_either (in_r (place_of w e) s) (in_f (place_of w e) s) (sym (holds_its_own e s le ls) ∙ passes_so (of_link p e s) t))
        where
          go : (in_r (place_of w e) s ≡ true) ⊎ (in_f (place_of w e) s ≡ true) → in_f (place_of w e) s ≡ true
          go (inl r) = absurd (T_not (in_r (place_of w e) s) n (so_passes (in_r (place_of w e) s) r))
          go (inr f) = f

      -- (c)
      settled_link : (e : ℕ) → e < 64 → SettledLink p N x e (in_r (place_of w e))
      settled_link e le =
          let k = link_rated_lem e le in
          record {
            equal = λ s h t r.
                rw (size_is e le, sum_is e le, q.capacity e le) (k.restricted s (active_there s h).0 (passes_so (in_r (place_of w e) s) r));
            below = λ s h t n g.
                let l = (active_there s h).0 in
                let f = in_f_lem e s le l (and_join (p.active s) (p.crosses e s) h.1 t) n in
                rw (size_is e le, sum_is e le, q.capacity e le) (k.free s l f (subst (λ (n : ℕ). 0 < n) (size_is e le) g));
            empty = λ z. rw (sum_is e le, q.capacity e le) k.fits;
          }

      -- (d): "no rate exceeds D"
      own_limit : (s : ℕ) → Active p s → x s ≤ N * p.D s
      own_limit s h =
          let u = active_there s h in
          let m : Le (frac (x s) N) (whole_of (figure3.D (source_of w s))) =
          le_trans (source_in_range_lem w s).rate.pos (le_of_same (same_sym (common.shown s u.0))) (c.d s (omega (arith, u.0)) u.1).most in
          rw (q.D s u.0 u.1) (omega (arith, m.cross))

      -- "each session is in R at some link or its rate equals D"
      restricted_or_own : (s : ℕ) → Active p s → (x s ≡ N * p.D s) ⊎ ((e : ℕ) × (e < p.links) × T (p.crosses e s) × T (in_r (place_of w e) s))
      restricted_or_own s h = let u = active_there s h in go u.0 u.1 (c.d s (omega (arith, u.0)) u.1).limited
        where
          go : s < 32 → conditions.Active w s
              → conditions.Restricted w s ⊎ Same (source_of w s).rate (whole_of (figure3.D (source_of w s)))
              → (x s ≡ N * p.D s) ⊎ ((e : ℕ) × (e < p.links) × T (p.crosses e s) × T (in_r (place_of w e) s))
          go l a (inl r) =
              let e = r.link in
              let held : holds (place_of w e) s ≡ true = ap (λ (b : Bool). b || in_f (place_of w e) s) r.there in
              let on = q.crosses e s r.below l a (entry_on_path_lem w o e s r.below l held) in
              inr (e, omega (arith, q.links, r.below), on, so_passes (in_r (place_of w e) s) r.there)
          go l a (inr r) =
              let m : Same (frac (x s) N) (whole_of (figure3.D (source_of w s))) =
              same_trans (source_in_range_lem w s).rate.pos (same_sym (common.shown s l)) r in
              inl (rw (q.D s l a) (omega (arith, m.cross)))

      settled_rates : SettledRates p N x (λ e s. in_r (place_of w e) s)
      settled_rates =
          record {
            pos = common.pos;
            links = λ e h. settled_link e (omega (arith, q.links));
            restricted = restricted_or_own;
            own = own_limit;
          }

      answer : Answer p (λ s. (source_of w s).rate)
      answer =
          record {
            over = N;
            rates = x;
            fair = settled_is_fair p N x (λ e s. in_r (place_of w e) s) settled_rates;
            shown = λ s h. common.shown s (active_there s h).0;
            lowest = λ s h. let u = active_there s h in (source_of_active w o s u.0 u.1).rate.lowest;
          }

-- 00, demand 3: the rates of a settled table are the answer of the problem that the table poses
pub settled_answer : (w : List ℕ) (p : Problem) → Poses w p → Passes w → Needed w → Answer p (λ s. (source_of w s).rate)
settled_answer w p q o c = answer w o c p q
