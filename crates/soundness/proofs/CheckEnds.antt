-- The F check is the loop of 001, Figure 2, line 5: each turn takes a member out of F, one with the highest rate, so 32 turns are enough. A B or a
-- partial sum that is too fine ends the loop where it stands, so refusal 12 need look at the last B alone. All of it holds of every link.
-- Assumes nothing.
use mathlib.Core.Bool.{Bool, cond, false, not, true}
use mathlib.Core.List.{List}
use mathlib.Core.Logic.{◌⊎◌, inl, inr}
use mathlib.Core.Path.{◌≡◌, ap, refl, subst, sym, ◌∙◌}
use Prim.Native.Nat.{ℕ, zero, suc, ◌+◌, ◌*◌, ◌≤◌, ◌<◌}
use lib.Count.{count_trailing_zeros}
use lib.Dec.{eqb}
use native.Mathlib.Decide.{ℕ_discrete}
use native.Mathlib.Omega.{arith}
use borrow.Author.Tests.{eq-eqb, eqb-false, le-leb}
use Rattle.fairness.proofs.Sums.{sum_few}
use Rattle.fractions.specs.declared.Rate.{Rate}
use Rattle.fractions.specs.Fraction.{le_of, same_of, zero_of}
use Rattle.fractions.proofs.Cases.{cases, chosen, not_true}
use Rattle.fractions.proofs.Ranges.{true_same}
use Rattle.links.specs.declared.Bound.{Bound}
use Rattle.links.specs.declared.Bound.TheVariants as bound
use Rattle.links.specs.declared.Entry.{Entry}
use Rattle.links.specs.declared.Place.{Place}
use Rattle.links.specs.FCheck.{check_of, higher_of, highest_of, turn_of}
use Rattle.links.specs.Links.{B, F, add_if, is_fine, rate_at, some_of, those_of, at_least, has_other_rate}
use Rattle.records.proofs.Somes.{clash, not_so}
use Rattle.sessions.specs.Set.{has, put}
use Rattle.sessions.proofs.Members.{has_lt, has_put_other, has_put_same}
use Rattle.sessions.proofs.Walks.{low_has, low_lt, walk_keeps}
use Rattle.soundness.specs.Sound.{weight}
use Rattle.soundness.proofs.Chosen.{has_those_le, those_lt, those_out}
use Rattle.soundness.proofs.Weights.{walk_adds, weight_at, weight_le, weight_put}

-- line 5: ∃ s ∈ F : λ_s ≥ B
abbrev pub line5 : Place → Bool
line5 p = some_of (at_least (B p)) p.entries (F p)

-- q is a stage of the check of p: p itself, or what a turn makes of a stage where line 5 holds. The check reads B of its stages and of no other link
pub data Stage (p : Place) : Place → Type 0 where
  begin : Stage p p
  turned : {q : Place} → Stage p q → line5 q ≡ true → Stage p (turn_of q)

-- A TURN --------------------------------------------------------------------------------------------------------------

-- the rate m is that of a member of F
record OfMember (p : Place) (m : Rate) : Type 0 where
  who : ℕ
  low : who < 32
  member : has who (F p) ≡ 1
  rate : rate_at p who ≡ m

-- where some member is chosen, there is one
some_member : (a : Entry → Bool) (es : List Entry) (w : ℕ) → some_of a es w ≡ true → (s : ℕ) × (s < 32) × (has s w ≡ 1)
some_member a es w t = go (eqb-false (those_of a es w) 0 (not_true (eqb (those_of a es w) 0) t))
  where
    go : (those_of a es w ≡ 0 → ⊥) → (s : ℕ) × (s < 32) × (has s w ≡ 1)
    go n =
        let v = those_of a es w in
        let s = count_trailing_zeros 32 v in (
          s,
          low_lt 32 v (omega arith) (those_lt a es w),
          omega (arith, low_has 32 v (omega arith) (those_lt a es w), has_those_le a es w s, has_lt s w),
        )

-- the highest rate so far: 0 before the first member, and then that of a member
module _ (p : Place) where
  abbrev SoFar : Rate → ℕ → Type 0
  SoFar m n = ((n ≡ 0) × (m ≡ zero_of)) ⊎ OfMember p m

  higher_of_lem : (s : ℕ) → s < 32 → has s (F p) ≡ 1 → (m : Rate) (n : ℕ) → SoFar m n → OfMember p (higher_of m (rate_at p s))
  higher_of_lem s l h m n (inl e) =
      subst (λ (x : Rate). OfMember p (higher_of x (rate_at p s))) (sym e.1)
      (rw (le-leb (0 * (rate_at p s).den) ((rate_at p s).num * 1) (omega arith)) (record { who = s; low = l; member = h; rate = refl }))
  higher_of_lem s l h m n (inr t) =
      cases (OfMember p) (le_of m (rate_at p s)) (rate_at p s) m (λ e. record { who = s; low = l; member = h; rate = refl }) (λ e. t)

  highest_of_lem : (s : ℕ) → s < 32 → has s (F p) ≡ 1 → OfMember p (highest_of p)
  unfolding highest_of
  highest_of_lem s l h =
      go (walk_adds SoFar (λ m j. higher_of m (rate_at p j)) (λ j. 1) (F p) (λ j k i m n q. inr (higher_of_lem j k i m n q)) zero_of 0 (inl (refl, refl)))
    where
      go : SoFar (highest_of p) (0 + weight (F p) (λ j. 1)) → OfMember p (highest_of p)
      go (inl e) = absurd (omega (arith, e.0, weight_at (F p) s (λ j. 1) l h))
      go (inr t) = t

-- how many members a set has
abbrev count : ℕ → ℕ
count w = weight w (λ s. 1)

count_to_32 : (w : ℕ) → count w ≤ 32
unfolding weight
count_to_32 w = sum_few 32 (λ s. has s w * 1) (λ s l. omega (arith, has_lt s w))

-- one member is gone and nobody came
count_less : (v w s : ℕ) → s < 32 → has s w ≡ 1 → has s v ≡ 0 → ((r : ℕ) → has r v ≤ has r w) → count v < count w
count_less v w s l h n e = omega (arith, weight_put v s (λ r. 1) l n, weight_le (put s v) w (λ r. 1) (λ r k. go r (ℕ_discrete s r)))
  where
    go : (r : ℕ) → Dec (s ≡ r) → has r (put s v) ≤ has r w
    go r (yes q) = rw (sym q) (omega (arith, has_put_same s v))
    go r (no q) = omega (arith, has_put_other s r v q, e r)

-- where line 5 holds, a turn makes F smaller
turn_less : (p : Place) → line5 p ≡ true → count (F (turn_of p)) < count (F p)
unfolding turn_of
turn_less p t =
    let s = some_member (at_least (B p)) p.entries (F p) t in
    let m = highest_of_lem p s.0 s.1 s.2 in
    let other = has_other_rate (highest_of p) in
    count_less (those_of other p.entries (F p)) (F p) m.who m.low m.member
    (those_out other p.entries (F p) m.who (λ h f. not_other (rate_at p m.who) (highest_of p) m.rate f))
    (has_those_le other p.entries (F p))
  where
    not_other : (x y : Rate) → x ≡ y → not (same_of x y) ≡ true → ⊥
    not_other x y e f = clash (same_of x y) (true_same e) (not_true (same_of x y) f)

-- THE LOOP ------------------------------------------------------------------------------------------------------------

no_member : (p : Place) → count (F p) ≤ 0 → line5 p ≡ false
no_member p h = not_so (line5 p) (λ t. omega (arith, turn_less p t))

-- as many turns as F has members are enough
done_by : (k : ℕ) (p : Place) → count (F p) ≤ k → line5 (check_of k p) ≡ false
unfolding check_of
done_by zero p h = no_member p h
done_by (suc k) p h =
    cases (λ (q : Place). line5 q ≡ false) (line5 p) (check_of k (turn_of p)) p (λ t. done_by k (turn_of p) (omega (arith, turn_less p t))) (λ t. t)

-- and one turn more changes nothing
one_more : (k : ℕ) (p : Place) → count (F p) ≤ k → check_of (suc k) p ≡ check_of k p
unfolding check_of
one_more zero p h = rw (no_member p h) refl
one_more (suc k) p h = go (line5 p) _ _ (λ t. one_more k (turn_of p) (omega (arith, turn_less p t)))
  where
    go : (b : Bool) (x y : Place) → (b ≡ true → x ≡ y) → cond b x p ≡ cond b y p
    go true x y e = e refl
    go false x y e = refl

-- after the check no member of F has a rate of at least B. Where B is too fine no comparison holds, so it is so there too
pub check_done_lem : (p : Place) → some_of (at_least (B (check_of 32 p))) (check_of 32 p).entries (F (check_of 32 p)) ≡ false
check_done_lem p = done_by 32 p (count_to_32 (F p))

-- so the check is a loop without a count: where line 5 holds, a turn and then the check again, and else nothing
pub loop_turns : (p : Place) → line5 p ≡ true → check_of 32 p ≡ check_of 32 (turn_of p)
unfolding check_of
loop_turns p t = sym (one_more 32 p (count_to_32 (F p))) ∙ chosen (line5 p) true (check_of 32 (turn_of p)) p t

pub loop_stops : (p : Place) → line5 p ≡ false → check_of 32 p ≡ p
unfolding check_of
loop_stops p t = chosen (line5 p) false (check_of 31 (turn_of p)) p t

-- STAGES --------------------------------------------------------------------------------------------------------------

-- the check ends in one of its stages, where line 5 no longer holds (`check_done_lem`): what the figure's loop comes to is what the definition gives
stage_by : (k : ℕ) (p q : Place) → Stage p q → Stage p (check_of k q)
unfolding check_of
stage_by zero p q g = g
stage_by (suc k) p q g = cases (Stage p) (line5 q) (check_of k (turn_of q)) q (λ t. stage_by k p (turn_of q) (turned g t)) (λ t. g)

pub check_stage : (p : Place) → Stage p (check_of 32 p)
check_stage p = stage_by 32 p p begin

-- from each stage it comes to the same end
pub stage_check : {p q : Place} → Stage p q → check_of 32 q ≡ check_of 32 p
stage_check begin = refl
stage_check (turned {q} g t) = sym (loop_turns q t) ∙ stage_check g

-- no rate compares with a B that is too fine, so line 5 does not hold there
none_at_too_fine : (es : List Entry) (w : ℕ) → those_of (at_least bound.TooFine) es w ≡ 0
unfolding those_of
none_at_too_fine es w = walk_keeps (λ v. v ≡ 0) (add_if (at_least bound.TooFine) es) 32 w (λ v s l e. e) 0 refl

too_fine_stops : (p : Place) → is_fine (B p) ≡ false → line5 p ≡ false
too_fine_stops p = go (B p)
  where
    go : (b : Bound) → is_fine b ≡ false → some_of (at_least b) p.entries (F p) ≡ false
    go (bound.At b) e = absurd (clash true refl e)
    go bound.Above e = absurd (clash true refl e)
    go bound.TooFine e = ap not (eq-eqb _ _ (none_at_too_fine p.entries (F p)))

-- where B after the check is fine, so is B of each stage, and with it the partial sums that it was worked out from
pub check_fine : (p q : Place) → Stage p q → is_fine (B (check_of 32 p)) ≡ true → is_fine (B q) ≡ true
check_fine p q g h = go (is_fine (B q)) refl
  where
    go : (b : Bool) → is_fine (B q) ≡ b → b ≡ true
    go true e = refl
    go false e = sym e ∙ (ap (λ (v : Place). is_fine (B v)) (sym (loop_stops q (too_fine_stops q e)) ∙ stage_check g) ∙ h)
