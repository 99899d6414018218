-- What is worked out from rates within the limits is within the limits: sums, totals, B, and the entries after each change.
-- Assumes nothing.
use mathlib.Core.List.{List}
use mathlib.Core.Logic.{◌⊎◌, inl, inr, ⊎_elim}
use mathlib.Core.Path.{◌≡◌, ap, refl, subst, sym, ◌∙◌}
use borrow.Author.Tests.{leb-true}
use lib.Dec.{lit≤}
use lib.ListN.{get_or, length-set, set}
use lib.Seq.{get_or-set_same, get_or-set_other}
use native.Mathlib.Omega.{arith}
use Prim.Native.Nat.{ℕ, zero, suc, ◌+◌, ◌*◌, ◌≤◌, ◌<◌}
use Rattle.std.specs.Prelude.{Result, Ok, Err}
use Rattle.fractions.specs.declared.Rate.{Rate}
use Rattle.fractions.specs.declared.TooFine.{TooFine}
use Rattle.fractions.specs.Fraction.{Sized, le_of, limit, max_rate, plus_of, share_of, whole_of, zero_of}
use Rattle.fractions.proofs.Cases.{cases, order}
use Rattle.fractions.proofs.Ranges.{plus_sized, sized_more, whole_sized, within_sized}
use Rattle.fractions.proofs.Shares.{share_within}
use Rattle.sessions.proofs.Walks.{walk_keeps}
use Rattle.links.specs.declared.Entry.{Entry}
use Rattle.links.specs.declared.Mu.{Mu}
use Rattle.links.specs.declared.Mu.TheVariants as mu
use Rattle.links.specs.declared.NoTotal.{NoTotal}
use Rattle.links.specs.declared.NoTotal.TheVariants as no_total
use Rattle.links.specs.declared.Place.{Place}
use Rattle.links.specs.FCheck.{check_of, higher_of, highest_of, process_of, turn_of}
use Rattle.links.specs.Links.{
  B,
  BoundSized,
  F,
  Rates,
  TotalSized,
  Workable,
  as_bound,
  bound_of,
  entry,
  more_of,
  no_entry,
  rate_at,
  some_of,
  sum_of,
  upto_of,
  wait_in,
  waiting_of,
  with_entry,
  with_mu,
  with_words,
  at_least,
}

-- what holds of a rate within its range holds within the limit of comparisons
pub to_limit : {a : Rate} → Sized max_rate a → Sized limit a
to_limit = sized_more {m = max_rate} {n = limit} (lit≤ tt)

-- SUMS ----------------------------------------------------------------------------------------------------------------

-- a sum of two that comes back as a rate
pub two_sized : {a b : Rate} → Sized max_rate a → Sized max_rate b → TotalSized limit (plus_of a b)
two_sized {a} {b} u v = go (plus_of a b) refl
  where
    go : (y : Result Rate TooFine) → plus_of a b ≡ y → TotalSized limit y
    go (Ok y) e = sized_more {m = max_rate + max_rate} {n = limit} (lit≤ tt) (plus_sized u v e)
    go (Err _) e = tt

pub upto_sized : (c : ℕ) (y : Result Rate TooFine) → TotalSized limit y → TotalSized c (upto_of c y)
unfolding upto_of
upto_sized c (Ok y) h =
    cases (TotalSized c) (le_of y (whole_of c)) (Ok y) (Err no_total.PastC)
    (λ e. record { pos = h.pos; den = h.den; num = omega (arith, leb-true (y.num * 1) (c * y.den) e) })
    (λ e. tt)
upto_sized c (Err _) h = tt

pub more_sized : (c : ℕ) (a : Result Rate NoTotal) (x : Rate) → c ≤ max_rate → TotalSized c a → Sized max_rate x → TotalSized c (more_of c a x)
unfolding more_of
more_sized c (Ok y) x h u v = upto_sized c (plus_of y x) (two_sized (sized_more h u) v)
more_sized c (Err _) x h u v = tt

-- the sum of F
pub sum_sized : (p : Place) → Workable p → TotalSized p.link.capacity (sum_of p)
unfolding sum_of
sum_sized p o =
    let c = p.link.capacity in
    walk_keeps (TotalSized c) (λ a s. more_of c a (rate_at p s)) 32 p.link.f
    (λ a s l q. more_sized c a (rate_at p s) o.capacity q (o.rates.sized s l))
    (Ok zero_of) (whole_sized {m = c} {n = 0} (omega arith))

-- the higher of two
pub higher_sized : (a b : Rate) → Sized max_rate a → Sized max_rate b → Sized max_rate (higher_of a b)
higher_sized a b u v = cases (Sized max_rate) (le_of a b) b a (λ e. v) (λ e. u)

-- B -------------------------------------------------------------------------------------------------------------------

share_sized : (c : ℕ) (y : Rate) (k : ℕ) → c ≤ max_rate → 0 < y.den → 0 < k → BoundSized (as_bound (share_of c y k))
share_sized c y k h u v = go (share_of c y k) refl
  where
    go : (z : Result Rate TooFine) → share_of c y k ≡ z → BoundSized (as_bound z)
    go (Ok b) e = sized_more h (within_sized (share_within c y k u v e).1)
    go (Err _) e = lit≤ tt

pub bound_sized : (c k : ℕ) (a : Result Rate NoTotal) → c ≤ max_rate → TotalSized c a → BoundSized (bound_of c k a)
unfolding bound_of
bound_sized c k (Err no_total.TooFine) h u = lit≤ tt
bound_sized c zero (Ok y) h u = lit≤ tt
bound_sized c (suc k) (Ok y) h u = share_sized c y (suc k) h u.pos (omega arith)
bound_sized c zero (Err no_total.PastC) h u = lit≤ tt
bound_sized c (suc k) (Err no_total.PastC) h u = whole_sized {m = max_rate} {n = 0} (lit≤ tt)

pub b_sized : (p : Place) → Workable p → BoundSized (B p)
unfolding B
b_sized p o = bound_sized p.link.capacity _ (sum_of p) o.capacity (sum_sized p o)

pub highest_sized : (p : Place) → Rates p.entries → Sized max_rate (highest_of p)
unfolding highest_of
highest_sized p o =
    walk_keeps (Sized max_rate) (λ a s. higher_of a (rate_at p s)) 32 p.link.f (λ a s l q. higher_sized a (rate_at p s) q (o.sized s l)) zero_of
    (whole_sized {m = max_rate} {n = 0} (lit≤ tt))

-- THE ENTRIES AFTER A CHANGE ------------------------------------------------------------------------------------------

same_place : (i j : ℕ) → (i ≡ j) ⊎ (i ≡ j → ⊥)
same_place i j = go (order i j) (order j i)
  where
    go : (i ≤ j) ⊎ (j < i) → (j ≤ i) ⊎ (i < j) → (i ≡ j) ⊎ (i ≡ j → ⊥)
    go (inl a) (inl b) = inl (omega arith)
    go (inr a) b = inr (λ e. omega arith)
    go (inl a) (inr b) = inr (λ e. omega arith)

pub rates_set : (es : List Entry) (s : ℕ) (x : Entry) → Rates es → Sized max_rate x.rate → Rates (set es s x)
rates_set es s x o h =
    record {
      many = length-set es s x ∙ o.many;
      sized =
          λ t l.
          ⊎_elim
          (λ e.
          subst (λ (y : Entry). Sized max_rate y.rate)
          (sym (ap (λ (i : ℕ). get_or (set es s x) i no_entry) e ∙ get_or-set_same es s x no_entry (rw o.many (rw e at l)))) h)
          (λ n. subst (λ (y : Entry). Sized max_rate y.rate) (sym (get_or-set_other es s t x no_entry n)) (o.sized t l))
          (same_place t s);
    }

-- a state changes and no rate
pub rates_mu : (es : List Entry) (s : ℕ) (m : Mu) → s < 32 → Rates es → Rates (set es s (entry m (get_or es s no_entry).rate))
rates_mu es s m l o = rates_set es s _ o (o.sized s l)

-- sessions wait for a probe
pub rates_waiting : (p : Place) (w : ℕ) → Rates p.entries → Rates (waiting_of p w).entries
unfolding waiting_of
rates_waiting p w o = walk_keeps Rates wait_in 32 w (λ es s l q. rates_mu es s mu.WaitingProbe l q) p.entries o

-- the F check moves sessions between R and F, and changes nothing else
pub turn_workable : (p : Place) → Workable p → Workable (turn_of p)
unfolding turn_of
turn_workable p o = record { capacity = o.capacity; rates = o.rates }

pub check_workable : (k : ℕ) (p : Place) → Workable p → Workable (check_of k p)
unfolding check_of
check_workable zero p o = o
check_workable (suc k) p o =
    cases Workable (some_of (at_least (B p)) p.entries (F p)) (check_of k (turn_of p)) p (λ e. check_workable k (turn_of p) (turn_workable p o)) (λ e. o)

-- A LINK AFTER A CHANGE -----------------------------------------------------------------------------------------------

pub workable_words : (p : Place) (r f : ℕ) → Workable p → Workable (with_words p r f)
workable_words p r f o = record { capacity = o.capacity; rates = o.rates }

pub workable_entry : (p : Place) (s : ℕ) (x : Entry) → Workable p → Sized max_rate x.rate → Workable (with_entry p s x)
workable_entry p s x o h = record { capacity = o.capacity; rates = rates_set p.entries s x o.rates h }

pub workable_mu : (p : Place) (s : ℕ) (m : Mu) → s < 32 → Workable p → Workable (with_mu p s m)
workable_mu p s m l o = record { capacity = o.capacity; rates = rates_mu p.entries s m l o.rates }

-- B after ProcessNewRestricted
pub process_sized : (p : Place) → Workable p → BoundSized (process_of p).bound
unfolding process_of
process_sized p o = b_sized (check_of 32 p) (check_workable 32 p o)
