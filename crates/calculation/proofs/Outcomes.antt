-- What the definition of `calculate` gives: its cases in the order of their tests, and that an accepted input gets the rates that were ordered and the
-- places that bind, and only those.
-- Assumes nothing.
use Rattle.std.specs.Prelude.{Result, Ok, Err, ⊤}
use mathlib.Core.Bool.{◌||◌}
use mathlib.Core.List.{List}
use mathlib.Core.Logic.{◌⊎◌, inl, inr}
use mathlib.Core.Path.{◌≡◌, ap, ap₂, refl, subst, sym, ◌∙◌}
use Prim.Native.Nat.{ℕ, ◌≤◌, ◌<◌}
use native.Mathlib.Omega.{arith}
use borrow.Author.Tests.{le-ltb, lt-ltb, ltb-false}
use lib.Dec.{eqb→eq, ltb}
use lib.ListN.{get_or, length}
use Rattle.fractions.specs.Fraction.{frac}
use Rattle.fractions.specs.declared.Rate.{Rate}
use Rattle.fractions.proofs.Cases.{cases, or_false}
use Rattle.sessions.specs.Set.{has}
use Rattle.fairness.specs.Answer.{Answer, figure1_rate}
use Rattle.fairness.specs.MaxMin.{Active}
use Rattle.fairness.proofs.Answers.{answer_unique, figure1_answer}
use Rattle.fairness.proofs.Running.{values_at}
use Rattle.records.specs.declared.Refusal.TheVariants as refusal
use Rattle.records.specs.Format.{Bytes}
use Rattle.records.specs.declared.Refused.{Refused}
use Rattle.records.specs.Refusals.{refused_at}
use Rattle.declarations.specs.Declaring.{declarations_of}
use Rattle.declarations.specs.declared.Declared.{Declared}
use Rattle.declarations.proofs.KeepsRanges.{declarations_in_range}
use Rattle.filling.specs.Lines.{Ranges, problem_of}
use Rattle.calculation.specs.Binding.{Binds}
use Rattle.calculation.specs.Calculating.{PlacesBind, Ordered, Outcome, Placed, after_records, calculate_of, done_of, refusing, results_of, said_of}
use Rattle.calculation.specs.declared.Calculated.{Calculated}
use Rattle.calculation.proofs.BindingPlaces.{binds_unique, results_bind}
use Rattle.calculation.proofs.Writing.{written_at}

module _ (s nums dens places : List ℕ) where
  -- refusal 15
  pub short : (length nums < 32) ⊎ ((32 ≤ length nums) × (length dens < 32)) ⊎ ((32 ≤ length nums) × (32 ≤ length dens) × (length places < 32))
      → calculate_of s nums dens places ≡ refusing (Err (refused_at refusal.ShortSlice 0)) nums dens places
  unfolding calculate_of
  short (inl h) = rw (lt-ltb _ _ h)
  short (inr (inl h)) = rw (le-ltb _ _ h.0, lt-ltb _ _ h.1)
  short (inr (inr h)) = rw (le-ltb _ _ h.0, le-ltb _ _ h.1, lt-ltb _ _ h.2)

  -- of the first slice, of the second and of the third
  pub short_first : length nums < 32 → calculate_of s nums dens places ≡ refusing (Err (refused_at refusal.ShortSlice 0)) nums dens places
  short_first h = short (inl h)

  pub short_second : 32 ≤ length nums → length dens < 32
      → calculate_of s nums dens places ≡ refusing (Err (refused_at refusal.ShortSlice 0)) nums dens places
  short_second a h = short (inr (inl (a, h)))

  pub short_third : 32 ≤ length nums → 32 ≤ length dens → length places < 32
      → calculate_of s nums dens places ≡ refusing (Err (refused_at refusal.ShortSlice 0)) nums dens places
  short_third a b h = short (inr (inr (a, b, h)))

  module _ (a : 32 ≤ length nums) (b : 32 ≤ length dens) (c : 32 ≤ length places) where
    -- refusal 1
    pub too_long : 32768 < length s → calculate_of s nums dens places ≡ refusing (Err (refused_at refusal.TooLong 0)) nums dens places
    unfolding calculate_of
    too_long h = rw (le-ltb _ _ a, le-ltb _ _ b, le-ltb _ _ c, lt-ltb _ _ h)

    -- then the records
    pub by_records : length s ≤ 32768 → calculate_of s nums dens places ≡ after_records (declarations_of s).end (declarations_of s).declared nums dens places
    unfolding calculate_of
    by_records h = rw (le-ltb _ _ a, le-ltb _ _ b, le-ltb _ _ c, le-ltb _ _ h)

    -- an input that is read to its end, and is not too long, is accepted
    pub accepted : length s ≤ 32768 → (declarations_of s).end ≡ Ok tt
        → (calculate_of s nums dens places).answer ≡ Ok (record { links = (declarations_of s).declared.links; sessions = (declarations_of s).declared.sessions })
    unfolding done_of
    accepted h e =
        ap (λ (o : Outcome). o.answer) (by_records h ∙ ap (λ (x : Result ⊤ Refused). after_records x (declarations_of s).declared nums dens places) e)

-- "The calculation then writes nothing": where the number of the answer is a refusal's, the three slices are as they were
abbrev Unwritten : List ℕ → List ℕ → List ℕ → Outcome → Type 0
Unwritten nums dens places o = 0 < (said_of o.answer).number → (o.nums ≡ nums) × (o.dens ≡ dens) × (o.places ≡ places)

after_unwritten : (e : Result ⊤ Refused) (d : Declared) (nums dens places : List ℕ) → Unwritten nums dens places (after_records e d nums dens places)
unfolding done_of
after_unwritten (Err r) d nums dens places h = (refl, refl, refl)
after_unwritten (Ok u) d nums dens places h = absurd (omega (arith, h))

pub refused_writes_nothing : (s nums dens places : List ℕ) → Unwritten nums dens places (calculate_of s nums dens places)
unfolding calculate_of
refused_writes_nothing s nums dens places =
    cases (Unwritten nums dens places) (ltb (length nums) 32 || (ltb (length dens) 32 || ltb (length places) 32)) _ _ (λ e h. (refl, refl, refl))
    (λ e.
    cases (Unwritten nums dens places) (ltb 32768 (length s)) _ _ (λ f h. (refl, refl, refl))
    (λ f. after_unwritten (declarations_of s).end (declarations_of s).declared nums dens places))

-- declarations of an input keep to the ranges that the calculation asks for
pub ranges_of : (s : List ℕ) → Bytes s → Ranges (declarations_of s).declared
ranges_of s bytes = let r = declarations_in_range s bytes in record { capacity = λ e h. r.capacity e; access = λ t h. r.access t }

-- the rates that are written are those of Figure 1
done_answer : (d : Declared) (nums dens places : List ℕ) → 32 ≤ length nums → 32 ≤ length dens
    → Answer (problem_of d) (λ t. frac (get_or (done_of d nums dens places).nums t 0) (get_or (done_of d nums dens places).dens t 0))
unfolding done_of results_of problem_of
done_answer d nums dens places a b =
    let f = figure1_answer (problem_of d) in
    let same : (t : ℕ) → Active (problem_of d) t → figure1_rate (problem_of d) t ≡ frac (get_or (done_of d nums dens places).nums t 0) (get_or (done_of d nums dens places).dens t 0) =
    λ t h.
    let m = eqb→eq (has t d.sessions) 1 h.1 in
    sym (ap₂ frac (written_at d.sessions (results_of d).nums nums t h.0 m a ∙ values_at 32 t _ 0 h.0) (written_at d.sessions (results_of d).dens dens t h.0 m b ∙ values_at 32 t _ 0 h.0)) in
    record {
      over = f.over;
      rates = f.rates;
      fair = f.fair;
      shown = λ t h. rw (← (same t h)) (f.shown t h);
      lowest = λ t h. rw (← (same t h)) (f.lowest t h);
    }

-- and the places are what binds at these rates
done_placed : (d : Declared) (nums dens places : List ℕ) → 32 ≤ length nums → 32 ≤ length dens → 32 ≤ length places
    → Placed d (λ t. frac (get_or (done_of d nums dens places).nums t 0) (get_or (done_of d nums dens places).dens t 0)) (λ t. get_or (done_of d nums dens places).places t 0)
unfolding done_of problem_of
done_placed d nums dens places a b c =
    let f = done_answer d nums dens places a b in
    record {
      answer = f;
      binds = λ t h.
          subst (Binds d f.over f.rates t) (sym (written_at d.sessions (results_of d).places places t h.0 (eqb→eq (has t d.sessions) 1 h.1) c))
          (results_bind d f.over f.rates f.fair t h.0 h);
    }

-- what an outcome must be
abbrev Right : List ℕ → Outcome → Type 0
Right s o = PlacesBind s o.answer o.nums o.dens o.places

after_right : (s nums dens places : List ℕ) → 32 ≤ length nums → 32 ≤ length dens → 32 ≤ length places → (e : Result ⊤ Refused)
    → Right s (after_records e (declarations_of s).declared nums dens places)
unfolding done_of
after_right s nums dens places a b c (Err r) = omega arith
after_right s nums dens places a b c (Ok u) = done_placed (declarations_of s).declared nums dens places a b c

-- an accepted input gets the rates that were ordered, and every declared session the place that binds it
pub calculate_binds : (s nums dens places : List ℕ) → Right s (calculate_of s nums dens places)
unfolding calculate_of
calculate_binds s nums dens places =
    cases (Right s) (ltb (length nums) 32 || (ltb (length dens) 32 || ltb (length places) 32)) _ _ (λ e. omega arith)
    (λ e.
    let n = or_false (ltb (length nums) 32) _ e in
    let d = or_false (ltb (length dens) 32) _ n.1 in
    cases (Right s) (ltb 32768 (length s)) _ _ (λ f. omega arith)
    (λ f. after_right s nums dens places (ltb-false _ _ n.0) (ltb-false _ _ d.0) (ltb-false _ _ d.1) (declarations_of s).end))

-- so does whoever answers and leaves what the definition says
pub binds_of : (s nums dens places : List ℕ) (r : Result Calculated Refused) (n d p : List ℕ) → r ≡ (calculate_of s nums dens places).answer
    → n ≡ (calculate_of s nums dens places).nums → d ≡ (calculate_of s nums dens places).dens → p ≡ (calculate_of s nums dens places).places → PlacesBind s r n d p
binds_of s nums dens places r n d p e f g h =
    let o = calculate_of s nums dens places in
    subst (λ (x : Result Calculated Refused). PlacesBind s x n d p) (sym e)
    (subst (λ (x : List ℕ). PlacesBind s o.answer x d p) (sym f)
    (subst (λ (x : List ℕ). PlacesBind s o.answer o.nums x p) (sym g)
    (subst (λ (x : List ℕ). PlacesBind s o.answer o.nums o.dens x) (sym h) (calculate_binds s nums dens places))))

binds_ordered : (s : List ℕ) (r : Result Calculated Refused) (n d p : List ℕ) → PlacesBind s r n d p → Ordered s r n d
binds_ordered s (Ok a) n d p b = b.answer
binds_ordered s (Err r) n d p b = b

pub ordered_of : (s nums dens places : List ℕ) (r : Result Calculated Refused) (n d : List ℕ) → r ≡ (calculate_of s nums dens places).answer
    → n ≡ (calculate_of s nums dens places).nums → d ≡ (calculate_of s nums dens places).dens → Ordered s r n d
ordered_of s nums dens places r n d e f g =
    binds_ordered s r n d (calculate_of s nums dens places).places (binds_of s nums dens places r n d (calculate_of s nums dens places).places e f g refl)

-- no second result is what was ordered: two answers of one accepted input have the same numerator and denominator for every declared session
pub ordered_unique : (s : List ℕ) (links sessions : ℕ) (n d n' d' : List ℕ)
    → Ordered s (Ok (record { links = links; sessions = sessions })) n d → Ordered s (Ok (record { links = links; sessions = sessions })) n' d'
    → (t : ℕ) → Active (problem_of (declarations_of s).declared) t → (get_or n t 0 ≡ get_or n' t 0) × (get_or d t 0 ≡ get_or d' t 0)
ordered_unique s links sessions n d n' d' a b t h =
    let e = answer_unique (problem_of (declarations_of s).declared) _ _ a b t h in
    (ap (λ (r : Rate). r.num) e, ap (λ (r : Rate). r.den) e)

-- nor does a second place bind: two such results of one accepted input have the same place for every declared session
pub places_unique : (s : List ℕ) (links sessions : ℕ) (n d p n' d' p' : List ℕ)
    → PlacesBind s (Ok (record { links = links; sessions = sessions })) n d p → PlacesBind s (Ok (record { links = links; sessions = sessions })) n' d' p'
    → (t : ℕ) → Active (problem_of (declarations_of s).declared) t → get_or p t 0 ≡ get_or p' t 0
places_unique s links sessions n d p n' d' p' a b t h =
    binds_unique (declarations_of s).declared a.answer.over a.answer.rates b.answer.over b.answer.rates a.answer.fair b.answer.fair t h
    (get_or p t 0) (get_or p' t 0) (a.binds t h) (b.binds t h)
