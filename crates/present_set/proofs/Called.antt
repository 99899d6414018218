-- What the call comes to: its cases in the order of their tests, and what each answer means.
-- Assumes nothing.
use Rattle.std.specs.Prelude.{Result, Ok}
use mathlib.Core.Bool.{Bool, false, true}
use mathlib.Core.List.{List, ◌++◌}
use mathlib.Core.Logic.{◌⊎◌, inl, inr}
use mathlib.Core.Path.{◌≡◌, ap, refl, subst, sym, ◌∙◌}
use Prim.Native.Nat.{ℕ, ◌<◌, ◌≤◌}
use native.Mathlib.Omega.{arith}
use lib.ListN.{drop, get_or, length, take}
use lib.Seq.{drop_at, take_at}
use Rattle.fractions.proofs.Cases.{order}
use Rattle.fairness.proofs.Running.{values_below}
use Rattle.declarations.specs.Declaring.{declarations_of}
use Rattle.declarations.specs.declared.Declared.{Declared}
use Rattle.handed.specs.Handed.{passes14_of}
use Rattle.handed.specs.Passes.{Passes}
use Rattle.handed.proofs.Passing.{means_passes, passes_means}
use Rattle.records.specs.declared.Refusal.TheVariants as refusal
use Rattle.records.specs.declared.Refused.{Refused}
use Rattle.records.proofs.Somes.{clash}
use Rattle.table.proofs.InRange.{capacity_most, source_in_range_lem}
use Rattle.writing.specs.Sets.{SameSet}
use Rattle.writing.specs.Writing.{records_of}
use Rattle.writing.specs.Written.{Written, nothing_written, written, written_of}
use Rattle.writing.proofs.Lengths.{output_most}
use Rattle.writing.proofs.ReadBack.{read_back}
use Rattle.writing.proofs.Whole.{enough, too_short}
use Rattle.present_set.specs.Held.{declarations_in}
use Rattle.present_set.specs.Present.{Means, Present, present_of}
use Rattle.present_set.proofs.TableDeclarable.{table_declarable}

-- THE TABLE'S RATES, WHATEVER ITS WORDS SAY ---------------------------------------------------------------------------

module _ (w : List ℕ) where
  pub capacities_below : (e : ℕ) → get_or (declarations_in w).capacity e 0 < 4294967296
  unfolding declarations_in
  capacities_below = values_below 0 64 _ 4294967296 (omega arith) (λ e h. omega (arith, capacity_most w e))

  pub accesses_below : (t : ℕ) → get_or (declarations_in w).access t 0 < 4294967296
  unfolding declarations_in
  accesses_below = values_below 0 32 _ 4294967296 (omega arith) (λ t h. omega (arith, (source_in_range_lem w t).access))

  pub maxima_below : (t : ℕ) → get_or (declarations_in w).maximum t 0 < 4294967296
  unfolding declarations_in
  maxima_below = values_below 0 32 _ 4294967296 (omega arith) (λ t h. omega (arith, (source_in_range_lem w t).maximum))

-- 14, THEN 17 ---------------------------------------------------------------------------------------------------------

module _ (w out : List ℕ) where
  pub bad_table : passes14_of w ≡ false → present_of w out ≡ nothing_written refusal.BadTable out
  unfolding present_of
  bad_table e = rw e refl

  pub good_table : passes14_of w ≡ true → present_of w out ≡ written_of (declarations_in w) out
  unfolding present_of
  good_table e = rw e refl

-- WHAT AN ANSWER MEANS ------------------------------------------------------------------------------------------------

module _ (w out : List ℕ) where
  abbrev d : Declared
  d = declarations_in w

  abbrev s : List ℕ
  s = records_of (declarations_in w)

  abbrev Told : Written → Type 0
  Told o = Means w out o.bytes o.answer

  refused : passes14_of w ≡ false → Told (nothing_written refusal.BadTable out)
  refused e = record { place = refl; stays = refl; why = inl (refl, λ p. clash (passes14_of w) (means_passes w p) e) }

  module _ (ok : Passes w) where
    short : length out < length s → Told (nothing_written refusal.ShorterThanOutput out)
    short h = record { place = refl; stays = refl; why = inr (refl, ok, h) }

    whole : length s ≤ length out → Told (written s out)
    whole h =
        let front : take (length s) (s ++ drop (length s) out) ≡ s = take_at s (drop (length s) out) (length s) refl in
        let back = read_back d (table_declarable w ok) in
        record {
          passes = ok;
          fits = h;
          count = refl;
          bytes = front;
          stays = drop_at s (drop (length s) out) (length s) refl;
          taken = ap (λ (l : List ℕ). (declarations_of l).end) front ∙ back.0;
          same = subst (λ (l : List ℕ). SameSet d (declarations_of l).declared) (sym front) back.1;
        }

    told : (length s ≤ length out) ⊎ (length out < length s) → Told (written_of d out)
    told (inl h) = subst Told (sym (enough d out h)) (whole h)
    told (inr h) = subst Told (sym (too_short d out h)) (short h)

  pub present_means : Means w out (present_of w out).bytes (present_of w out).answer
  present_means = go (passes14_of w) refl
    where
      go : (b : Bool) → passes14_of w ≡ b → Told (present_of w out)
      go false e = subst Told (sym (bad_table w out e)) (refused e)
      go true e = subst Told (sym (good_table w out e)) (told (passes_means w e) (order (length s) (length out)))

  -- an answer and a slice that are the call's
  pub answer_means : (a : Result ℕ Refused) (after : List ℕ) → a ≡ (present_of w out).answer → after ≡ (present_of w out).bytes → Means w out after a
  answer_means a after p q =
      subst (λ (l : List ℕ). Means w out l a) (sym q) (subst (λ (x : Result ℕ Refused). Means w out (present_of w out).bytes x) (sym p) present_means)

-- never more than 992 bytes
pub written_most : (w out after : List ℕ) (a : Result ℕ Refused) (n : ℕ) → a ≡ Ok n → Means w out after a → n ≤ 992
written_most w out after a n e m =
    let p : Present w out after n = subst (Means w out after) e m in
    omega (arith, p.count, output_most (declarations_in w))
