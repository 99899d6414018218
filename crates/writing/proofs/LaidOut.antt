-- The records of the members of a word, laid out one after the other from a place on: those of w that are no longer left.
-- Assumes nothing.
use mathlib.Core.Bool.{Bool, ◌&&◌, false, not}
use mathlib.Core.List.{List, [], ◌++◌}
use mathlib.Core.Logic.{◌⊎◌, inl, inr}
use mathlib.Core.Path.{◌≡◌, ap, ap₂, refl, subst, sym, ◌∙◌}
use Prim.Native.Nat.{ℕ, ◌+◌, ◌^◌, ◌<◌, ◌≤◌}
use native.Mathlib.Decide.{ℕ_discrete}
use native.Mathlib.Omega.{arith}
use lib.Dec.{eqb}
use lib.ListN.{length, length-append}
use lib.Seq.{sets}
use Rattle.fractions.proofs.Cases.{and_both, order}
use Rattle.sessions.specs.Set.{cut, has, has_of}
use Rattle.sessions.proofs.Members.{cut_le, has_cut_other, has_cut_same, has_or_not, has_zero}
use Rattle.writing.specs.Writing.{records_from}
use Rattle.writing.proofs.Laying.{sets_then}
use Rattle.writing.proofs.MoreRecords.{records_fewer, records_more, records_none, records_same}

-- in w, and no longer left
abbrev pub done : ℕ → ℕ → ℕ → Bool
done w left i = has_of i w && not (has_of i left)

pub record Laid (k : ℕ) (f : ℕ → List ℕ) (w left : ℕ) (l : List ℕ) (from at : ℕ) (out : List ℕ) : Type 0 where
  pub word : left < 2 ^ k
  pub part : (i : ℕ) → has i left ≡ 1 → has i w ≡ 1
  pub below : (i j : ℕ) → has i left ≡ 1 → has j w ≡ 1 → has j left ≡ 0 → j < i
  pub place : at ≡ from + length (records_from k 0 (done w left) f)
  pub bytes : out ≡ sets l from (records_from k 0 (done w left) f)

not_done : (w left i : ℕ) → (has i w ≡ 1 → has i left ≡ 0 → ⊥) → done w left i ≡ false
not_done w left i no_way = go (has_or_not i w) (has_or_not i left)
  where
    go : (has i w ≡ 0) ⊎ (has i w ≡ 1) → (has i left ≡ 0) ⊎ (has i left ≡ 1) → done w left i ≡ false
    go (inl a) b = rw a refl
    go (inr a) (inl b) = absurd (no_way a b)
    go (inr a) (inr b) = rw (a, b) refl

module _ (k : ℕ) (f : ℕ → List ℕ) (w : ℕ) (l : List ℕ) (from : ℕ) where
  -- all are left
  pub laid_none : w < 2 ^ k → Laid k f w w l from from l
  laid_none h =
      let e : records_from k 0 (done w w) f ≡ [] = records_none f k 0 (done w w) (λ i p q. not_done w w i (λ a b. omega (arith, a, b))) in
      record {
        word = h;
        part = λ i m. m;
        below = λ i j a b c. absurd (omega (arith, b, c));
        place = omega (arith, ap length e);
        bytes = ap (sets l from) (sym e);
      }

  module _ (left at : ℕ) (out : List ℕ) (r : Laid k f w left l from at out) (e : ℕ) (low : e < k) (here : has e left ≡ 1)
      (lowest : (i : ℕ) → i < e → has i left ≡ 0) where
    records_next : records_from k 0 (done w (cut e left)) f ≡ records_from k 0 (done w left) f ++ f e
    records_next =
        records_more f k 0 e (done w left) (done w (cut e left)) (omega arith) (omega arith)
        (λ i h. ap (λ (v : ℕ). has_of i w && not (eqb v 1)) (has_cut_other e i left (λ q. omega (arith, q))))
        (λ i h. not_done w left i (λ a b. omega (arith, h, r.below e i here a b)))
        (rw (r.part e here, has_cut_same e left) refl)
        (λ i h.
        not_done w (cut e left) i
        (λ a b. omega (arith, h, r.below e i here a (sym (has_cut_other e i left (λ q. omega (arith, q))) ∙ b))))

    -- the next record fits, where all fit
    pub laid_fits : at + length (f e) ≤ from + length (records_from k 0 (λ i. has_of i w) f)
    laid_fits =
        omega (
          arith,
          r.place,
          ap length records_next,
          length-append (records_from k 0 (done w left) f) (f e),
          records_fewer f k 0 (done w (cut e left)) (λ i. has_of i w) (λ i t. (and_both (has_of i w) _ t).0),
        )

    -- one record more
    pub laid_turn : (v : ℕ) → v ≡ cut e left → (out' : List ℕ) → out' ≡ sets out at (f e) → Laid k f w v l from (at + length (f e)) out'
    laid_turn v q out' o =
        subst (λ (y : ℕ). Laid k f w y l from (at + length (f e)) out') (sym q)
        (record {
          word = omega (arith, cut_le e left, r.word);
          part = λ i m. r.part i (was i m);
          below = λ i j a b c. below i j (was i a) b c (ℕ_discrete e j) (apart i a);
          place = omega (arith, r.place, ap length records_next, length-append (records_from k 0 (done w left) f) (f e));
          bytes =
              o
              ∙ ap₂ (λ (y : List ℕ) (z : ℕ). sets y z (f e)) r.bytes r.place
              ∙ sets_then (records_from k 0 (done w left) f) (f e) l from
              ∙ ap (sets l from) (sym records_next);
        })
      where
        apart : (i : ℕ) → has i (cut e left) ≡ 1 → e ≡ i → ⊥
        apart i a p = omega (arith, a, ap (λ (y : ℕ). has y (cut e left)) p, has_cut_same e left)

        was : (i : ℕ) → has i (cut e left) ≡ 1 → has i left ≡ 1
        was i a = sym (has_cut_other e i left (apart i a)) ∙ a

        -- e is the lowest that is left
        above : (i : ℕ) → has i left ≡ 1 → (e ≡ i → ⊥) → (i ≤ e) ⊎ (e < i) → e < i
        above i a p (inr h) = h
        above i a p (inl h) = absurd (omega (arith, a, lowest i (apart_lt i h p)))
          where
            apart_lt : (i : ℕ) → i ≤ e → (e ≡ i → ⊥) → i < e
            apart_lt i h p = omega arith

        below : (i j : ℕ) → has i left ≡ 1 → has j w ≡ 1 → has j (cut e left) ≡ 0 → Dec (e ≡ j) → (e ≡ i → ⊥) → j < i
        below i j a b c (no n) p = r.below i j a b (sym (has_cut_other e j left n) ∙ c)
        below i j a b c (yes s) p = omega (arith, s, above i a p (order i e))

  -- none is left
  pub laid_all : (left at : ℕ) (out : List ℕ) → left ≡ 0 → Laid k f w left l from at out → out ≡ sets l from (records_from k 0 (λ i. has_of i w) f)
  laid_all left at out z r =
      r.bytes ∙ ap (sets l from) (records_same k 0 (done w left) (λ i. has_of i w) f f (λ i. all i (has_or_not i w)) (λ i h t. refl))
    where
      all : (i : ℕ) → (has i w ≡ 0) ⊎ (has i w ≡ 1) → done w left i ≡ has_of i w
      all i (inl a) = rw a refl
      all i (inr a) = rw (a, ap (has i) z ∙ has_zero i) refl
