-- Values by their number, and a word to which the numbers that pass a test are put.
-- Assumes nothing.
use mathlib.Core.Bool.{Bool, cond}
use mathlib.Core.List.{List, [], ◌∷◌, ◌++◌, map, map-id}
use mathlib.Core.Path.{◌≡◌, ap, refl, sym, ◌∙◌}
use Prim.Native.Nat.{ℕ, zero, suc, ◌+◌}
use native.Mathlib.Numerals.{add-one}
use native.Mathlib.Omega.{arith}
use Rattle.std.specs.List.{fold, range_with_len}
use Rattle.std.proofs.lemmas.List.FromFn.{map-range_with_len_more}
use Rattle.std.proofs.lemmas.List.Sums.{fold-append}
use Rattle.fairness.specs.Figure1.{values}
use Rattle.sessions.specs.Set.{put}
use Rattle.present_set.specs.Held.{word_of}

pub values_mapped : {A : Type 0} (i n : ℕ) (f : ℕ → A) → map f (range_with_len i n) ≡ values i n f
unfolding values
values_mapped i zero f = refl
values_mapped {A} i (suc n) f = ap (λ (l : List A). f i ∷ l) (ap (λ (k : ℕ). map f (range_with_len k n)) (add-one i) ∙ values_mapped (suc i) n f)

module _ (test : ℕ → Bool) where
  -- v has those of the numbers es that pass
  abbrev pub Put : List ℕ → ℕ → Type 0
  Put es v = v ≡ fold (λ v e. cond (test e) (put e v) v) 0 es

  pub put_next : (es : List ℕ) (e v n : ℕ) → n ≡ cond (test e) (put e v) v → Put es v → Put (es ++ (e ∷ [])) n
  put_next es e v n q h =
      q ∙ ap (λ (k : ℕ). cond (test e) (put e k) k) h ∙ sym (fold-append (λ v e. cond (test e) (put e v) v) 0 es (e ∷ []))

  below : (n : ℕ) → fold (λ v e. cond (test e) (put e v) v) 0 (range_with_len 0 n) ≡ word_of n test
  unfolding word_of
  below zero = refl
  below (suc n) =
      let h : ℕ → ℕ → ℕ = λ v e. cond (test e) (put e v) v in
      let r : range_with_len 0 (suc n) ≡ range_with_len 0 n ++ (n ∷ []) =
      sym (map-id (range_with_len 0 (suc n)))
      ∙ ap (λ (k : ℕ). map (λ (x : ℕ). x) (range_with_len 0 k)) (sym (add-one n))
      ∙ map-range_with_len_more (λ (x : ℕ). x) 0 n n (omega arith)
      ∙ ap (λ (l : List ℕ). l ++ (n ∷ [])) (map-id (range_with_len 0 n)) in
      ap (fold h 0) r ∙ fold-append h 0 (range_with_len 0 n) (n ∷ []) ∙ ap (λ (k : ℕ). cond (test n) (put n k) k) (below n)

  pub put_all : (n v : ℕ) → Put (range_with_len 0 n) v → v ≡ word_of n test
  put_all n v h = h ∙ below n
