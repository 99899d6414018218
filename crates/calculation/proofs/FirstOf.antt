-- The first of a list that passes a test: one byte of a path more, that it passes and none before it does, and tests that agree.
-- Assumes nothing.
use mathlib.Core.Bool.{Bool, cond, false, true}
use mathlib.Core.List.{List, [], ◌∷◌}
use mathlib.Core.Path.{◌≡◌, refl, ap, subst, sym, ◌∙◌}
use Prim.Native.Nat.{ℕ, zero, suc, ◌+◌, ◌*◌, ◌<◌, ◌≤◌}
use native.Mathlib.Omega.{arith}
use lib.ListN.{length}
use Rattle.std.specs.Prelude.{Some}
use Rattle.std.specs.List.{find, slice_range}
use Rattle.std.specs.Option.{option_map_or}
use Rattle.std.proofs.lemmas.Grind.{same_number_lists}
use Rattle.fairness.specs.Figure1.{values}
use Rattle.fairness.proofs.Running.{values_at}
use Rattle.search.specs.Crossing.{byte_at}
use Rattle.search.proofs.Paths.{path_byte, path_length}
use Rattle.calculation.specs.Binding.{first_of, own, path_bytes}

-- what `find` finds is the first
pub find_first : (test : ℕ → Bool) (l : List ℕ) → option_map_or (λ e. e) (find test l) own ≡ first_of test l
unfolding first_of
find_first test [] = refl
find_first test (e ∷ l) = go (test e) (find_first test l)
  where
    go : (b : Bool) → option_map_or (λ e. e) (find test l) own ≡ first_of test l → option_map_or (λ e. e) (cond b (Some e) (find test l)) own ≡ cond b e (first_of test l)
    go true q = refl
    go false q = q

-- the eight bytes of a path, as a part of all path bytes
pub path_part : (path : List ℕ) (t : ℕ) → t * 8 + 8 ≤ length path → slice_range path (t * 8) (t * 8 + 8) ≡ path_bytes path t
unfolding values
path_part path t fits =
    let long = path_length path t fits in
    same_number_lists (slice_range path (t * 8) (t * 8 + 8)) (values 0 8 (byte_at path t)) long
    (λ h l. let k : h < 8 = omega (arith, l, long) in path_byte path t h k ∙ sym (values_at 8 h (byte_at path t) 0 k))

-- of the n values from i on, one that passes, before which none does, is the first
pub record First (test : ℕ → Bool) (f : ℕ → ℕ) (i n : ℕ) : Type 0 where
  pub at : ℕ
  pub within : at < n
  pub is : first_of test (values i n f) ≡ f (i + at)
  pub passes : test (f (i + at)) ≡ true
  pub before : (h : ℕ) → h < at → test (f (i + h)) ≡ false

-- where one of them passes there is a first
module _ (test : ℕ → Bool) (f : ℕ → ℕ) where
  here : (n i : ℕ) → test (f i) ≡ true → First test f i (suc n)
  unfolding first_of values
  here n i q =
      let s : i + 0 ≡ i = omega arith in
      record { at = 0; within = omega arith; is = rw (q, s); passes = rw s q; before = λ h l. absurd (omega arith) }

  later : (n i : ℕ) → test (f i) ≡ false → First test f (suc i) n → First test f i (suc n)
  unfolding first_of values
  later n i q r =
      let s : suc i + r.at ≡ i + suc r.at = omega arith in
      record {
        at = suc r.at;
        within = omega (arith, r.within);
        is = rw q (r.is ∙ ap f s);
        passes = ap (λ (k : ℕ). test (f k)) (sym s) ∙ r.passes;
        before = before;
      }
    where
      before : (h : ℕ) → h < suc r.at → test (f (i + h)) ≡ false
      before zero l = ap (λ (k : ℕ). test (f k)) {x = i + 0} {y = i} (omega arith) ∙ q
      before (suc h) l = ap (λ (k : ℕ). test (f k)) {x = i + suc h} {y = suc i + h} (omega arith) ∙ r.before h (omega arith)

  pub first_found : (n i h : ℕ) → h < n → test (f (i + h)) ≡ true → First test f i n
  first_found zero i h l e = absurd (omega arith)
  first_found (suc n) i zero l e = here n i (ap (λ (k : ℕ). test (f k)) {x = i} {y = i + 0} (omega arith) ∙ e)
  first_found (suc n) i (suc h) l e =
      go (test (f i)) refl (first_found n (suc i) h (omega arith) (ap (λ (k : ℕ). test (f k)) {x = suc i + h} {y = i + suc h} (omega arith) ∙ e))
    where
      go : (t : Bool) → test (f i) ≡ t → First test f (suc i) n → First test f i (suc n)
      go true q r = here n i q
      go false q r = later n i q r

-- tests that agree on the values find the same
pub first_cong : (t u : ℕ → Bool) (f : ℕ → ℕ) (n i : ℕ) → ((h : ℕ) → h < n → t (f (i + h)) ≡ u (f (i + h)))
    → first_of t (values i n f) ≡ first_of u (values i n f)
unfolding first_of values
first_cong t u f zero i same = refl
first_cong t u f (suc n) i same =
    let here : t (f i) ≡ u (f i) = subst (λ (k : ℕ). t (f k) ≡ u (f k)) {x = i + 0} {y = i} (omega arith) (same 0 (omega arith)) in
    let rest : first_of t (values (suc i) n f) ≡ first_of u (values (suc i) n f) =
    first_cong t u f n (suc i) (λ h l. subst (λ (k : ℕ). t (f k) ≡ u (f k)) {x = i + suc h} {y = suc i + h} (omega arith) (same (suc h) (omega arith))) in
    rw (here, rest)
