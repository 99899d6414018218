-- Bytes copied into a list: its length stays, they stand where they were copied to, and every other place is as it was.
-- Assumes nothing.
use mathlib.Core.List.{List}
use mathlib.Core.Logic.{◌⊎◌, inl, inr}
use mathlib.Core.Path.{◌≡◌, ap, ap₂, refl, sym, ◌∙◌}
use Prim.Native.Nat.{ℕ, zero, suc, ◌+◌, ◌-◌, ◌<◌, ◌≤◌}
use native.Mathlib.Numerals.{add-one}
use native.Mathlib.Omega.{arith}
use lib.ListN.{get_or, length, length-set, set}
use lib.Seq.{get_or-set_other, get_or-set_same, paste}
use Rattle.std.specs.List.{slice_range}
use Rattle.std.proofs.Common.{length-drop, length-take, get_or-drop, get_or-take}
use Rattle.std.proofs.lemmas.List.Edits.{paste_more, paste_none}
use Rattle.fractions.proofs.Cases.{last}
use Rattle.declarations.specs.Declaring.{copied}

pub copied_long : (k : ℕ) (l : List ℕ) (from : ℕ) (s : List ℕ) (at : ℕ) → length (copied k l from s at) ≡ length l
unfolding copied
copied_long zero l from s at = refl
copied_long (suc k) l from s at = length-set (copied k l from s at) (from + k) _ ∙ copied_long k l from s at

pub copied_other : (k : ℕ) (l : List ℕ) (from : ℕ) (s : List ℕ) (at i : ℕ) → (i < from) ⊎ (from + k ≤ i) → get_or (copied k l from s at) i 0 ≡ get_or l i 0
unfolding copied
copied_other zero l from s at i h = refl
copied_other (suc k) l from s at i (inl h) =
    get_or-set_other (copied k l from s at) (from + k) i _ 0 (λ q. omega (arith, q)) ∙ copied_other k l from s at i (inl h)
copied_other (suc k) l from s at i (inr h) =
    get_or-set_other (copied k l from s at) (from + k) i _ 0 (λ q. omega (arith, q)) ∙ copied_other k l from s at i (inr (omega arith))

pub copied_there : (k : ℕ) (l : List ℕ) (from : ℕ) (s : List ℕ) (at h : ℕ) → h < k → from + k ≤ length l → get_or (copied k l from s at) (from + h) 0 ≡ get_or s (at + h) 0
unfolding copied
copied_there zero l from s at h i f = absurd (omega arith)
copied_there (suc k) l from s at h i f = go (last i) (λ j. copied_there k l from s at h j (omega arith))
  where
    go : (h < k) ⊎ (h ≡ k) → (h < k → get_or (copied k l from s at) (from + h) 0 ≡ get_or s (at + h) 0)
        → get_or (set (copied k l from s at) (from + k) (get_or s (at + k) 0)) (from + h) 0 ≡ get_or s (at + h) 0
    go (inl j) more = get_or-set_other (copied k l from s at) (from + k) (from + h) _ 0 (λ q. omega (arith, q)) ∙ more j
    go (inr q) more =
        ap (λ (v : ℕ). get_or (set (copied k l from s at) (from + k) (get_or s (at + k) 0)) (from + v) 0) q
        ∙ get_or-set_same (copied k l from s at) (from + k) _ 0 (omega (arith, copied_long k l from s at))
        ∙ ap (λ (v : ℕ). get_or s (at + v) 0) (sym q)

-- the bytes b, which stand there
pub copied_pasted : (k : ℕ) (l : List ℕ) (from : ℕ) (s : List ℕ) (at : ℕ) (b : List ℕ) → k ≤ length b → from + k ≤ length l
    → ((i : ℕ) → i < k → get_or b i 0 ≡ get_or s (at + i) 0) → copied k l from s at ≡ paste l from b k
unfolding copied
copied_pasted zero l from s at b h f same = paste_none l from b
copied_pasted (suc k) l from s at b h f same =
    ap₂ (λ (z : List ℕ) (v : ℕ). set z (from + k) v) (copied_pasted k l from s at b (omega arith) (omega arith) (λ i j. same i (omega arith))) (sym (same k (omega arith)))
    ∙ rw (← add-one) (paste_more l from b k 0 (omega arith) (omega arith))

-- eight bytes of s, as a part of it
eight : (at : ℕ) → at + 8 - at ≡ 8
eight at = omega arith

pub eight_long : (s : List ℕ) (at : ℕ) → at + 8 ≤ length s → length (slice_range s at (at + 8)) ≡ 8
eight_long s at fits = rw (eight at) (simp (length-take, length-drop) (omega arith))

pub eight_bytes : (s : List ℕ) (at i : ℕ) → i < 8 → get_or (slice_range s at (at + 8)) i 0 ≡ get_or s (at + i) 0
eight_bytes s at i h = rw (eight at, get_or-take, get_or-drop)
