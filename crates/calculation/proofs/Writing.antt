-- A slice in which the places of the sessions of a word are written: those places, the others, and values that agree on the word.
-- Assumes nothing.
use mathlib.Core.List.{List}
use mathlib.Core.Path.{◌≡◌, ap, refl, subst, sym, ◌∙◌}
use Prim.Native.Nat.{ℕ, ◌≤◌, ◌<◌}
use native.Mathlib.Decide.{ℕ_discrete}
use native.Mathlib.Omega.{arith}
use lib.ListN.{get_or, length, length-set, set}
use lib.Seq.{get_or-set_other, get_or-set_same}
use Rattle.sessions.specs.Set.{has}
use Rattle.sessions.proofs.Walks.{walk_cong, walk_keeps, walk_keeps_at, walk_makes}
use Rattle.calculation.specs.Calculating.{written}

module _ (v : List ℕ) where
  abbrev put_value : List ℕ → ℕ → List ℕ
  put_value l t = set l t (get_or v t 0)

-- the length stays
pub written_long : (w : ℕ) (v l : List ℕ) → length (written w v l) ≡ length l
unfolding written
written_long w v l = walk_keeps (λ (m : List ℕ). length m ≡ length l) (put_value v) 32 w (λ m t k q. length-set m t (get_or v t 0) ∙ q) l refl

-- the places of the sessions of the word are written
pub written_at : (w : ℕ) (v l : List ℕ) (t : ℕ) → t < 32 → has t w ≡ 1 → 32 ≤ length l → get_or (written w v l) t 0 ≡ get_or v t 0
unfolding written
written_at w v l t h m n =
    walk_makes Has (put_value v) 32 w t h m here (λ x j k q. there x j q (ℕ_discrete j t)) l (omega (arith, written_long w v l))
  where
    Has : List ℕ → Type 0
    Has x = t < length x → get_or x t 0 ≡ get_or v t 0

    here : (x : List ℕ) → Has (put_value v x t)
    here x k = get_or-set_same x t (get_or v t 0) 0 (omega (arith, length-set x t (get_or v t 0)))

    there : (x : List ℕ) (j : ℕ) → Has x → Dec (j ≡ t) → Has (put_value v x j)
    there x j q (yes e) = subst (λ (i : ℕ). Has (put_value v x i)) (sym e) (here x)
    there x j q (no d) = λ k. get_or-set_other x j t (get_or v j 0) 0 (λ e. d (sym e)) ∙ q (omega (arith, length-set x j (get_or v j 0)))

-- and no others
pub written_other : (w : ℕ) (v l : List ℕ) (t : ℕ) → has t w ≡ 0 → get_or (written w v l) t 0 ≡ get_or l t 0
unfolding written
written_other w v l t m =
    walk_keeps_at (λ (x : List ℕ). get_or x t 0 ≡ get_or l t 0) (put_value v) 32 w
    (λ x j k h q. get_or-set_other x j t (get_or v j 0) 0 (λ e. omega (arith, m, ap (λ (i : ℕ). has i w) e, h)) ∙ q) l refl

-- values that agree on the word leave the same
pub written_same : (w : ℕ) (v u l : List ℕ) → ((t : ℕ) → t < 32 → has t w ≡ 1 → get_or v t 0 ≡ get_or u t 0) → written w v l ≡ written w u l
unfolding written
written_same w v u l h = walk_cong (put_value v) (put_value u) 32 w (λ t k m l. ap (λ (x : ℕ). set l t x) (h t k m)) l
