-- Words stored from a place on: what stands there after, and what stands elsewhere.
-- Assumes nothing.
use mathlib.Core.List.{List, [], ◌∷◌}
use mathlib.Core.Logic.{◌⊎◌, ⊎_elim}
use mathlib.Core.Path.{◌≡◌, ap, refl, sym, ◌∙◌}
use Prim.Native.Nat.{ℕ, zero, suc, ◌+◌, ◌-◌, ◌≤◌, ◌<◌}
use native.Mathlib.Nat.{eq-or-lt_of_le}
use native.Mathlib.Omega.{arith}
use lib.ListN.{get_or, length, length-set, set}
use lib.Seq.{get_or-set_other, get_or-set_same, paste}
use Rattle.std.specs.List.{CopiedTo, SameBelow, SameFrom}
use Rattle.std.proofs.lemmas.Bool.{cases_lt}
use Rattle.std.proofs.lemmas.List.{ext_get_or}
use Rattle.std.proofs.lemmas.List.Edits.{paste_more, paste_none}
use Rattle.table.specs.Words.{block_at, moved_up, put_block, store, store_from}

-- the place i is before the n places from a on, or behind them
abbrev pub Off : ℕ → ℕ → ℕ → Type 0
Off i a n = (i < a) ⊎ (a + n ≤ i)

-- the same words stand at the n places from a on
abbrev pub Agree : List ℕ → List ℕ → ℕ → ℕ → Type 0
Agree v w a n = (i : ℕ) → a ≤ i → i < a + n → get_or v i 0 ≡ get_or w i 0

-- A RUN OF WORDS ------------------------------------------------------------------------------------------------------

pub length_store_from : (vs w : List ℕ) (a k : ℕ) → length (store_from w a k vs) ≡ length w
length_store_from [] w a k = refl
length_store_from (v ∷ vs) w a k = length_store_from vs (set w (a + k) v) a (suc k) ∙ length-set w (a + k) v

pub length_store : (w : List ℕ) (a : ℕ) (vs : List ℕ) → length (store w a vs) ≡ length w
length_store w a [] = refl
length_store w a (v ∷ vs) = length_store_from vs (set w a v) a 1 ∙ length-set w a v

pub store_from_below : (vs w : List ℕ) (a k i : ℕ) → i < a + k → get_or (store_from w a k vs) i 0 ≡ get_or w i 0
store_from_below [] w a k i h = refl
store_from_below (v ∷ vs) w a k i h =
    store_from_below vs (set w (a + k) v) a (suc k) i (omega arith) ∙ get_or-set_other w (a + k) i v 0 (λ e. omega arith)

pub store_from_above : (vs w : List ℕ) (a k i : ℕ) → a + k + length vs ≤ i → get_or (store_from w a k vs) i 0 ≡ get_or w i 0
store_from_above [] w a k i h = refl
store_from_above (v ∷ vs) w a k i h =
    store_from_above vs (set w (a + k) v) a (suc k) i (omega arith) ∙ get_or-set_other w (a + k) i v 0 (λ e. omega arith)

pub store_off : (w : List ℕ) (a : ℕ) (vs : List ℕ) (i : ℕ) → Off i a (length vs) → get_or (store w a vs) i 0 ≡ get_or w i 0
store_off w a [] i h = refl
store_off w a (v ∷ vs) i h =
    ⊎_elim
    (λ l. store_from_below vs (set w a v) a 1 i (omega arith) ∙ get_or-set_other w a i v 0 (λ e. omega arith))
    (λ l. store_from_above vs (set w a v) a 1 i (omega arith) ∙ get_or-set_other w a i v 0 (λ e. omega arith))
    h

pub store_from_at : (vs w : List ℕ) (a k j : ℕ)
    → j < length vs
    → a + k + length vs ≤ length w
    → get_or (store_from w a k vs) (a + (k + j)) 0 ≡ get_or vs j 0
store_from_at [] w a k j h l = absurd (omega arith)
store_from_at (v ∷ vs) w a k zero h l =
    let p : a + (k + 0) ≡ a + k = omega arith in
    rw p (store_from_below vs (set w (a + k) v) a (suc k) (a + k) (omega arith) ∙ get_or-set_same w (a + k) v 0 (omega arith))
store_from_at (v ∷ vs) w a k (suc j) h l =
    let p : a + (k + suc j) ≡ a + (suc k + j) = omega arith in
    rw p (store_from_at vs (set w (a + k) v) a (suc k) j (omega arith) (rw length-set (omega arith)))

pub store_first : (w : List ℕ) (a v : ℕ) (vs : List ℕ) → a < length w → get_or (store w a (v ∷ vs)) a 0 ≡ v
store_first w a v vs h = store_from_below vs (set w a v) a 1 a (omega arith) ∙ get_or-set_same w a v 0 h

pub store_next : (w : List ℕ) (a v : ℕ) (vs : List ℕ) (j : ℕ)
    → j < length vs
    → a + 1 + length vs ≤ length w
    → get_or (store w a (v ∷ vs)) (a + (1 + j)) 0 ≡ get_or vs j 0
store_next w a v vs j h l = store_from_at vs (set w a v) a 1 j h (rw length-set l)

-- EIGHT WORDS ---------------------------------------------------------------------------------------------------------

pub block_agree : (v w : List ℕ) (a : ℕ) → Agree v w a 8 → block_at v a ≡ block_at w a
unfolding block_at
block_agree v w a h =
    rw (
      h a (omega arith) (omega arith),
      h (a + 1) (omega arith) (omega arith),
      h (a + 2) (omega arith) (omega arith),
      h (a + 3) (omega arith) (omega arith),
      h (a + 4) (omega arith) (omega arith),
      h (a + 5) (omega arith) (omega arith),
      h (a + 6) (omega arith) (omega arith),
      h (a + 7) (omega arith) (omega arith),
    )

-- eight words that stand eight places further on
pub block_shift : (v w : List ℕ) (a : ℕ)
    → ((j : ℕ) → a ≤ j → j < a + 8 → get_or v j 0 ≡ get_or w (j + 8) 0)
    → block_at v a ≡ block_at w (a + 8)
unfolding block_at
block_shift v w a h =
    let g : (t : ℕ) → t < 8 → get_or v (a + t) 0 ≡ get_or w (a + 8 + t) 0 =
    λ t m. h (a + t) (omega arith) (omega arith) ∙ ap (λ (k : ℕ). get_or w k 0) (omega arith) in
    rw (
      h a (omega arith) (omega arith),
      g 1 (omega arith),
      g 2 (omega arith),
      g 3 (omega arith),
      g 4 (omega arith),
      g 5 (omega arith),
      g 6 (omega arith),
      g 7 (omega arith),
    )

-- the first eight of a list
abbrev pub eight : List ℕ → List ℕ
eight b = get_or b 0 0 ∷ get_or b 1 0 ∷ get_or b 2 0 ∷ get_or b 3 0 ∷ get_or b 4 0 ∷ get_or b 5 0 ∷ get_or b 6 0 ∷ get_or b 7 0 ∷ []

pub put_block_off : (w : List ℕ) (a : ℕ) (b : List ℕ) (i : ℕ) → Off i a 8 → get_or (put_block w a b) i 0 ≡ get_or w i 0
unfolding put_block
put_block_off w a b i h = store_off w a (eight b) i h

pub length_put_block : (w : List ℕ) (a : ℕ) (b : List ℕ) → length (put_block w a b) ≡ length w
unfolding put_block
length_put_block w a b = length_store w a (eight b)

pub block_back : (w : List ℕ) (a : ℕ) (b : List ℕ) → a + 8 ≤ length w → block_at (put_block w a b) a ≡ eight b
unfolding block_at put_block
block_back w a b h =
    let v : ℕ = get_or b 0 0 in
    let vs : List ℕ = get_or b 1 0 ∷ get_or b 2 0 ∷ get_or b 3 0 ∷ get_or b 4 0 ∷ get_or b 5 0 ∷ get_or b 6 0 ∷ get_or b 7 0 ∷ [] in
    rw (
      store_first w a v vs (omega arith),
      store_next w a v vs 0 (omega arith) (omega arith),
      store_next w a v vs 1 (omega arith) (omega arith),
      store_next w a v vs 2 (omega arith) (omega arith),
      store_next w a v vs 3 (omega arith) (omega arith),
      store_next w a v vs 4 (omega arith) (omega arith),
      store_next w a v vs 5 (omega arith) (omega arith),
      store_next w a v vs 6 (omega arith) (omega arith),
    )

pub get_d_block : (w : List ℕ) (a i : ℕ) → i < 8 → get_or (block_at w a) i 0 ≡ get_or w (a + i) 0
unfolding block_at
get_d_block w a zero h = ap (λ (j : ℕ). get_or w j 0) (omega arith)
get_d_block w a (suc zero) h = refl
get_d_block w a (suc (suc zero)) h = refl
get_d_block w a (suc (suc (suc zero))) h = refl
get_d_block w a (suc (suc (suc (suc zero)))) h = refl
get_d_block w a (suc (suc (suc (suc (suc zero))))) h = refl
get_d_block w a (suc (suc (suc (suc (suc (suc zero)))))) h = refl
get_d_block w a (suc (suc (suc (suc (suc (suc (suc zero))))))) h = refl
get_d_block w a (suc (suc (suc (suc (suc (suc (suc (suc i)))))))) h = absurd (omega arith)

pub get_d_eight : (b : List ℕ) (i : ℕ) → i < 8 → get_or (eight b) i 0 ≡ get_or b i 0
get_d_eight b zero h = refl
get_d_eight b (suc zero) h = refl
get_d_eight b (suc (suc zero)) h = refl
get_d_eight b (suc (suc (suc zero))) h = refl
get_d_eight b (suc (suc (suc (suc zero)))) h = refl
get_d_eight b (suc (suc (suc (suc (suc zero))))) h = refl
get_d_eight b (suc (suc (suc (suc (suc (suc zero)))))) h = refl
get_d_eight b (suc (suc (suc (suc (suc (suc (suc zero))))))) h = refl
get_d_eight b (suc (suc (suc (suc (suc (suc (suc (suc i)))))))) h = absurd (omega arith)

-- each of the eight words
pub block_word : (w : List ℕ) (a : ℕ) (b : List ℕ) (i : ℕ) → i < 8 → a + 8 ≤ length w → get_or (put_block w a b) (a + i) 0 ≡ get_or b i 0
block_word w a b i h l =
    sym (get_d_block (put_block w a b) a i h) ∙ ap (λ (c : List ℕ). get_or c i 0) (block_back w a b l) ∙ get_d_eight b i h

-- eight words copied
module _ (w : List ℕ) (a : ℕ) (b : List ℕ) (l : length b ≡ 8) (h : a + 8 ≤ length w) where
  next : (i : ℕ) (v : List ℕ) → i < 8 → v ≡ paste w a b i → set v (a + i) (get_or b i 0) ≡ paste w a b (i + 1)
  next i v m e = ap (λ (z : List ℕ). set z (a + i) (get_or b i 0)) e ∙ paste_more w a b i 0 (omega arith) (omega arith)

  first : set w a (get_or b 0 0) ≡ paste w a b 1
  first = let q : a ≡ a + 0 = omega arith in ap (λ (k : ℕ). set w k (get_or b 0 0)) q ∙ next 0 w (omega arith) (paste_none w a b)

  pub block_pasted : put_block w a b ≡ paste w a b 8
  unfolding put_block
  block_pasted =
      next 7 _ (omega arith) (next 6 _ (omega arith) (next 5 _ (omega arith) (next 4 _ (omega arith) (next 3 _ (omega arith) (next 2 _ (omega arith) (next 1 _ (omega arith) first))))))

-- WORDS THAT MOVE UP BY EIGHT PLACES ----------------------------------------------------------------------------------

pub length_moved : (k : ℕ) (w : List ℕ) (j : ℕ) → length (moved_up k w j) ≡ length w
unfolding moved_up
length_moved zero w j = refl
length_moved (suc k) w j = length_moved k (set w j (get_or w (j + 8) 0)) (j + 1) ∙ length-set w j (get_or w (j + 8) 0)

pub moved_below : (k : ℕ) (w : List ℕ) (j i : ℕ) → i < j → get_or (moved_up k w j) i 0 ≡ get_or w i 0
unfolding moved_up
moved_below zero w j i h = refl
moved_below (suc k) w j i h =
    moved_below k (set w j (get_or w (j + 8) 0)) (j + 1) i (omega arith)
    ∙ get_or-set_other w j i (get_or w (j + 8) 0) 0 (λ e. omega arith)

pub moved_above : (k : ℕ) (w : List ℕ) (j i : ℕ) → j + k ≤ i → get_or (moved_up k w j) i 0 ≡ get_or w i 0
unfolding moved_up
moved_above zero w j i h = refl
moved_above (suc k) w j i h =
    moved_above k (set w j (get_or w (j + 8) 0)) (j + 1) i (omega arith)
    ∙ get_or-set_other w j i (get_or w (j + 8) 0) 0 (λ e. omega arith)

pub moved_at : (k : ℕ) (w : List ℕ) (j i : ℕ)
    → j ≤ i
    → i < j + k
    → j + k + 8 ≤ length w
    → get_or (moved_up k w j) i 0 ≡ get_or w (i + 8) 0
unfolding moved_up
moved_at zero w j i a b l = absurd (omega arith)
moved_at (suc k) w j i a b l =
    ⊎_elim
    (λ (e : j ≡ i).
    rw
    (← e)
    (moved_below k (set w j (get_or w (j + 8) 0)) (j + 1) j (omega arith) ∙ get_or-set_same w j (get_or w (j + 8) 0) 0 (omega arith)))
    (λ (e : j < i).
    moved_at k (set w j (get_or w (j + 8) 0)) (j + 1) i (omega arith) (omega arith) (rw length-set (omega arith))
    ∙ get_or-set_other w j (i + 8) (get_or w (j + 8) 0) 0 (λ q. omega arith))
    (eq-or-lt_of_le a)

-- what a copy of them leaves
pub moved_by_place : (w v : List ℕ) (j k : ℕ)
    → j + k + 8 ≤ length w
    → length v ≡ length w
    → CopiedTo w v (j + 8) j k
    → SameBelow w v j
    → SameFrom w v (j + k)
    → v ≡ moved_up k w j
moved_by_place w v j k h l copied below from =
    ext_get_or 0 v (moved_up k w j) (l ∙ sym (length_moved k w j))
    (λ i m.
    ⊎_elim
    (λ (a : i < j). below i 0 a ∙ sym (moved_below k w j i a))
    (λ (a : j ≤ i).
    ⊎_elim
    (λ (b : i < j + k).
    let p : j + 8 + (i - j) ≡ i + 8 = omega arith in
    copied i 0 a b ∙ ap (λ (n : ℕ). get_or w n 0) p ∙ sym (moved_at k w j i a b h))
    (λ (b : j + k ≤ i). from i 0 b ∙ sym (moved_above k w j i b))
    (cases_lt i (j + k)))
    (cases_lt i j))
