-- Bytes stored in a row: one list behind another, one more of a list of values, and a session's record part by part.
-- Assumes nothing.
use borrow.Rule.Slice.PartMut.{Post-is, put_mid}
use mathlib.Core.Bool.{Bool, cond, false, true}
use mathlib.Core.List.{List, [], ◌∷◌, ◌++◌, append_assoc}
use mathlib.Core.Path.{◌≡◌, ap, ap₂, refl, sym, ◌∙◌}
use Prim.Native.Nat.{ℕ, suc, ◌+◌, ◌-◌, ◌*◌, ◌/◌, ◌%◌, ◌^◌, ◌<◌, ◌≤◌}
use native.Mathlib.Numerals.{add-one}
use native.Mathlib.Omega.{arith}
use lib.ListN.{drop, length, length-set, set, take}
use lib.Seq.{length-sets, sets}
use Rattle.std.specs.Bool.{nat_lt}
use Rattle.std.specs.Int.{to_be_bytes, w32}
use Rattle.std.specs.List.{count_by, slice_range}
use Rattle.std.proofs.lemmas.Grind.{same_number_lists}
use Rattle.std.proofs.lemmas.List.Edits.{sets-eq}
use Rattle.fairness.specs.Figure1.{values}
use Rattle.fairness.specs.Sum.{part, sum}
use Rattle.fairness.proofs.Running.{values_at, values_last, values_long}
use Rattle.search.specs.Crossing.{byte_at}
use Rattle.search.proofs.Paths.{path_byte, path_length}
use Rattle.writing.specs.Writing.{bytes4, path_size, session_record}

pub sets_then : (p q l : List ℕ) (i : ℕ) → sets (sets l i p) (i + length p) q ≡ sets l i (p ++ q)
sets_then [] q l i = ap (λ (k : ℕ). sets l k q) {x = i + 0} {y = i} (omega arith)
sets_then (a ∷ p) q l i =
    ap (λ (k : ℕ). sets (sets (set l i a) (suc i) p) k q) {x = i + suc (length p)} {y = suc i + length p} (omega arith) ∙ sets_then p q (set l i a) (suc i)

pub sets_next : (l : List ℕ) (at h : ℕ) (f : ℕ → ℕ) → set (sets l at (values 0 h f)) (at + h) (f h) ≡ sets l at (values 0 (h + 1) f)
sets_next l at h f =
    ap (λ (k : ℕ). set (sets l at (values 0 h f)) (at + k) (f h)) (sym (values_long 0 h f))
    ∙ sets_then (values 0 h f) (f h ∷ []) l at
    ∙ ap (sets l at) (ap (λ (k : ℕ). values 0 h f ++ (f k ∷ [])) {x = h} {y = 0 + h} (omega arith) ∙ sym (values_last 0 h f) ∙ ap (λ (k : ℕ). values 0 k f) (sym (add-one h)))

-- a part of k bytes put in the place of those from `at` on
pub put_part : (l p q : List ℕ) (at k : ℕ) → p ≡ q → k ≡ length q → at + length q ≤ length l → put_mid at k l p ≡ sets l at q
put_part l p q at k e n h =
    ap₂ (λ (j : ℕ) (y : List ℕ). put_mid at j l y) {x = k} {y = at + length q - at} (omega arith) e
    ∙ ap (λ (z : List ℕ). take at l ++ (q ++ z)) (Post-is at (at + length q) l (omega arith))
    ∙ sym (append_assoc (take at l) q (drop (at + length q) l))
    ∙ sym (sets-eq q l at h)

-- the four bytes of a number, as the machine takes them
pub big_endian : (n : ℕ) → n < 4294967296 → to_be_bytes w32 n ≡ bytes4 n
big_endian n h =
    let one : n / 256 ^ 3 % 256 ≡ n / 256 / 256 / 256 = omega arith in
    let two : n / 256 ^ 2 % 256 ≡ n / 256 / 256 % 256 = omega arith in
    let three : n / 256 ^ 1 % 256 ≡ n / 256 % 256 = omega arith in
    ap₂ ◌∷◌ one (ap₂ ◌∷◌ two (ap₂ ◌∷◌ three refl))

-- the eight bytes of a path, as a part of all path bytes
pub path_part : (path : List ℕ) (t : ℕ) → t * 8 + 8 ≤ length path → slice_range path (t * 8) (t * 8 + 8) ≡ values 0 8 (byte_at path t)
unfolding values
path_part path t fits =
    let long = path_length path t fits in
    same_number_lists (slice_range path (t * 8) (t * 8 + 8)) (values 0 8 (byte_at path t)) long
    (λ h l. let k : h < 8 = omega (arith, l, long) in path_byte path t h k ∙ sym (values_at 8 h (byte_at path t) 0 k))

one_or_none : (b : Bool) → cond b 1 0 ≡ part b 1
one_or_none true = refl
one_or_none false = refl

-- how many of them are links
pub size_counted : (path : List ℕ) (t : ℕ) → t * 8 + 8 ≤ length path
    → count_by (λ e. nat_lt e 64) (slice_range path (t * 8) (t * 8 + 8)) ≡ path_size path t
unfolding values sum path_size
size_counted path t fits = ap (count_by (λ e. nat_lt e 64)) (path_part path t fits) ∙ simp one_or_none

-- a session's record, written part by part
module _ (l : List ℕ) (at t a m n : ℕ) (path : ℕ → ℕ) where
  abbrev first : List ℕ
  first = set (set l at 2) (at + 1) t

  abbrev second : List ℕ
  second = sets first (at + 2) (bytes4 a)

  abbrev third : List ℕ
  third = sets second (at + 6) (bytes4 m)

  pub first_long : length first ≡ length l
  first_long = length-set (set l at 2) (at + 1) t ∙ length-set l at 2

  pub second_long : length second ≡ length l
  second_long = length-sets first (at + 2) (bytes4 a) ∙ first_long

  pub third_long : length third ≡ length l
  third_long = length-sets second (at + 6) (bytes4 m) ∙ second_long

  pub session_laid : sets (set third (at + 10) n) (at + 11) (values 0 8 path) ≡ sets l at (session_record t a m n path)
  unfolding values
  session_laid =
      let tail : List ℕ = n ∷ values 0 8 path in
      let one : suc at ≡ at + 1 = omega arith in
      let two : suc (suc at) ≡ at + 2 = omega arith in
      let last : sets (set third (at + 10) n) (at + 11) (values 0 8 path) ≡ sets third (at + 10) tail =
      ap (λ (k : ℕ). sets (set third (at + 10) n) k (values 0 8 path)) {x = at + 11} {y = suc (at + 10)} (omega arith) in
      let middle : sets third (at + 10) tail ≡ sets second (at + 6) (bytes4 m ++ tail) =
      ap (λ (k : ℕ). sets third k tail) {x = at + 10} {y = at + 6 + 4} (omega arith) ∙ sets_then (bytes4 m) tail second (at + 6) in
      let front : sets second (at + 6) (bytes4 m ++ tail) ≡ sets first (at + 2) (bytes4 a ++ (bytes4 m ++ tail)) =
      ap (λ (k : ℕ). sets second k (bytes4 m ++ tail)) {x = at + 6} {y = at + 2 + 4} (omega arith) ∙ sets_then (bytes4 a) (bytes4 m ++ tail) first (at + 2) in
      last ∙ middle ∙ front ∙ rw (two, one) refl
