-- One law for each turn of a loop over the words, one for its end, and one for what a chain answers.
-- Assumes nothing.
use mathlib.Core.Bool.{Bool, cond, true, false}
use mathlib.Core.List.{List}
use mathlib.Core.Path.{◌≡◌, ap, refl, sym, ◌∙◌}
use Prim.Native.Nat.{ℕ, zero, suc, ◌+◌, ◌*◌, ◌≤◌, ◌<◌}
use native.Mathlib.Numerals.{add-one}
use native.Mathlib.Omega.{arith}
use lib.Dec.{eqb}
use lib.ListN.{drop, drop_of_length-le, get_or, length}
use lib.Seq.{drop-cons}
use Rattle.std.specs.List.{position_from, range_with_len}
use Rattle.std.specs.declared.option.Option.{Option}
use Rattle.std.specs.declared.option.Option.TheVariants.{None, Some}
use Rattle.std.proofs.lemmas.List.{same_lists}
use Rattle.links.specs.declared.Entry.{Entry}
use Rattle.links.specs.Links.{no_entry}
use Rattle.table.specs.Words.{entries_from, entry_of, hop_from, hop_of, hops_of, path_of, put_entry, stop_of, stops_from, store_entries}

-- A ROW READ ----------------------------------------------------------------------------------------------------------

pub length_entries : (k : ℕ) (w : List ℕ) (a : ℕ) → length (entries_from k w a) ≡ k
unfolding entries_from
length_entries zero w a = refl
length_entries (suc k) w a = ap suc (length_entries k w (a + 3))

pub get_d_entries : (k h : ℕ) (w : List ℕ) (a : ℕ) (z : Entry) → h < k → get_or (entries_from k w a) h z ≡ entry_of w (a + h * 3)
unfolding entries_from
get_d_entries zero h w a z l = absurd (omega arith)
get_d_entries (suc k) zero w a z l = ap (entry_of w) (omega arith)
get_d_entries (suc k) (suc h) w a z l =
    let p : a + 3 + h * 3 ≡ a + suc h * 3 = omega arith in
    get_d_entries k h w (a + 3) z (omega arith) ∙ ap (entry_of w) p

-- the entry at each place
pub row_made : (row : List Entry) (w : List ℕ) (a : ℕ)
    → length row ≡ 32
    → ((h : ℕ) (z : Entry) → h < 32 → get_or row h z ≡ entry_of w (a + h * 3))
    → row ≡ entries_from 32 w a
row_made row w a l at =
    same_lists row (entries_from 32 w a) (l ∙ sym (length_entries 32 w a))
    (λ h z k. at h z (omega (arith, l)) ∙ sym (get_d_entries 32 h w a z (omega (arith, l))))

-- A ROW WRITTEN -------------------------------------------------------------------------------------------------------

pub put_turn : (w v : List ℕ) (b h : ℕ) (l : List Entry) (y : Entry)
    → h < length l
    → y ≡ get_or l h no_entry
    → v ≡ put_entry w (b + h * 3) y
    → store_entries w (b + h * 3) (drop h l) ≡ store_entries v (b + (h + 1) * 3) (drop (h + 1) l)
unfolding store_entries
put_turn w v b h l y m e f =
    let p : b + h * 3 + 3 ≡ b + (h + 1) * 3 = omega arith in
    rw (add-one h, drop-cons l h no_entry m, ← add-one h, ← p) (rw (f, e))

pub put_end : (w : List ℕ) (a h : ℕ) (l : List Entry) → length l ≤ h → store_entries w a (drop h l) ≡ w
unfolding store_entries
put_end w a h l m = rw (drop_of_length-le l m)

-- A PATH WALKED -------------------------------------------------------------------------------------------------------

-- the hop of the link at a place that was found, or 0
abbrev pub hop_given : Option ℕ → ℕ
hop_given None = 0
hop_given (Some i) = i + 1

given : (b : Bool) (i h : ℕ) (o : Option ℕ) → h ≡ hop_given o → cond b (suc i) h ≡ hop_given (cond b (Some i) o)
given true i h o e = sym (add-one i)
given false i h o e = e

hops_on : (w : List ℕ) (s e n i : ℕ)
    → hop_from (suc i) (stops_from n w s i) e ≡ hop_given (position_from (λ j. eqb (stop_of w s j) e) i (range_with_len i n))
unfolding hop_from stops_from
hops_on w s e zero i = refl
hops_on w s e (suc n) i =
    given (eqb (stop_of w s i) e) i (hop_from (suc (suc i)) (stops_from n w s (i + 1)) e) (position_from (λ j. eqb (stop_of w s j) e) (i + 1) (range_with_len (i + 1) n))
    (ap (λ (h : ℕ). hop_from h (stops_from n w s (i + 1)) e) (ap suc (sym (add-one i))) ∙ hops_on w s e n (i + 1))

pub hop_found : (w : List ℕ) (s e : ℕ) (o : Option ℕ)
    → o ≡ position_from (λ j. eqb (stop_of w s j) e) 0 (range_with_len 0 (hops_of w s))
    → hop_of w s e ≡ hop_given o
unfolding path_of
hop_found w s e o q = hops_on w s e (hops_of w s) 0 ∙ ap hop_given (sym q)
