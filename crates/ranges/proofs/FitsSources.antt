-- 01, refusal 14: the tests of sources and paths after a write: they read the same words, or values that fit were written.
-- Assumes nothing.
use Rattle.std.specs.Prelude.{None, Option, Some}
use mathlib.Core.Bool.{Bool, ◌&&◌, cond, false, true}
use mathlib.Core.List.{List, [], ◌∷◌}
use mathlib.Core.Logic.{inl, inr}
use mathlib.Core.Path.{◌≡◌, ap, refl, sym, ◌∙◌}
use Prim.Native.Nat.{ℕ, zero, suc, ◌+◌, ◌*◌, ◌≤◌, ◌<◌}
use native.Mathlib.Omega.{arith}
use borrow.Author.Tests.{le-leb, le-ltb, leb-true, lt-ltb}
use lib.Dec.{eqb, leb}
use lib.ListN.{get_or, length}
use lib.Seq.{get_or-set_same}
use Rattle.fractions.specs.Fraction.{frac, is_rate_of, max_rate}
use Rattle.fractions.proofs.Cases.{and_both}
use Rattle.fractions.proofs.Ranges.{within_is_rate}
use Rattle.ends.specs.declared.Source.{Source}
use Rattle.ranges.specs.Ranges.{flags_fit, numbers_fit, path_fits, rates_fit, source_fits, standing_fits, stops_fit}
use Rattle.table.specs.Values.{SourceWithin, ToldWithin}
use Rattle.table.specs.Words.{block_at, head_words, put_block, put_hops, put_path, put_rates, put_source}
use Rattle.table.specs.Codes.{bit_of, told_code, told_rate}
use Rattle.table.proofs.Codes.{bit_most, mu_most, told_most}
use Rattle.table.proofs.Places.{length_put_hops, length_put_path, put_hops_off, put_path_off, put_rates_off, put_source_off}
use Rattle.table.proofs.ReadBack.{rates_back}
use Rattle.table.proofs.Store.{Agree, block_agree, block_back, block_word, eight, get_d_block, length_put_block}
use Rattle.fractions.specs.declared.Rate.{Rate}

-- THE SAME WORDS ------------------------------------------------------------------------------------------------------

pub standing_fits_agree : (v w : List ℕ) (s : ℕ) → Agree v w (6336 + s * 24) 13 → standing_fits v s ≡ standing_fits w s
unfolding standing_fits
standing_fits_agree v w s h =
    rw (h (6336 + s * 24) (omega arith) (omega arith), h (6336 + s * 24 + 12) (omega arith) (omega arith))

stops_fit_agree : (k : ℕ) (v w : List ℕ) (s i : ℕ)
    → Agree v w (6336 + s * 24 + 16) 8
    → i + k ≤ 8
    → stops_fit k v s i ≡ stops_fit k w s i
unfolding stops_fit
stops_fit_agree zero v w s i h l = refl
stops_fit_agree (suc k) v w s i h l =
    rw (h (6336 + s * 24 + 16 + i) (omega arith) (omega arith), stops_fit_agree k v w s (i + 1) h (omega arith))

and_same : (t a b : Bool) → (t ≡ true → a ≡ b) → (t && a) ≡ (t && b)
and_same true a b f = f refl
and_same false a b f = refl

pub path_fits_agree : (v w : List ℕ) (s : ℕ) → Agree v w (6336 + s * 24 + 12) 12 → path_fits v s ≡ path_fits w s
unfolding path_fits
path_fits_agree v w s h =
    let n : ℕ = get_or w (6336 + s * 24 + 12) 0 in
    rw
    (h (6336 + s * 24 + 12) (omega arith) (omega arith))
    (and_same
    (leb n 8)
    (stops_fit n v s 0)
    (stops_fit n w s 0)
    (λ e. stops_fit_agree n v w s 0 (λ i a b. h i (omega arith) (omega arith)) (omega (arith, leb-true n 8 e))))

pub source_fits_agree : (v w : List ℕ) (s : ℕ) → Agree v w (6336 + s * 24) 24 → source_fits v s ≡ source_fits w s
unfolding source_fits
source_fits_agree v w s h =
    let a : ℕ = 6336 + s * 24 in
    rw (
      block_agree v w a (λ i m n. h i m (omega arith)),
      h (a + 7) (omega arith) (omega arith),
      block_agree v w (a + 8) (λ i m n. h i (omega arith) (omega arith)),
      path_fits_agree v w s (λ i m n. h i (omega arith) (omega arith)),
    )

-- WRITTEN -------------------------------------------------------------------------------------------------------------

told_test : (x : Option Rate)
    → ToldWithin x
    → cond (eqb (told_code x) 1) (is_rate_of (frac (told_rate x).num (told_rate x).den)) true ≡ true
told_test None h = refl
told_test (Some x) h = within_is_rate h

flags_fit_back : (z : Source) → flags_fit (eight (head_words z)) ≡ true
unfolding flags_fit head_words
flags_fit_back z =
    rw
    (bit_most z.active, bit_most z.free, bit_most z.updated, bit_most z.bottlenecked, told_most z.told)

numbers_fit_back : (z : Source) → SourceWithin z → numbers_fit (eight (head_words z)) ≡ true
unfolding numbers_fit head_words
numbers_fit_back z g =
    rw (
      lt-ltb 0 z.access g.joined,
      le-leb z.access max_rate g.access,
      le-leb z.maximum max_rate g.maximum,
      le-ltb z.access z.maximum g.line,
      mu_most z.mu,
    )

rates_fit_back : (z : Source) (rest : List ℕ)
    → SourceWithin z
    → rates_fit
    (told_code z.told)
    (z.rate.num ∷ z.rate.den ∷ (told_rate z.told).num ∷ (told_rate z.told).den ∷ rest)
    ≡ true
unfolding rates_fit
rates_fit_back z rest g = rw (within_is_rate g.rate) (told_test z.told g.told)

-- the two blocks of a source that is written
head_of : (w : List ℕ) (s : ℕ) (z : Source)
    → 6336 + s * 24 + 24 ≤ length w
    → block_at (put_source w s z) (6336 + s * 24) ≡ eight (head_words z)
unfolding put_source
head_of w s z h =
    let a : ℕ = 6336 + s * 24 in
    let v : List ℕ = put_block w a (head_words z) in
    block_agree
    (put_rates v (a + 8) z.rate (told_rate z.told))
    v
    a
    (λ i m n. put_rates_off v (a + 8) z.rate (told_rate z.told) i (inl (omega arith)))
    ∙ block_back w a (head_words z) (omega arith)

rates_of : (w : List ℕ) (s : ℕ) (z : Source)
    → 6336 + s * 24 + 24 ≤ length w
    → block_at (put_source w s z) (6336 + s * 24 + 8)
    ≡ z.rate.num
    ∷ z.rate.den
    ∷ (told_rate z.told).num
    ∷ (told_rate z.told).den
    ∷ get_or (put_source w s z) (6336 + s * 24 + 8 + 4) 0
    ∷ get_or (put_source w s z) (6336 + s * 24 + 8 + 5) 0
    ∷ get_or (put_source w s z) (6336 + s * 24 + 8 + 6) 0
    ∷ get_or (put_source w s z) (6336 + s * 24 + 8 + 7) 0
    ∷ []
unfolding put_source
rates_of w s z h =
    let v : List ℕ = put_block w (6336 + s * 24) (head_words z) in
    let n : length v ≡ length w = length_put_block w (6336 + s * 24) (head_words z) in
    rates_back v (6336 + s * 24 + 8) z.rate (told_rate z.told) (omega arith)

first_of : (z : Source) → get_or (head_words z) 0 0 ≡ bit_of z.active
unfolding head_words
first_of z = refl

last_of : (z : Source) → get_or (head_words z) 7 0 ≡ told_code z.told
unfolding head_words
last_of z = refl

pub source_fits_back : (w : List ℕ) (s : ℕ) (z : Source)
    → length w ≡ 9153
    → s < 32
    → SourceWithin z
    → path_fits w s ≡ true
    → source_fits (put_source w s z) s ≡ true
unfolding source_fits
source_fits_back w s z l h g f =
    let a : ℕ = 6336 + s * 24 in
    let u : List ℕ = put_source w s z in
    let p : block_at u a ≡ eight (head_words z) = head_of w s z (omega arith) in
    let q : get_or u (a + 7) 0 ≡ told_code z.told =
    sym (get_d_block u a 7 (omega arith)) ∙ ap (λ (b : List ℕ). get_or b 7 0) p ∙ last_of z in
    let r : path_fits u s ≡ true = path_fits_agree u w s (λ i m n. put_source_off w s z i (inr (omega arith))) ∙ f in
    rw
    (p, q, rates_of w s z (omega arith), flags_fit_back z, numbers_fit_back z g, r)
    (rw (rates_fit_back z _ g))

pub standing_fits_source : (w : List ℕ) (s : ℕ) (z : Source)
    → length w ≡ 9153
    → s < 32
    → standing_fits w s ≡ true
    → standing_fits (put_source w s z) s ≡ true
unfolding standing_fits
standing_fits_source w s z l h f =
    let a : ℕ = 6336 + s * 24 in
    let u : List ℕ = put_source w s z in
    let e = and_both (leb (get_or w a 0) 1) (leb (get_or w (a + 12) 0) 8) f in
    let p : get_or u a 0 ≡ bit_of z.active =
    ap (λ (k : ℕ). get_or u k 0) {x = a} {y = a + 0} (omega arith)
    ∙ sym (get_d_block u a 0 (omega arith))
    ∙ ap (λ (b : List ℕ). get_or b 0 0) (head_of w s z (omega arith))
    ∙ first_of z in
    rw (p, put_source_off w s z (a + 12) (inr (omega arith)), bit_most z.active) e.1

hops_word : (w : List ℕ) (s n : ℕ) → 6336 + s * 24 + 24 ≤ length w → get_or (put_hops w s n) (6336 + s * 24 + 12) 0 ≡ n
unfolding put_hops
hops_word w s n h = get_or-set_same w (6336 + s * 24 + 12) n 0 (omega arith)

path_word : (w : List ℕ) (s : ℕ) (bytes : List ℕ) (at j : ℕ)
    → 6336 + s * 24 + 24 ≤ length w
    → j < 8
    → get_or (put_path w s bytes at) (6336 + s * 24 + 16 + j) 0 ≡ get_or bytes (at + j) 0
unfolding put_path
path_word w s bytes at j h m = block_word w (6336 + s * 24 + 16) (block_at bytes at) j m (omega arith) ∙ get_d_block bytes at j m

stops_fit_all : (k : ℕ) (w : List ℕ) (s i : ℕ)
    → ((j : ℕ) → i ≤ j → j < i + k → get_or w (6336 + s * 24 + 16 + j) 0 ≤ 63)
    → stops_fit k w s i ≡ true
unfolding stops_fit
stops_fit_all zero w s i h = refl
stops_fit_all (suc k) w s i h =
    rw
    (le-leb (get_or w (6336 + s * 24 + 16 + i) 0) 63 (h i (omega arith) (omega arith)))
    (stops_fit_all k w s (i + 1) (λ j a b. h j (omega arith) (omega arith)))

pub standing_fits_hops : (w : List ℕ) (s n : ℕ)
    → length w ≡ 9153
    → s < 32
    → n ≤ 8
    → standing_fits w s ≡ true
    → standing_fits (put_hops w s n) s ≡ true
unfolding standing_fits
standing_fits_hops w s n l h m f =
    let a : ℕ = 6336 + s * 24 in
    let e = and_both (leb (get_or w a 0) 1) (leb (get_or w (a + 12) 0) 8) f in
    rw (put_hops_off w s n a (inl (omega arith)), hops_word w s n (omega arith), e.0) (le-leb n 8 m)

-- a path whose words are bytes of links
path_fits_words : (u : List ℕ) (s n : ℕ) (bytes : List ℕ) (at : ℕ)
    → n ≤ 8
    → get_or u (6336 + s * 24 + 12) 0 ≡ n
    → ((j : ℕ) → j < n → get_or u (6336 + s * 24 + 16 + j) 0 ≡ get_or bytes (at + j) 0)
    → ((i : ℕ) → i < n → get_or bytes (at + i) 0 < 64)
    → path_fits u s ≡ true
unfolding path_fits
path_fits_words u s n bytes at m p q g =
    rw
    (p, le-leb n 8 m)
    (stops_fit_all n u s 0 (λ j a b. rw (q j (omega arith)) (omega (arith, g j (omega arith)))))

pub path_fits_back : (w : List ℕ) (s n : ℕ) (bytes : List ℕ) (at : ℕ)
    → length w ≡ 9153
    → s < 32
    → n ≤ 8
    → ((i : ℕ) → i < n → get_or bytes (at + i) 0 < 64)
    → path_fits (put_path (put_hops w s n) s bytes at) s ≡ true
path_fits_back w s n bytes at l h m g =
    let v : List ℕ = put_hops w s n in
    let lv : length v ≡ 9153 = length_put_hops w s n ∙ l in
    path_fits_words
    (put_path v s bytes at)
    s
    n
    bytes
    at
    m
    (put_path_off v s bytes at (6336 + s * 24 + 12) (inl (omega arith)) ∙ hops_word w s n (omega arith))
    (λ j k. path_word v s bytes at j (omega arith) (omega arith))
    g

-- and the other way round
pub path_fits_back_hops_last : (w : List ℕ) (s n : ℕ) (bytes : List ℕ) (at : ℕ)
    → length w ≡ 9153
    → s < 32
    → n ≤ 8
    → ((i : ℕ) → i < n → get_or bytes (at + i) 0 < 64)
    → path_fits (put_hops (put_path w s bytes at) s n) s ≡ true
path_fits_back_hops_last w s n bytes at l h m g =
    let v : List ℕ = put_path w s bytes at in
    let lv : length v ≡ 9153 = length_put_path w s bytes at ∙ l in
    path_fits_words
    (put_hops v s n)
    s
    n
    bytes
    at
    m
    (hops_word v s n (omega arith))
    (λ j k.
    put_hops_off v s n (6336 + s * 24 + 16 + j) (inr (omega arith)) ∙ path_word w s bytes at j (omega arith) (omega arith))
    g
