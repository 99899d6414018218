-- 01, refusal 14: the tests of links and entries after a write: they read the same words, or values that fit were written.
-- Assumes nothing.
use mathlib.Core.Bool.{true}
use mathlib.Core.List.{List, [], ◌∷◌}
use mathlib.Core.Logic.{inl}
use mathlib.Core.Path.{◌≡◌, ◌∙◌}
use Prim.Native.Nat.{ℕ, zero, suc, ◌+◌, ◌*◌, ◌≤◌, ◌<◌}
use native.Mathlib.Omega.{arith}
use borrow.Author.Tests.{le-leb}
use lib.ListN.{get_or, length}
use Rattle.fractions.specs.Fraction.{Within, max_rate}
use Rattle.fractions.proofs.Ranges.{within_is_rate}
use Rattle.links.specs.declared.Entry.{Entry}
use Rattle.links.specs.declared.Link.{Link}
use Rattle.links.specs.declared.Place.{Place}
use Rattle.ranges.specs.Ranges.{entry_fits, link_fits}
use Rattle.table.specs.Values.{LinkInRange}
use Rattle.table.specs.Words.{put_entry, put_link, put_place, put_row, store_entries}
use Rattle.table.specs.Codes.{mu_code}
use Rattle.links.specs.Links.{no_entry}
use Rattle.table.proofs.Codes.{mu_most}
use Rattle.table.proofs.Places.{entries_below, length_put_entry, length_put_link, put_row_off}
use Rattle.table.proofs.Store.{Agree, store_first, store_next}

pub link_fits_agree : (v w : List ℕ) (e : ℕ) → Agree v w (e * 3) 3 → link_fits v e ≡ link_fits w e
unfolding link_fits
link_fits_agree v w e h =
    rw (
      h (e * 3) (omega arith) (omega arith),
      h (e * 3 + 1) (omega arith) (omega arith),
      h (e * 3 + 2) (omega arith) (omega arith),
    )

pub entry_fits_agree : (v w : List ℕ) (e s : ℕ) → Agree v w (192 + e * 96 + s * 3) 3 → entry_fits v e s ≡ entry_fits w e s
unfolding entry_fits
entry_fits_agree v w e s h =
    let a : ℕ = 192 + e * 96 + s * 3 in
    rw (h a (omega arith) (omega arith), h (a + 1) (omega arith) (omega arith), h (a + 2) (omega arith) (omega arith))

pub link_fits_back : (w : List ℕ) (e : ℕ) (l : Link) → e * 3 + 3 ≤ length w → LinkInRange l → link_fits (put_link w e l) e ≡ true
unfolding link_fits put_link
link_fits_back w e l h g =
    let vs : List ℕ = l.r ∷ l.f ∷ [] in
    rw (
      store_first w (e * 3) l.capacity vs (omega arith),
      store_next w (e * 3) l.capacity vs 0 (omega arith) (omega arith),
      store_next w (e * 3) l.capacity vs 1 (omega arith) (omega arith),
      le-leb l.capacity max_rate g.capacity,
      le-leb l.r 4294967295 (omega (arith, g.r)),
      le-leb l.f 4294967295 (omega (arith, g.f)),
    )

-- the three words of the entry s of a row that is stored from a on
pub record Stored (v : List ℕ) (a : ℕ) (x : Entry) : Type 0 where
  pub state : get_or v a 0 ≡ mu_code x.mu
  pub num : get_or v (a + 1) 0 ≡ x.rate.num
  pub den : get_or v (a + 2) 0 ≡ x.rate.den

entry_stored : (w : List ℕ) (a : ℕ) (x : Entry) → a + 3 ≤ length w → Stored (put_entry w a x) a x
unfolding put_entry
entry_stored w a x h =
    let vs : List ℕ = x.rate.num ∷ x.rate.den ∷ [] in
    record {
      state = store_first w a (mu_code x.mu) vs (omega arith);
      num = store_next w a (mu_code x.mu) vs 0 (omega arith) (omega arith);
      den = store_next w a (mu_code x.mu) vs 1 (omega arith) (omega arith);
    }

entries_stored : (l : List Entry) (w : List ℕ) (a s : ℕ)
    → s < length l
    → a + length l * 3 ≤ length w
    → Stored (store_entries w a l) (a + s * 3) (get_or l s no_entry)
unfolding store_entries
entries_stored [] w a s m h = absurd (omega arith)
entries_stored (x ∷ l) w a zero m h =
    let v : List ℕ = put_entry w a x in
    let p : a + 0 * 3 ≡ a = omega arith in
    let q : Stored v a x = entry_stored w a x (omega arith) in
    rw p
    (record {
      state = entries_below l v (a + 3) a (omega arith) ∙ q.state;
      num = entries_below l v (a + 3) (a + 1) (omega arith) ∙ q.num;
      den = entries_below l v (a + 3) (a + 2) (omega arith) ∙ q.den;
    })
entries_stored (x ∷ l) w a (suc s) m h =
    let p : a + suc s * 3 ≡ a + 3 + s * 3 = omega arith in
    rw p (entries_stored l (put_entry w a x) (a + 3) s (omega arith) (rw length_put_entry (omega arith)))

pub entry_fits_back : (w : List ℕ) (e : ℕ) (es : List Entry) (s : ℕ)
    → 192 + e * 96 + 96 ≤ length w
    → length es ≡ 32
    → s < 32
    → Within max_rate (get_or es s no_entry).rate
    → entry_fits (put_row w e es) e s ≡ true
unfolding entry_fits put_row
entry_fits_back w e es s h n m g =
    let q : Stored (store_entries w (192 + e * 96) es) (192 + e * 96 + s * 3) (get_or es s no_entry) =
    entries_stored es w (192 + e * 96) s (omega arith) (omega arith) in
    rw (q.state, q.num, q.den, mu_most (get_or es s no_entry).mu) (within_is_rate g)

pub link_fits_place : (w : List ℕ) (e : ℕ) (p : Place)
    → length w ≡ 9153
    → e < 64
    → length p.entries ≡ 32
    → LinkInRange p.link
    → link_fits (put_place w e p) e ≡ true
unfolding put_place
link_fits_place w e p l h n g =
    let v : List ℕ = put_link w e p.link in
    link_fits_agree (put_row v e p.entries) v e (λ i a b. put_row_off v e p.entries i n (inl (omega arith)))
    ∙ link_fits_back w e p.link (omega arith) g

pub entry_fits_place : (w : List ℕ) (e : ℕ) (p : Place) (s : ℕ)
    → length w ≡ 9153
    → e < 64
    → length p.entries ≡ 32
    → s < 32
    → Within max_rate (get_or p.entries s no_entry).rate
    → entry_fits (put_place w e p) e s ≡ true
unfolding put_place
entry_fits_place w e p s l h n m g =
    let lv : length (put_link w e p.link) ≡ 9153 = length_put_link w e p.link ∙ l in
    entry_fits_back (put_link w e p.link) e p.entries s (omega arith) n m g
