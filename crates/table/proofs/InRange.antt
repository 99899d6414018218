-- What is read is within its range, whatever the words say.
-- Assumes nothing.
use mathlib.Core.List.{List}
use mathlib.Core.Path.{◌≡◌, ap, refl, ◌∙◌}
use Prim.Native.Nat.{ℕ, zero, suc, ◌+◌, ◌*◌, ◌≤◌, ◌<◌}
use native.Mathlib.Omega.{arith}
use borrow.Author.Tests.{le-leb, leb-true}
use lib.Dec.{eqb, leb}
use lib.ListN.{get_or, length}
use Rattle.fractions.specs.Fraction.{Sized, max_rate}
use Rattle.fractions.proofs.Cases.{cases}
use Rattle.fractions.proofs.Ranges.{kept_sized}
use Rattle.links.specs.declared.Entry.{Entry}
use Rattle.table.specs.Values.{EtaInRange, KindInRange, LinkInRange, PacketInRange, PlaceInRange, SourceInRange, ToldInRange}
use Rattle.table.specs.Words.{count_of, entry_of, hops_of, kind_of, link_of, packet_from, packet_of, path_of, place_of, row_of, source_from, source_of, stop_of, stops_from}
use Rattle.table.specs.Codes.{eta_of, field_of, told_of}
use Rattle.links.specs.Links.{Rates, no_entry}
use Rattle.table.proofs.Loops.{get_d_entries, length_entries}

-- FIELDS --------------------------------------------------------------------------------------------------------------

pub field_most : (most n : ℕ) → field_of most n ≤ most
unfolding field_of
field_most most n = cases (λ (x : ℕ). x ≤ most) (leb n most) n 0 (λ e. leb-true n most e) (λ e. omega arith)

pub field_below : (most m n : ℕ) → most < m → field_of most n < m
field_below most m n h = omega (arith, field_most most n)

-- a word within its range reads as it stands
pub field_same : (most n : ℕ) → n ≤ most → field_of most n ≡ n
unfolding field_of
field_same most n h = rw (le-leb n most h)

-- LINKS AND THEIR ENTRIES ---------------------------------------------------------------------------------------------

pub link_in_range : (w : List ℕ) (e : ℕ) → LinkInRange (link_of w e)
unfolding link_of
link_in_range w e = record {
  capacity = field_most max_rate (get_or w (e * 3) 0);
  r = omega (arith, field_most 4294967295 (get_or w (e * 3 + 1) 0));
  f = omega (arith, field_most 4294967295 (get_or w (e * 3 + 2) 0));
}

pub capacity_most : (w : List ℕ) (e : ℕ) → (link_of w e).capacity ≤ max_rate
capacity_most w e = (link_in_range w e).capacity

pub r_below : (w : List ℕ) (e : ℕ) → (link_of w e).r < 4294967296
r_below w e = (link_in_range w e).r

pub f_below : (w : List ℕ) (e : ℕ) → (link_of w e).f < 4294967296
f_below w e = (link_in_range w e).f

pub entry_rate : (w : List ℕ) (a : ℕ) → Sized max_rate (entry_of w a).rate
unfolding entry_of
entry_rate w a = kept_sized (get_or w (a + 1) 0) (get_or w (a + 2) 0)

pub row_length : (w : List ℕ) (e : ℕ) → length (row_of w e) ≡ 32
unfolding row_of
row_length w e = length_entries 32 w (192 + e * 96)

-- the entry of session s in the row of link e
pub row_entry : (w : List ℕ) (e s : ℕ) (z : Entry) → s < 32 → get_or (row_of w e) s z ≡ entry_of w (192 + e * 96 + s * 3)
unfolding row_of
row_entry w e s z h = get_d_entries 32 s w (192 + e * 96) z h

pub row_rates : (w : List ℕ) (e s : ℕ) → s < 32 → Sized max_rate (get_or (row_of w e) s no_entry).rate
row_rates w e s h = rw (row_entry w e s no_entry h) (entry_rate w (192 + e * 96 + s * 3))

pub row_in_range_lem : (w : List ℕ) (e : ℕ) → Rates (row_of w e)
row_in_range_lem w e = record { many = row_length w e; sized = row_rates w e }

pub place_in_range : (w : List ℕ) (e : ℕ) → PlaceInRange (place_of w e)
place_in_range w e = record { link = link_in_range w e; entries = row_in_range_lem w e }

-- SOURCES AND PATHS ---------------------------------------------------------------------------------------------------

pub told_in_range : (code n d : ℕ) → ToldInRange (told_of code n d)
unfolding told_of
told_in_range code n d = cases ToldInRange (eqb code 1) _ _ (λ e. kept_sized n d) (λ e. tt)

pub source_in_range_lem : (w : List ℕ) (s : ℕ) → SourceInRange (source_of w s)
unfolding source_of source_from
source_in_range_lem w s = record {
  access = field_most max_rate _;
  maximum = field_most max_rate _;
  rate = kept_sized _ _;
  told = told_in_range _ _ _;
}

pub hops_most : (w : List ℕ) (s : ℕ) → hops_of w s ≤ 8
unfolding hops_of
hops_most w s = field_most 8 (get_or w (6336 + s * 24 + 12) 0)

pub stop_below : (w : List ℕ) (s i : ℕ) → stop_of w s i < 64
unfolding stop_of
stop_below w s i = omega (arith, field_most 63 (get_or w (6336 + s * 24 + 16 + i) 0))

pub length_stops : (k : ℕ) (w : List ℕ) (s i : ℕ) → length (stops_from k w s i) ≡ k
unfolding stops_from
length_stops zero w s i = refl
length_stops (suc k) w s i = ap suc (length_stops k w s (i + 1))

pub get_d_stops : (k : ℕ) (w : List ℕ) (s i m z : ℕ) → m < k → get_or (stops_from k w s i) m z ≡ stop_of w s (i + m)
unfolding stops_from
get_d_stops zero w s i m z h = absurd (omega arith)
get_d_stops (suc k) w s i zero z h = ap (stop_of w s) (omega arith)
get_d_stops (suc k) w s i (suc m) z h =
    let p : i + 1 + m ≡ i + suc m = omega arith in
    get_d_stops k w s (i + 1) m z (omega arith) ∙ ap (stop_of w s) p

pub path_length : (w : List ℕ) (s : ℕ) → length (path_of w s) ≡ hops_of w s
unfolding path_of
path_length w s = length_stops (hops_of w s) w s 0

-- the link at place i of the path
pub path_stop : (w : List ℕ) (s i z : ℕ) → i < hops_of w s → get_or (path_of w s) i z ≡ stop_of w s i
unfolding path_of
path_stop w s i z h =
    let p : 0 + i ≡ i = omega arith in
    get_d_stops (hops_of w s) w s 0 i z h ∙ ap (stop_of w s) p

pub path_below : (w : List ℕ) (s i z : ℕ) → i < hops_of w s → get_or (path_of w s) i z < 64
path_below w s i z h = rw (path_stop w s i z h) (stop_below w s i)

-- PACKETS -------------------------------------------------------------------------------------------------------------

pub eta_in_range : (n : ℕ) → EtaInRange (eta_of n)
unfolding eta_of
eta_in_range n = cases EtaInRange (eqb n 64) _ _ (λ e. tt) (λ e. omega (arith, field_most 63 n))

pub kind_in_range : (b : List ℕ) → KindInRange (kind_of b)
unfolding kind_of
kind_in_range b =
    let x = kept_sized (get_or b 4 0) (get_or b 5 0) in
    let n = eta_in_range (get_or b 6 0) in
    cases KindInRange (eqb (get_or b 3 0) 1) _ _ (λ e. (x, n))
    (λ e. cases KindInRange (eqb (get_or b 3 0) 2) _ _ (λ e. (x, n))
    (λ e. cases KindInRange (eqb (get_or b 3 0) 3) _ _ (λ e. tt)
    (λ e. cases KindInRange (eqb (get_or b 3 0) 4) _ _ (λ e. tt)
    (λ e. cases KindInRange (eqb (get_or b 3 0) 5) _ _ (λ e. tt)
    (λ e. cases KindInRange (eqb (get_or b 3 0) 6) _ _ (λ e. tt) (λ e. (x, n)))))))

pub packet_in_range : (w : List ℕ) (i : ℕ) → PacketInRange (packet_of w i)
unfolding packet_of packet_from
packet_in_range w i = record {
  session = field_below 31 32 _ (omega arith);
  hop = field_most 9 _;
  kind = kind_in_range _;
}

pub session_below : (w : List ℕ) (i : ℕ) → (packet_of w i).session < 32
session_below w i = (packet_in_range w i).session

pub hop_most : (w : List ℕ) (i : ℕ) → (packet_of w i).hop ≤ 9
hop_most w i = (packet_in_range w i).hop

pub count_most : (w : List ℕ) → count_of w ≤ 256
unfolding count_of
count_most w = field_most 256 (get_or w 9152 0)
