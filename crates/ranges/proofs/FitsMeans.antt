-- 01, refusal 14: where a test passes, what is read there is what the words say, with rates in lowest terms.
-- Assumes nothing.
use Rattle.std.specs.Prelude.{None, Option, Some}
use mathlib.Core.Bool.{Bool, ◌&&◌, cond, not, true}
use mathlib.Core.List.{List}
use mathlib.Core.Path.{◌≡◌, ap, refl, subst, sym, ◌∙◌}
use Prim.Native.Nat.{ℕ, zero, suc, ◌+◌, ◌*◌, ◌<◌}
use native.Mathlib.Omega.{arith}
use borrow.Author.Tests.{leb-true, ltb-false, ltb-true, ne_eqb}
use lib.Dec.{eqb, leb}
use lib.ListN.{get_or}
use Rattle.fractions.specs.Fraction.{Within, frac, is_rate_of, kept_of, max_rate}
use Rattle.fractions.proofs.Cases.{and_both, cases, not_true}
use Rattle.fractions.proofs.Ranges.{is_rate_within, kept_same, within_sized}
use Rattle.records.specs.Limits.{above_line}
use Rattle.tasks.specs.declared.Kind.{Kind}
use Rattle.tasks.specs.declared.Kind.TheVariants as kind
use Rattle.tasks.specs.declared.Packet.{Packet}
use Rattle.ends.specs.declared.Source.{Source}
use Rattle.ranges.specs.Ranges.{count_fits, entry_fits, flags_fit, kind_fits, link_fits, numbers_fit, packet_fits, path_fits, rated_fits, rates_fit, source_fits, standing_fits, words_fit}
use Rattle.table.specs.Values.{EtaInRange, KindInRange, KindWithin, PacketInRange, PacketWithin, SourceInRange, SourceWithin, ToldInRange, ToldWithin}
use Rattle.table.specs.Words.{block_at, count_of, entry_of, hops_of, kind_of, link_of, packet_from, packet_of, row_of, source_from, source_of}
use Rattle.table.specs.Codes.{eta_of, told_of}
use Rattle.links.specs.Links.{no_entry}
use Rattle.table.proofs.InRange.{eta_in_range, field_same, packet_in_range, row_entry, source_in_range_lem}
use Rattle.fractions.specs.declared.Rate.{Rate}

-- WITHIN IS IN RANGE --------------------------------------------------------------------------------------------------

pub told_within : (x : Option Rate) → ToldWithin x → ToldInRange x
told_within None h = tt
told_within (Some x) h = within_sized h

pub source_within : {z : Source} → SourceWithin z → SourceInRange z
source_within {z} h =
    record { access = h.access; maximum = h.maximum; rate = within_sized h.rate; told = told_within z.told h.told }

pub kind_within : (k : Kind) → KindWithin k → KindInRange k
kind_within (kind.Join x n) h = (within_sized h.0, h.1)
kind_within (kind.Probe x n) h = (within_sized h.0, h.1)
kind_within (kind.Response t x n) h = (within_sized h.0, h.1)
kind_within kind.Update h = tt
kind_within kind.Bottleneck h = tt
kind_within (kind.SetBottleneck beta) h = tt
kind_within kind.Leave h = tt

pub packet_within : {p : Packet} → PacketWithin p → PacketInRange p
packet_within {p} h = record { session = h.session; hop = h.hop; kind = kind_within p.kind h.kind }

-- COUNTS, LINKS AND ENTRIES -------------------------------------------------------------------------------------------

kept_within : (n d : ℕ) → is_rate_of (frac n d) ≡ true → Within max_rate (kept_of n d)
kept_within n d e =
    let q : Within max_rate (frac n d) = is_rate_within e in
    subst (Within max_rate) (sym (kept_same (within_sized q))) q

pub count_fits_means : (w : List ℕ) → count_fits w ≡ true → count_of w ≡ get_or w 9152 0
unfolding count_fits count_of
count_fits_means w e = field_same 256 (get_or w 9152 0) (leb-true (get_or w 9152 0) 256 e)

pub link_fits_means : (w : List ℕ) (e : ℕ)
    → link_fits w e ≡ true
    → link_of w e ≡ record { capacity = get_or w (e * 3) 0; r = get_or w (e * 3 + 1) 0; f = get_or w (e * 3 + 2) 0 }
unfolding link_fits link_of
link_fits_means w e h =
    let p = and_both _ _ h in
    let q = and_both _ _ p.1 in
    rw (
      field_same max_rate (get_or w (e * 3) 0) (leb-true _ _ p.0),
      field_same 4294967295 (get_or w (e * 3 + 1) 0) (leb-true _ _ q.0),
      field_same 4294967295 (get_or w (e * 3 + 2) 0) (leb-true _ _ q.1),
    )

pub entry_fits_means : (w : List ℕ) (e s : ℕ)
    → s < 32
    → entry_fits w e s ≡ true
    → Within max_rate (get_or (row_of w e) s no_entry).rate
unfolding entry_fits entry_of
entry_fits_means w e s l h =
    let a : ℕ = 192 + e * 96 + s * 3 in
    let p = and_both (leb (get_or w a 0) 2) _ h in
    rw (row_entry w e s no_entry l) (kept_within (get_or w (a + 1) 0) (get_or w (a + 2) 0) p.1)

-- SOURCES -------------------------------------------------------------------------------------------------------------

told_fits : (code n d : ℕ) → cond (eqb code 1) (is_rate_of (frac n d)) true ≡ true → ToldWithin (told_of code n d)
unfolding told_of
told_fits code n d =
    λ h.
    cases
    ToldWithin
    (eqb code 1)
    (Some (kept_of n d))
    None
    (λ e. kept_within n d (ap (λ (t : Bool). cond t (is_rate_of (frac n d)) true) (sym e) ∙ h))
    (λ e. tt)

pub source_fits_means : (w : List ℕ) (s : ℕ) → source_fits w s ≡ true → SourceWithin (source_of w s)
unfolding source_fits numbers_fit rates_fit source_of source_from block_at
source_fits_means w s h =
    let a : ℕ = 6336 + s * 24 in
    let b : List ℕ = block_at w a in
    let f = and_both (flags_fit b) _ h in
    let p = and_both (numbers_fit b) _ f.1 in
    let n = and_both _ _ p.0 in
    let m = and_both _ (leb (get_or w (a + 2) 0) max_rate && (not (above_line (get_or w (a + 1) 0) (get_or w (a + 2) 0)) && leb (get_or w (a + 4) 0) 2)) n.1 in
    let k = and_both (leb (get_or w (a + 2) 0) max_rate) (not (above_line (get_or w (a + 1) 0) (get_or w (a + 2) 0)) && leb (get_or w (a + 4) 0) 2) m.1 in
    let l = and_both (not (above_line (get_or w (a + 1) 0) (get_or w (a + 2) 0))) (leb (get_or w (a + 4) 0) 2) k.1 in
    let q = and_both _ (path_fits w s) p.1 in
    let r = and_both _ _ q.0 in
    let i : SourceInRange (source_of w s) = source_in_range_lem w s in
    record {
      joined = rw (field_same max_rate (get_or w (a + 1) 0) (leb-true _ _ m.0)) (ltb-true _ _ n.0);
      access = i.access;
      maximum = i.maximum;
      line =
          rw
          (field_same max_rate (get_or w (a + 1) 0) (leb-true _ _ m.0), field_same max_rate (get_or w (a + 2) 0) (leb-true _ _ k.0))
          (ltb-false _ _ (not_true _ l.0));
      rate = kept_within (get_or w (a + 8) 0) (get_or w (a + 8 + 1) 0) r.0;
      told = told_fits (get_or w (a + 7) 0) (get_or w (a + 8 + 2) 0) (get_or w (a + 8 + 3) 0) r.1;
    }

pub standing_fits_means : (w : List ℕ) (s : ℕ) → standing_fits w s ≡ true → hops_of w s ≡ get_or w (6336 + s * 24 + 12) 0
unfolding standing_fits hops_of
standing_fits_means w s h =
    let p = and_both (leb (get_or w (6336 + s * 24) 0) 1) _ h in
    field_same 8 (get_or w (6336 + s * 24 + 12) 0) (leb-true _ _ p.1)

-- PACKETS -------------------------------------------------------------------------------------------------------------

rated_means : (b : List ℕ)
    → rated_fits b ≡ true
    → Within max_rate (kept_of (get_or b 4 0) (get_or b 5 0)) × EtaInRange (eta_of (get_or b 6 0))
unfolding rated_fits
rated_means b h =
    let p = and_both _ _ h in
    (kept_within (get_or b 4 0) (get_or b 5 0) p.0, eta_in_range (get_or b 6 0))

-- by the kind's code
kind_means : (b : List ℕ) (k : ℕ) → get_or b 3 0 ≡ k → kind_fits b ≡ true → KindWithin (kind_of b)
unfolding kind_fits kind_of
kind_means b zero e h = rw e (rated_means b (rw e at h))
kind_means b (suc zero) e h = rw e (rated_means b (rw e at h))
kind_means b (suc (suc zero)) e h =
    let g : (leb (get_or b 7 0) 2 && rated_fits b) ≡ true = rw e at h in
    rw e (rated_means b (and_both (leb (get_or b 7 0) 2) (rated_fits b) g).1)
kind_means b (suc (suc (suc zero))) e h = rw e tt
kind_means b (suc (suc (suc (suc zero)))) e h = rw e tt
kind_means b (suc (suc (suc (suc (suc zero))))) e h = rw e tt
kind_means b (suc (suc (suc (suc (suc (suc zero)))))) e h = rw e tt
kind_means b (suc (suc (suc (suc (suc (suc (suc k))))))) e h =
    let g : leb (get_or b 3 0) 6 ≡ true =
    rw (
      ne_eqb (get_or b 3 0) 0 (λ q. omega arith),
      ne_eqb (get_or b 3 0) 1 (λ q. omega arith),
      ne_eqb (get_or b 3 0) 2 (λ q. omega arith),
      ne_eqb (get_or b 3 0) 5 (λ q. omega arith),
    ) at
    h in
    absurd (omega (arith, leb-true (get_or b 3 0) 6 g))

pub packet_fits_means : (w : List ℕ) (i : ℕ) → packet_fits w i ≡ true → PacketWithin (packet_of w i)
unfolding packet_fits words_fit packet_of packet_from
packet_fits_means w i h =
    let b : List ℕ = block_at w (7104 + i * 8) in
    let r : PacketInRange (packet_of w i) = packet_in_range w i in
    let p = and_both (leb (get_or b 0 0) 31) _ h in
    let q = and_both (leb (get_or b 1 0) 9) _ p.1 in
    let k = and_both (leb (get_or b 2 0) 1) _ q.1 in
    record { session = r.session; hop = r.hop; kind = kind_means b (get_or b 3 0) refl k.1 }

-- the rate of a source that fits is one
pub source_is_rate : (w : List ℕ) (s : ℕ) → source_fits w s ≡ true → is_rate_of (frac (get_or w (6336 + s * 24 + 8) 0) (get_or w (6336 + s * 24 + 8 + 1) 0)) ≡ true
unfolding source_fits rates_fit block_at
source_is_rate w s h =
    let b = block_at w (6336 + s * 24) in
    let c = block_at w (6336 + s * 24 + 8) in
    let t = get_or w (6336 + s * 24 + 7) 0 in
    let f = and_both (flags_fit b) (numbers_fit b && (rates_fit t c && path_fits w s)) h in
    let n = and_both (numbers_fit b) (rates_fit t c && path_fits w s) f.1 in
    let r = and_both (rates_fit t c) (path_fits w s) n.1 in
    (and_both (is_rate_of (frac (get_or c 0 0) (get_or c 1 0))) (cond (eqb t 1) (is_rate_of (frac (get_or c 2 0) (get_or c 3 0))) true) r.0).0
