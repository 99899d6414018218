-- Every writer of the table leaves the words in use within their ranges, where what it writes is.
-- Assumes nothing.
use mathlib.Core.Bool.{true}
use mathlib.Core.List.{List}
use mathlib.Core.Logic.{inl, inr, ⊎_elim}
use mathlib.Core.Path.{◌≡◌, ap, subst, ◌∙◌}
use Prim.Native.Nat.{ℕ, ◌+◌, ◌-◌, ◌*◌, ◌≤◌, ◌<◌}
use native.Mathlib.Omega.{arith}
use lib.ListN.{get_or, length}
use Rattle.fractions.specs.Fraction.{max_rate}
use Rattle.ends.specs.declared.Source.{Source}
use Rattle.events.specs.Events.{new_link}
use Rattle.fractions.proofs.Cases.{and_both, last, order}
use Rattle.links.specs.declared.Link.{Link}
use Rattle.links.specs.declared.Place.{Place}
use Rattle.soundness.proofs.Holding.{nobody_held}
use Rattle.soundness.specs.Sound.{Held, Sound}
use Rattle.ranges.specs.Ranges.{flags_fit, numbers_fit, path_fits, rates_fit, source_fits, standing_fits}
use Rattle.table.specs.Values.{LinkInRange, PacketWithin, PlaceInRange, SourceWithin}
use Rattle.table.specs.Words.{appended, block_at, count_of, hops_of, link_of, place_of, put_hops, put_link, put_path, put_place, put_source, removed}
use Rattle.ranges.proofs.FitsLinks.{entry_fits_place, link_fits_back, link_fits_place}
use Rattle.ranges.proofs.FitsPackets.{count_fits_appended, count_fits_removed, packet_fits_appended, packet_fits_appended_last, packet_fits_removed_above, packet_fits_removed_below}
use Rattle.ranges.proofs.FitsSources.{path_fits_back_hops_last, source_fits_back, standing_fits_agree, standing_fits_hops, standing_fits_source}
use Rattle.table.proofs.InRange.{count_most}
use Rattle.table.proofs.Packets.{count_appended, count_removed}
use Rattle.table.proofs.Places.{appended_off, length_appended, length_put_hops, length_put_link, length_put_path, length_put_place, length_put_source, length_removed, put_hops_off, put_link_off, put_path_off, put_place_off, put_source_off, removed_off}
use Rattle.table.proofs.ReadBack.{link_back, place_back}
use Rattle.table.proofs.Store.{Off}
use Rattle.table.proofs.Unchanged.{hops_after_source}
use Rattle.tasks.specs.declared.Packet.{Packet}
use Rattle.reachable.specs.Invariant.{Fits}
use Rattle.reachable.proofs.FitsParts.{fits_at_link, fits_at_packets, fits_at_session}

-- PACKETS -------------------------------------------------------------------------------------------------------------

pub fits_removed : (w : List ℕ) (i : ℕ) → i < count_of w → Fits w → Fits (removed w i)
fits_removed w i h f =
    let n : count_of (removed w i) ≡ count_of w - 1 = count_removed w i f.long in
    let m : count_of w ≤ 256 = count_most w in
    fits_at_packets
    w
    (removed w i)
    (length_removed w i)
    (removed_off w i)
    (record {
      count = count_fits_removed w i f.long;
      packets =
          λ j l.
          ⊎_elim
          (λ (o : i ≤ j). packet_fits_removed_above w i j f.long o (omega arith) ∙ f.packets (j + 1) (omega arith))
          (λ (o : j < i). packet_fits_removed_below w i j o (omega arith) ∙ f.packets j (omega arith))
          (order i j);
    })
    f

pub fits_appended : (w : List ℕ) (p : Packet) → count_of w < 256 → PacketWithin p → Fits w → Fits (appended w p)
fits_appended w p h g f =
    let n : count_of (appended w p) ≡ count_of w + 1 = count_appended w p f.long h in
    fits_at_packets
    w
    (appended w p)
    (length_appended w p)
    (appended_off w p)
    (record {
      count = count_fits_appended w p f.long f.count;
      packets =
          λ j l.
          ⊎_elim
          (λ (o : j < count_of w). packet_fits_appended w p j h o ∙ f.packets j o)
          (λ (o : j ≡ count_of w). rw o (packet_fits_appended_last w p f.long h g))
          (last {i = j} {n = count_of w} (omega arith));
    })
    f

-- LINKS AND THEIR ENTRIES ---------------------------------------------------------------------------------------------

pub sound_in_range : {p : Place} → Sound p → PlaceInRange p
sound_in_range s = record {
  link = record { capacity = s.workable.capacity; r = s.r32; f = s.f32 };
  entries = s.workable.rates;
}

pub fits_place : (w : List ℕ) (e : ℕ) (p : Place) → e < 64 → Sound p → Fits w → Fits (put_place w e p)
fits_place w e p l s f =
    let g : PlaceInRange p = sound_in_range s in
    let n : length p.entries ≡ 32 = g.entries.many in
    let b : place_of (put_place w e p) e ≡ p = place_back w e p f.long l g in
    fits_at_link
    w
    (put_place w e p)
    e
    l
    (length_put_place w e p)
    (λ i c d. put_place_off w e p i n c d)
    (record {
      link = link_fits_place w e p f.long l n g.link;
      entries = λ t m h. entry_fits_place w e p t f.long l n m (s.rates t m (subst (λ (q : Place). Held q t) b h));
    })
    f

pub fits_link : (w : List ℕ) (e c : ℕ) → e < 64 → c ≤ max_rate → Fits w → Fits (put_link w e (new_link c))
fits_link w e c l m f =
    let v : List ℕ = put_link w e (new_link c) in
    let n : length w ≡ 9153 = f.long in
    let g : LinkInRange (new_link c) = record { capacity = m; r = omega arith; f = omega arith } in
    let b : link_of v e ≡ new_link c = link_back w e (new_link c) (omega arith) g in
    fits_at_link
    w
    v
    e
    l
    (length_put_link w e (new_link c))
    (λ i a d. put_link_off w e (new_link c) i a)
    (record {
      link = link_fits_back w e (new_link c) (omega arith) g;
      entries = λ s k h. absurd (nobody_held (place_of v e) (ap (λ (x : Link). x.r) b) (ap (λ (x : Link). x.f) b) s h);
    })
    f

-- SESSIONS ------------------------------------------------------------------------------------------------------------

-- a source's test contains its path's
path_of_source : (w : List ℕ) (s : ℕ) → source_fits w s ≡ true → path_fits w s ≡ true
unfolding source_fits
path_of_source w s h =
    let a : ℕ = 6336 + s * 24 in
    let p = and_both (flags_fit (block_at w a)) _ h in
    let q = and_both (numbers_fit (block_at w a)) _ p.1 in
    (and_both (rates_fit (get_or w (a + 7) 0) (block_at w (a + 8))) (path_fits w s) q.1).1

-- a place that is before or behind all words of a session is so of some of them
off_within : (i a n b k : ℕ) → a ≤ b → b + k ≤ a + n → Off i a n → Off i b k
off_within i a n b k l m h = ⊎_elim (λ q. inl (omega arith)) (λ q. inr (omega arith)) h

pub fits_source : (w : List ℕ) (s : ℕ) (z : Source) → s < 32 → SourceWithin z → Fits w → Fits (put_source w s z)
fits_source w s z l g f =
    let p : hops_of (put_source w s z) s ≡ hops_of w s = hops_after_source w s z s l l in
    fits_at_session
    w
    (put_source w s z)
    s
    l
    (length_put_source w s z)
    (λ i a. put_source_off w s z i (off_within i (6336 + s * 24) 24 (6336 + s * 24) 12 (omega arith) (omega arith) a))
    (record {
      standing = standing_fits_source w s z f.long l (f.standing s l);
      source = λ h. source_fits_back w s z f.long l g (path_of_source w s (f.sources s l (rw p at h)));
    })
    f

-- a session that joins: its path, its hops, and its source
pub fits_join : (w : List ℕ) (s n : ℕ) (bytes : List ℕ) (at : ℕ) (z : Source)
    → s < 32
    → n ≤ 8
    → 0 < n
    → ((i : ℕ) → i < n → get_or bytes (at + i) 0 < 64)
    → SourceWithin z
    → Fits w
    → Fits (put_source (put_hops (put_path w s bytes at) s n) s z)
fits_join w s n bytes at z l m k b g f =
    let a : ℕ = 6336 + s * 24 in
    let u : List ℕ = put_path w s bytes at in
    let v : List ℕ = put_hops u s n in
    let lu : length u ≡ 9153 = length_put_path w s bytes at ∙ f.long in
    let lv : length v ≡ 9153 = length_put_hops u s n ∙ lu in
    let su : standing_fits u s ≡ true =
    standing_fits_agree u w s (λ i c d. put_path_off w s bytes at i (inl (omega arith))) ∙ f.standing s l in
    fits_at_session
    w
    (put_source v s z)
    s
    l
    (length_put_source v s z ∙ length_put_hops u s n ∙ length_put_path w s bytes at)
    (λ i o.
    put_source_off v s z i (off_within i a 24 a 12 (omega arith) (omega arith) o)
    ∙ put_hops_off u s n i (off_within i a 24 (a + 12) 1 (omega arith) (omega arith) o)
    ∙ put_path_off w s bytes at i (off_within i a 24 (a + 16) 8 (omega arith) (omega arith) o))
    (record {
      standing = standing_fits_source v s z lv l (standing_fits_hops u s n lu l m su);
      source = λ h. source_fits_back v s z lv l g (path_fits_back_hops_last w s n bytes at f.long l m b);
    })
    f
