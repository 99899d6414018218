-- What was written is read back, where it is within its range.
-- Assumes nothing.
use mathlib.Core.List.{List, [], ◌∷◌}
use mathlib.Core.Logic.{inl, inr}
use mathlib.Core.Path.{◌≡◌, refl, sym, ◌∙◌}
use Prim.Native.Nat.{ℕ, suc, ◌+◌, ◌*◌, ◌≤◌, ◌<◌}
use native.Mathlib.Omega.{arith}
use lib.ListN.{drop, get_or, length, length-drop, take}
use lib.Seq.{ext_get_or, get_or-drop, get_or-set_same, get_or-take, length-take-le}
use Rattle.fractions.specs.Fraction.{Sized, max_rate}
use Rattle.fractions.specs.declared.Rate.{Rate}
use Rattle.fractions.proofs.Ranges.{kept_same}
use Rattle.links.specs.declared.Entry.{Entry}
use Rattle.tasks.specs.declared.Kind.{Kind}
use Rattle.tasks.specs.declared.Kind.TheVariants as kind
use Rattle.links.specs.declared.Link.{Link}
use Rattle.tasks.specs.declared.Packet.{Packet}
use Rattle.links.specs.declared.Place.{Place}
use Rattle.ends.specs.declared.Source.{Source}
use Rattle.table.specs.Values.{KindInRange, LinkInRange, PacketInRange, PlaceInRange, SourceInRange}
use Rattle.table.specs.Words.{block_at, count_of, entries_from, entry_of, head_words, hops_of, kind_of, link_of, packet_from, packet_of, packet_words, path_of, place_of, put_block, put_count, put_entry, put_hops, put_link, put_packet, put_path, put_place, put_rates, put_row, put_source, row_of, source_from, source_of, stop_of, store_entries, words_for}
use Rattle.table.specs.Codes.{bit_of, mu_code, told_rate}
use Rattle.links.specs.Links.{Rates, no_entry}
use Rattle.table.proofs.Codes.{bit_back, eta_back, mu_back, tau_back, told_back}
use Rattle.table.proofs.InRange.{field_same, path_length, path_stop}
use Rattle.table.proofs.Places.{entries_below, entry_agree, hops_agree, length_put_entry, length_put_hops, length_put_link, length_put_path, link_agree, put_hops_off, put_path_off, put_rates_off, put_row_off, stop_agree}
use Rattle.table.proofs.Store.{block_agree, block_back, block_word, eight, get_d_block, length_put_block, store_first, store_next}

-- LINKS AND THEIR ENTRIES ---------------------------------------------------------------------------------------------

pub link_back : (w : List ℕ) (e : ℕ) (l : Link) → e * 3 + 3 ≤ length w → LinkInRange l → link_of (put_link w e l) e ≡ l
unfolding link_of put_link
link_back w e l h g =
    let vs : List ℕ = l.r ∷ l.f ∷ [] in
    rw (
      store_first w (e * 3) l.capacity vs (omega arith),
      store_next w (e * 3) l.capacity vs 0 (omega arith) (omega arith),
      store_next w (e * 3) l.capacity vs 1 (omega arith) (omega arith),
      field_same max_rate l.capacity g.capacity,
      field_same 4294967295 l.r (omega (arith, g.r)),
      field_same 4294967295 l.f (omega (arith, g.f)),
    )

pub entry_back : (w : List ℕ) (a : ℕ) (x : Entry) → a + 3 ≤ length w → Sized max_rate x.rate → entry_of (put_entry w a x) a ≡ x
unfolding entry_of put_entry
entry_back w a x h g =
    let vs : List ℕ = x.rate.num ∷ x.rate.den ∷ [] in
    rw (
      store_first w a (mu_code x.mu) vs (omega arith),
      store_next w a (mu_code x.mu) vs 0 (omega arith) (omega arith),
      store_next w a (mu_code x.mu) vs 1 (omega arith) (omega arith),
      mu_back x.mu,
      kept_same g,
    )

pub entries_back : (l : List Entry) (w : List ℕ) (a : ℕ)
    → a + length l * 3 ≤ length w
    → ((s : ℕ) → s < length l → Sized max_rate (get_or l s no_entry).rate)
    → entries_from (length l) (store_entries w a l) a ≡ l
unfolding entries_from store_entries
entries_back [] w a h g = refl
entries_back (x ∷ l) w a h g =
    let v : List ℕ = put_entry w a x in
    let p : entry_of (store_entries v (a + 3) l) a ≡ x =
    entry_agree (store_entries v (a + 3) l) v a (λ i m n. entries_below l v (a + 3) i (omega arith))
    ∙ entry_back w a x (omega arith) (g 0 (omega arith)) in
    let q : entries_from (length l) (store_entries v (a + 3) l) (a + 3) ≡ l =
    entries_back l v (a + 3) (rw length_put_entry (omega arith)) (λ s m. g (suc s) (omega arith)) in
    rw (p, q)

pub row_back : (w : List ℕ) (e : ℕ) (es : List Entry)
    → 192 + e * 96 + 96 ≤ length w
    → Rates es
    → row_of (put_row w e es) e ≡ es
unfolding row_of put_row
row_back w e es h g =
    let n : length es ≡ 32 = g.many in
    rw (← n) (entries_back es w (192 + e * 96) (omega arith) (λ s m. g.sized s (omega arith)))

pub place_back : (w : List ℕ) (e : ℕ) (p : Place)
    → length w ≡ 9153
    → e < 64
    → PlaceInRange p
    → place_of (put_place w e p) e ≡ p
unfolding put_place
place_back w e p l h g =
    let v : List ℕ = put_link w e p.link in
    let lv : length v ≡ 9153 = length_put_link w e p.link ∙ l in
    let a : link_of (put_row v e p.entries) e ≡ p.link =
    link_agree (put_row v e p.entries) v e (λ i a b. put_row_off v e p.entries i g.entries.many (inl (omega arith)))
    ∙ link_back w e p.link (omega arith) g.link in
    let b : row_of (put_row v e p.entries) e ≡ p.entries = row_back v e p.entries (omega arith) g.entries in
    rw (a, b)

-- SOURCES AND PATHS ---------------------------------------------------------------------------------------------------

-- a source from its words
pub source_from_words : (z : Source) (rest : List ℕ)
    → SourceInRange z
    → source_from (eight (head_words z)) (z.rate.num ∷ z.rate.den ∷ (told_rate z.told).num ∷ (told_rate z.told).den ∷ rest) ≡ z
unfolding source_from head_words
source_from_words z rest g =
    rw (
      bit_back z.active,
      field_same max_rate z.access g.access,
      field_same max_rate z.maximum g.maximum,
      bit_back z.free,
      mu_back z.mu,
      kept_same g.rate,
      bit_back z.updated,
      bit_back z.bottlenecked,
      told_back z.told g.told,
    )

-- four words of two rates
pub rates_back : (v : List ℕ) (a : ℕ) (x y : Rate)
    → a + 4 ≤ length v
    → block_at (put_rates v a x y) a
    ≡ x.num
    ∷ x.den
    ∷ y.num
    ∷ y.den
    ∷ get_or (put_rates v a x y) (a + 4) 0
    ∷ get_or (put_rates v a x y) (a + 5) 0
    ∷ get_or (put_rates v a x y) (a + 6) 0
    ∷ get_or (put_rates v a x y) (a + 7) 0
    ∷ []
unfolding block_at put_rates
rates_back v a x y h =
    let vs : List ℕ = x.den ∷ y.num ∷ y.den ∷ [] in
    rw (
      store_first v a x.num vs (omega arith),
      store_next v a x.num vs 0 (omega arith) (omega arith),
      store_next v a x.num vs 1 (omega arith) (omega arith),
      store_next v a x.num vs 2 (omega arith) (omega arith),
    )

pub source_back : (w : List ℕ) (s : ℕ) (z : Source)
    → length w ≡ 9153
    → s < 32
    → SourceInRange z
    → source_of (put_source w s z) s ≡ z
unfolding source_of put_source
source_back w s z l h g =
    let a : ℕ = 6336 + s * 24 in
    let y : Rate = told_rate z.told in
    let v : List ℕ = put_block w a (head_words z) in
    let u : List ℕ = put_rates v (a + 8) z.rate y in
    let lv : length v ≡ 9153 = length_put_block w a (head_words z) ∙ l in
    let p : block_at u a ≡ eight (head_words z) =
    block_agree u v a (λ i m n. put_rates_off v (a + 8) z.rate y i (inl (omega arith)))
    ∙ block_back w a (head_words z) (omega arith) in
    rw
    (p, rates_back v (a + 8) z.rate y (omega arith))
    (source_from_words z _ g)

pub hops_back : (w : List ℕ) (s n : ℕ) → length w ≡ 9153 → s < 32 → n ≤ 8 → hops_of (put_hops w s n) s ≡ n
unfolding hops_of put_hops
hops_back w s n l h g = rw (get_or-set_same w (6336 + s * 24 + 12) n 0 (omega arith)) (field_same 8 n g)

pub stop_back : (w : List ℕ) (s : ℕ) (bytes : List ℕ) (at i : ℕ)
    → length w ≡ 9153
    → s < 32
    → i < 8
    → get_or bytes (at + i) 0 < 64
    → stop_of (put_path w s bytes at) s i ≡ get_or bytes (at + i) 0
unfolding stop_of put_path
stop_back w s bytes at i l h g f =
    rw
    (block_word w (6336 + s * 24 + 16) (block_at bytes at) i g (omega arith), get_d_block bytes at i g)
    (field_same 63 (get_or bytes (at + i) 0) (omega arith))

-- a path is the bytes that its places read
path_of_bytes : (v : List ℕ) (s n : ℕ) (bytes : List ℕ) (at : ℕ)
    → hops_of v s ≡ n
    → at + n ≤ length bytes
    → ((i : ℕ) → i < n → stop_of v s i ≡ get_or bytes (at + i) 0)
    → path_of v s ≡ take n (drop at bytes)
path_of_bytes v s n bytes at e l g =
    let d : n ≤ length (drop at bytes) = rw (length-drop at bytes) (omega arith) in
    ext_get_or
    0
    (path_of v s)
    (take n (drop at bytes))
    (path_length v s ∙ e ∙ sym (length-take-le n (drop at bytes) d))
    (λ m q.
    let r : m < n = omega (arith, q, path_length v s, e) in
    path_stop v s m 0 (omega arith) ∙ g m r ∙ sym (get_or-take n (drop at bytes) m 0 r ∙ get_or-drop at bytes m 0))

-- the hops and then the path of a session that joins
pub path_back : (w : List ℕ) (s n : ℕ) (bytes : List ℕ) (at : ℕ)
    → length w ≡ 9153
    → s < 32
    → n ≤ 8
    → at + 8 ≤ length bytes
    → ((i : ℕ) → i < n → get_or bytes (at + i) 0 < 64)
    → path_of (put_path (put_hops w s n) s bytes at) s ≡ take n (drop at bytes)
path_back w s n bytes at l h m k g =
    let v : List ℕ = put_hops w s n in
    let lv : length v ≡ 9153 = length_put_hops w s n ∙ l in
    path_of_bytes
    (put_path v s bytes at)
    s
    n
    bytes
    at
    (hops_agree (put_path v s bytes at) v s (λ i a b. put_path_off v s bytes at i (inl (omega arith))) ∙ hops_back w s n l h m)
    (omega arith)
    (λ i q. stop_back v s bytes at i lv h (omega arith) (g i q))

-- and the other way round
pub path_back_hops_last : (w : List ℕ) (s n : ℕ) (bytes : List ℕ) (at : ℕ)
    → length w ≡ 9153
    → s < 32
    → n ≤ 8
    → at + 8 ≤ length bytes
    → ((i : ℕ) → i < n → get_or bytes (at + i) 0 < 64)
    → path_of (put_hops (put_path w s bytes at) s n) s ≡ take n (drop at bytes)
path_back_hops_last w s n bytes at l h m k g =
    let v : List ℕ = put_path w s bytes at in
    let lv : length v ≡ 9153 = length_put_path w s bytes at ∙ l in
    path_of_bytes
    (put_hops v s n)
    s
    n
    bytes
    at
    (hops_back v s n lv h m)
    (omega arith)
    (λ i q.
    stop_agree (put_hops v s n) v s i (λ j a b. put_hops_off v s n j (inr (omega arith))) (omega arith)
    ∙ stop_back w s bytes at i l h (omega arith) (g i q))

-- PACKETS -------------------------------------------------------------------------------------------------------------

pub words_session : (s h d : ℕ) (k : Kind) → get_or (words_for s h d k) 0 0 ≡ s
words_session s h d (kind.Join x n) = refl
words_session s h d (kind.Probe x n) = refl
words_session s h d (kind.Response t x n) = refl
words_session s h d kind.Update = refl
words_session s h d kind.Bottleneck = refl
words_session s h d (kind.SetBottleneck beta) = refl
words_session s h d kind.Leave = refl

pub words_hop : (s h d : ℕ) (k : Kind) → get_or (words_for s h d k) 1 0 ≡ h
words_hop s h d (kind.Join x n) = refl
words_hop s h d (kind.Probe x n) = refl
words_hop s h d (kind.Response t x n) = refl
words_hop s h d kind.Update = refl
words_hop s h d kind.Bottleneck = refl
words_hop s h d (kind.SetBottleneck beta) = refl
words_hop s h d kind.Leave = refl

pub words_down : (s h d : ℕ) (k : Kind) → get_or (words_for s h d k) 2 0 ≡ d
words_down s h d (kind.Join x n) = refl
words_down s h d (kind.Probe x n) = refl
words_down s h d (kind.Response t x n) = refl
words_down s h d kind.Update = refl
words_down s h d kind.Bottleneck = refl
words_down s h d (kind.SetBottleneck beta) = refl
words_down s h d kind.Leave = refl

pub kind_back : (s h d : ℕ) (k : Kind) → KindInRange k → kind_of (eight (words_for s h d k)) ≡ k
unfolding kind_of
kind_back s h d (kind.Join x n) g = rw (kept_same g.0, eta_back n g.1)
kind_back s h d (kind.Probe x n) g = rw (kept_same g.0, eta_back n g.1)
kind_back s h d (kind.Response t x n) g = rw (tau_back t, kept_same g.0, eta_back n g.1)
kind_back s h d kind.Update g = refl
kind_back s h d kind.Bottleneck g = refl
kind_back s h d (kind.SetBottleneck beta) g = rw (bit_back beta)
kind_back s h d kind.Leave g = refl

-- a packet from its words
pub packet_from_words : (p : Packet) → PacketInRange p → packet_from (eight (packet_words p)) ≡ p
unfolding packet_from packet_words
packet_from_words p g =
    let s : ℕ = p.session in
    let h : ℕ = p.hop in
    let d : ℕ = bit_of p.down in
    rw (
      kind_back s h d p.kind g.kind,
      words_session s h d p.kind,
      words_hop s h d p.kind,
      words_down s h d p.kind,
      field_same 31 s (omega (arith, g.session)),
      field_same 9 h g.hop,
      bit_back p.down,
    )

pub packet_back : (w : List ℕ) (i : ℕ) (p : Packet)
    → 7104 + i * 8 + 8 ≤ length w
    → PacketInRange p
    → packet_of (put_packet w i p) i ≡ p
unfolding packet_of put_packet
packet_back w i p h g = rw (block_back w (7104 + i * 8) (packet_words p) h) (packet_from_words p g)

pub count_back : (w : List ℕ) (n : ℕ) → length w ≡ 9153 → n ≤ 256 → count_of (put_count w n) ≡ n
unfolding count_of put_count
count_back w n l h = rw (get_or-set_same w 9152 n 0 (omega arith)) (field_same 256 n h)
