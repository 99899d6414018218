-- Where each part of a table stands: the words that a reader reads, the words that a writer writes, and that no writer changes the length.
-- So what a write leaves alone is a matter of places, and n readers and m writers need n + m laws.
-- Assumes nothing.
use mathlib.Core.List.{List, [], ◌∷◌}
use mathlib.Core.Logic.{◌⊎◌, inl, inr, ⊎_elim}
use mathlib.Core.Path.{◌≡◌, ap, refl, ◌∙◌}
use Prim.Native.Nat.{ℕ, zero, suc, ◌+◌, ◌-◌, ◌*◌, ◌≤◌, ◌<◌}
use native.Mathlib.Omega.{arith}
use borrow.Author.Tests.{ltb-true}
use lib.Dec.{ltb}
use lib.ListN.{get_or, length, length-set}
use lib.Seq.{get_or-set_other}
use Rattle.fractions.specs.declared.Rate.{Rate}
use Rattle.fractions.proofs.Cases.{cases, order}
use Rattle.links.specs.declared.Entry.{Entry}
use Rattle.links.specs.declared.Link.{Link}
use Rattle.tasks.specs.declared.Packet.{Packet}
use Rattle.links.specs.declared.Place.{Place}
use Rattle.ends.specs.declared.Source.{Source}
use Rattle.table.specs.Words.{appended, block_at, count_of, entries_from, entry_of, head_words, hops_of, link_of, moved_up, packet_of, packet_words, packets_from, packets_of, path_of, put_block, put_count, put_entry, put_hops, put_link, put_packet, put_path, put_place, put_rates, put_row, put_source, removed, row_of, source_from, source_of, stop_of, stops_from, store_entries}
use Rattle.table.specs.Codes.{mu_code, told_rate}
use Rattle.table.proofs.InRange.{count_most, hops_most}
use Rattle.table.proofs.Store.{Agree, Off, block_agree, length_moved, length_put_block, length_store, moved_above, moved_below, put_block_off, store_off}

-- READERS -------------------------------------------------------------------------------------------------------------

pub link_agree : (v w : List ℕ) (e : ℕ) → Agree v w (e * 3) 3 → link_of v e ≡ link_of w e
unfolding link_of
link_agree v w e h =
    rw (
      h (e * 3) (omega arith) (omega arith),
      h (e * 3 + 1) (omega arith) (omega arith),
      h (e * 3 + 2) (omega arith) (omega arith),
    )

pub entry_agree : (v w : List ℕ) (a : ℕ) → Agree v w a 3 → entry_of v a ≡ entry_of w a
unfolding entry_of
entry_agree v w a h =
    rw (h a (omega arith) (omega arith), h (a + 1) (omega arith) (omega arith), h (a + 2) (omega arith) (omega arith))

pub entries_agree : (k : ℕ) (v w : List ℕ) (a : ℕ) → Agree v w a (k * 3) → entries_from k v a ≡ entries_from k w a
unfolding entries_from
entries_agree zero v w a h = refl
entries_agree (suc k) v w a h =
    rw
    (entry_agree v w a (λ i l m. h i l (omega arith)), entries_agree k v w (a + 3) (λ i l m. h i (omega arith) (omega arith)))

pub row_agree : (v w : List ℕ) (e : ℕ) → Agree v w (192 + e * 96) 96 → row_of v e ≡ row_of w e
unfolding row_of
row_agree v w e h = entries_agree 32 v w (192 + e * 96) h

pub source_agree : (v w : List ℕ) (s : ℕ) → Agree v w (6336 + s * 24) 12 → source_of v s ≡ source_of w s
unfolding source_of source_from block_at
source_agree v w s h =
    rw (
      h (6336 + s * 24) (omega arith) (omega arith),
      h (6336 + s * 24 + 1) (omega arith) (omega arith),
      h (6336 + s * 24 + 2) (omega arith) (omega arith),
      h (6336 + s * 24 + 3) (omega arith) (omega arith),
      h (6336 + s * 24 + 4) (omega arith) (omega arith),
      h (6336 + s * 24 + 5) (omega arith) (omega arith),
      h (6336 + s * 24 + 6) (omega arith) (omega arith),
      h (6336 + s * 24 + 7) (omega arith) (omega arith),
      h (6336 + s * 24 + 8) (omega arith) (omega arith),
      h (6336 + s * 24 + 8 + 1) (omega arith) (omega arith),
      h (6336 + s * 24 + 8 + 2) (omega arith) (omega arith),
      h (6336 + s * 24 + 8 + 3) (omega arith) (omega arith),
    )

pub hops_agree : (v w : List ℕ) (s : ℕ) → Agree v w (6336 + s * 24 + 12) 1 → hops_of v s ≡ hops_of w s
unfolding hops_of
hops_agree v w s h = rw (h (6336 + s * 24 + 12) (omega arith) (omega arith))

pub stop_agree : (v w : List ℕ) (s i : ℕ) → Agree v w (6336 + s * 24 + 16) 8 → i < 8 → stop_of v s i ≡ stop_of w s i
unfolding stop_of
stop_agree v w s i h l = rw (h (6336 + s * 24 + 16 + i) (omega arith) (omega arith))

pub stops_agree : (k : ℕ) (v w : List ℕ) (s i : ℕ)
    → Agree v w (6336 + s * 24 + 16) 8
    → i + k ≤ 8
    → stops_from k v s i ≡ stops_from k w s i
unfolding stops_from
stops_agree zero v w s i h l = refl
stops_agree (suc k) v w s i h l = rw (stop_agree v w s i h (omega arith), stops_agree k v w s (i + 1) h (omega arith))

pub path_agree : (v w : List ℕ) (s : ℕ) → Agree v w (6336 + s * 24 + 12) 12 → path_of v s ≡ path_of w s
unfolding path_of
path_agree v w s h =
    rw
    (hops_agree v w s (λ i a b. h i a (omega arith)))
    (stops_agree (hops_of w s) v w s 0 (λ i a b. h i (omega arith) (omega arith)) (omega (arith, hops_most w s)))

pub packet_agree : (v w : List ℕ) (i : ℕ) → Agree v w (7104 + i * 8) 8 → packet_of v i ≡ packet_of w i
unfolding packet_of
packet_agree v w i h = rw (block_agree v w (7104 + i * 8) h)

pub packets_from_agree : (k : ℕ) (v w : List ℕ) (i : ℕ)
    → ((j : ℕ) → i ≤ j → j < i + k → packet_of v j ≡ packet_of w j)
    → packets_from k v i ≡ packets_from k w i
unfolding packets_from
packets_from_agree zero v w i h = refl
packets_from_agree (suc k) v w i h =
    rw (h i (omega arith) (omega arith), packets_from_agree k v w (i + 1) (λ j a b. h j (omega arith) (omega arith)))

pub count_agree : (v w : List ℕ) → Agree v w 9152 1 → count_of v ≡ count_of w
unfolding count_of
count_agree v w h = rw (h 9152 (omega arith) (omega arith))

pub packets_agree : (v w : List ℕ) → Agree v w 7104 2049 → packets_of v ≡ packets_of w
unfolding packets_of
packets_agree v w h =
    rw
    (count_agree v w (λ i a b. h i (omega arith) (omega arith)))
    (packets_from_agree
    (count_of w)
    v
    w
    0
    (λ j a b. packet_agree v w j (λ i c d. h i (omega arith) (omega (arith, count_most w)))))

-- WRITERS: WHAT THEY LEAVE ALONE --------------------------------------------------------------------------------------

pub put_link_off : (w : List ℕ) (e : ℕ) (l : Link) (i : ℕ) → Off i (e * 3) 3 → get_or (put_link w e l) i 0 ≡ get_or w i 0
unfolding put_link
put_link_off w e l i h = store_off w (e * 3) (l.capacity ∷ l.r ∷ l.f ∷ []) i h

pub put_entry_off : (w : List ℕ) (a : ℕ) (x : Entry) (i : ℕ) → Off i a 3 → get_or (put_entry w a x) i 0 ≡ get_or w i 0
unfolding put_entry
put_entry_off w a x i h = store_off w a (mu_code x.mu ∷ x.rate.num ∷ x.rate.den ∷ []) i h

pub entries_below : (l : List Entry) (w : List ℕ) (a i : ℕ) → i < a → get_or (store_entries w a l) i 0 ≡ get_or w i 0
unfolding store_entries
entries_below [] w a i h = refl
entries_below (x ∷ l) w a i h = entries_below l (put_entry w a x) (a + 3) i (omega arith) ∙ put_entry_off w a x i (inl h)

pub entries_above : (l : List Entry) (w : List ℕ) (a i : ℕ) → a + length l * 3 ≤ i → get_or (store_entries w a l) i 0 ≡ get_or w i 0
unfolding store_entries
entries_above [] w a i h = refl
entries_above (x ∷ l) w a i h = entries_above l (put_entry w a x) (a + 3) i (omega arith) ∙ put_entry_off w a x i (inr (omega arith))

pub put_row_off : (w : List ℕ) (e : ℕ) (es : List Entry) (i : ℕ)
    → length es ≡ 32
    → Off i (192 + e * 96) 96
    → get_or (put_row w e es) i 0 ≡ get_or w i 0
unfolding put_row
put_row_off w e es i n h =
    ⊎_elim (λ l. entries_below es w (192 + e * 96) i l) (λ l. entries_above es w (192 + e * 96) i (omega arith)) h

pub put_place_off : (w : List ℕ) (e : ℕ) (p : Place) (i : ℕ)
    → length p.entries ≡ 32
    → Off i (e * 3) 3
    → Off i (192 + e * 96) 96
    → get_or (put_place w e p) i 0 ≡ get_or w i 0
unfolding put_place
put_place_off w e p i n g h = put_row_off (put_link w e p.link) e p.entries i n h ∙ put_link_off w e p.link i g

pub put_rates_off : (w : List ℕ) (a : ℕ) (x y : Rate) (i : ℕ) → Off i a 4 → get_or (put_rates w a x y) i 0 ≡ get_or w i 0
unfolding put_rates
put_rates_off w a x y i h = store_off w a (x.num ∷ x.den ∷ y.num ∷ y.den ∷ []) i h

pub put_source_off : (w : List ℕ) (s : ℕ) (z : Source) (i : ℕ)
    → Off i (6336 + s * 24) 12
    → get_or (put_source w s z) i 0 ≡ get_or w i 0
unfolding put_source
put_source_off w s z i h =
    let v : List ℕ = put_block w (6336 + s * 24) (head_words z) in
    ⊎_elim
    (λ l.
    put_rates_off v (6336 + s * 24 + 8) z.rate (told_rate z.told) i (inl (omega arith))
    ∙ put_block_off w (6336 + s * 24) (head_words z) i (inl l))
    (λ l.
    put_rates_off v (6336 + s * 24 + 8) z.rate (told_rate z.told) i (inr (omega arith))
    ∙ put_block_off w (6336 + s * 24) (head_words z) i (inr (omega arith)))
    h

pub put_hops_off : (w : List ℕ) (s n i : ℕ) → Off i (6336 + s * 24 + 12) 1 → get_or (put_hops w s n) i 0 ≡ get_or w i 0
unfolding put_hops
put_hops_off w s n i h =
    get_or-set_other w (6336 + s * 24 + 12) i n 0 (λ e. ⊎_elim (λ l. absurd (omega arith)) (λ l. absurd (omega arith)) h)

pub put_path_off : (w : List ℕ) (s : ℕ) (bytes : List ℕ) (at i : ℕ)
    → Off i (6336 + s * 24 + 16) 8
    → get_or (put_path w s bytes at) i 0 ≡ get_or w i 0
unfolding put_path
put_path_off w s bytes at i h = put_block_off w (6336 + s * 24 + 16) (block_at bytes at) i h

pub put_packet_off : (w : List ℕ) (k : ℕ) (p : Packet) (i : ℕ) → Off i (7104 + k * 8) 8 → get_or (put_packet w k p) i 0 ≡ get_or w i 0
unfolding put_packet
put_packet_off w k p i h = put_block_off w (7104 + k * 8) (packet_words p) i h

pub put_count_off : (w : List ℕ) (n i : ℕ) → Off i 9152 1 → get_or (put_count w n) i 0 ≡ get_or w i 0
unfolding put_count
put_count_off w n i h = get_or-set_other w 9152 i n 0 (λ e. ⊎_elim (λ l. absurd (omega arith)) (λ l. absurd (omega arith)) h)

pub appended_off : (w : List ℕ) (p : Packet) (i : ℕ) → Off i 7104 2049 → get_or (appended w p) i 0 ≡ get_or w i 0
unfolding appended
appended_off w p i h =
    let n : ℕ = count_of w in
    let m : n ≤ 256 = count_most w in
    cases
    (λ (v : List ℕ). get_or v i 0 ≡ get_or w i 0)
    (ltb n 256)
    (put_count (put_packet w n p) (n + 1))
    w
    (λ e.
    ⊎_elim
    (λ l. put_count_off (put_packet w n p) (n + 1) i (inl (omega arith)) ∙ put_packet_off w n p i (inl (omega arith)))
    (λ l.
    put_count_off (put_packet w n p) (n + 1) i (inr (omega arith)) ∙ put_packet_off w n p i (inr (omega (arith, ltb-true n 256 e))))
    h)
    (λ e. refl)

none : (w : List ℕ) (j i : ℕ) → get_or (moved_up 0 w j) i 0 ≡ get_or w i 0
unfolding moved_up
none w j i = refl

below_or_not : (k n : ℕ) → (k < n) ⊎ (n ≤ k)
below_or_not k n = ⊎_elim (λ h. inr h) (λ h. inl h) (order n k)

pub removed_off : (w : List ℕ) (k i : ℕ) → Off i 7104 2049 → get_or (removed w k) i 0 ≡ get_or w i 0
unfolding removed
removed_off w k i h =
    let n : ℕ = count_of w in
    let m : n ≤ 256 = count_most w in
    let v : List ℕ = moved_up ((n - 1 - k) * 8) w (7104 + k * 8) in
    ⊎_elim
    (λ l. put_count_off v (n - 1) i (inl (omega arith)) ∙ moved_below ((n - 1 - k) * 8) w (7104 + k * 8) i (omega arith))
    (λ l. put_count_off v (n - 1) i (inr (omega arith)) ∙ ⊎_elim
    (λ (q : k < n). moved_above ((n - 1 - k) * 8) w (7104 + k * 8) i (omega arith))
    (λ (q : n ≤ k). let p : (n - 1 - k) * 8 ≡ 0 = omega arith in
    ap (λ (j : ℕ). get_or (moved_up j w (7104 + k * 8)) i 0) p ∙ none w (7104 + k * 8) i)
    (below_or_not k n))
    h

-- LENGTHS -------------------------------------------------------------------------------------------------------------

pub length_put_link : (w : List ℕ) (e : ℕ) (l : Link) → length (put_link w e l) ≡ length w
unfolding put_link
length_put_link w e l = length_store w (e * 3) (l.capacity ∷ l.r ∷ l.f ∷ [])

pub length_put_entry : (w : List ℕ) (a : ℕ) (x : Entry) → length (put_entry w a x) ≡ length w
unfolding put_entry
length_put_entry w a x = length_store w a (mu_code x.mu ∷ x.rate.num ∷ x.rate.den ∷ [])

pub length_store_entries : (l : List Entry) (w : List ℕ) (a : ℕ) → length (store_entries w a l) ≡ length w
unfolding store_entries
length_store_entries [] w a = refl
length_store_entries (x ∷ l) w a = length_store_entries l (put_entry w a x) (a + 3) ∙ length_put_entry w a x

pub length_put_row : (w : List ℕ) (e : ℕ) (es : List Entry) → length (put_row w e es) ≡ length w
unfolding put_row
length_put_row w e es = length_store_entries es w (192 + e * 96)

pub length_put_place : (w : List ℕ) (e : ℕ) (p : Place) → length (put_place w e p) ≡ length w
unfolding put_place
length_put_place w e p = length_put_row (put_link w e p.link) e p.entries ∙ length_put_link w e p.link

pub length_put_source : (w : List ℕ) (s : ℕ) (z : Source) → length (put_source w s z) ≡ length w
unfolding put_source put_rates
length_put_source w s z =
    length_store
    (put_block w (6336 + s * 24) (head_words z))
    (6336 + s * 24 + 8)
    (z.rate.num ∷ z.rate.den ∷ (told_rate z.told).num ∷ (told_rate z.told).den ∷ [])
    ∙ length_put_block w (6336 + s * 24) (head_words z)

pub length_put_hops : (w : List ℕ) (s n : ℕ) → length (put_hops w s n) ≡ length w
unfolding put_hops
length_put_hops w s n = length-set w (6336 + s * 24 + 12) n

pub length_put_path : (w : List ℕ) (s : ℕ) (bytes : List ℕ) (at : ℕ) → length (put_path w s bytes at) ≡ length w
unfolding put_path
length_put_path w s bytes at = length_put_block w (6336 + s * 24 + 16) (block_at bytes at)

pub length_put_packet : (w : List ℕ) (i : ℕ) (p : Packet) → length (put_packet w i p) ≡ length w
unfolding put_packet
length_put_packet w i p = length_put_block w (7104 + i * 8) (packet_words p)

pub length_put_count : (w : List ℕ) (n : ℕ) → length (put_count w n) ≡ length w
unfolding put_count
length_put_count w n = length-set w 9152 n

pub length_appended : (w : List ℕ) (p : Packet) → length (appended w p) ≡ length w
unfolding appended
length_appended w p =
    cases
    (λ (v : List ℕ). length v ≡ length w)
    (ltb (count_of w) 256)
    (put_count (put_packet w (count_of w) p) (count_of w + 1))
    w
    (λ e. length_put_count (put_packet w (count_of w) p) (count_of w + 1) ∙ length_put_packet w (count_of w) p)
    (λ e. refl)

pub length_removed : (w : List ℕ) (i : ℕ) → length (removed w i) ≡ length w
unfolding removed
length_removed w i =
    length_put_count (moved_up ((count_of w - 1 - i) * 8) w (7104 + i * 8)) (count_of w - 1)
    ∙ length_moved ((count_of w - 1 - i) * 8) w (7104 + i * 8)
