-- 01, refusal 14: the tests of packets and of their count, when a packet is added or taken out.
-- Assumes nothing.
use mathlib.Core.Bool.{true}
use mathlib.Core.List.{List}
use mathlib.Core.Logic.{inl}
use mathlib.Core.Path.{◌≡◌, ap, refl, ◌∙◌}
use Prim.Native.Nat.{ℕ, ◌+◌, ◌-◌, ◌*◌, ◌≤◌, ◌<◌}
use native.Mathlib.Omega.{arith}
use borrow.Author.Tests.{le-leb, lt-ltb, ltb-true}
use lib.Dec.{ltb}
use lib.ListN.{get_or, length}
use lib.Seq.{get_or-set_same}
use Rattle.fractions.proofs.Cases.{cases}
use Rattle.fractions.proofs.Ranges.{within_is_rate}
use Rattle.tasks.specs.declared.Kind.{Kind}
use Rattle.tasks.specs.declared.Kind.TheVariants as kind
use Rattle.tasks.specs.declared.Packet.{Packet}
use Rattle.ranges.specs.Ranges.{count_fits, kind_fits, packet_fits, rated_fits, words_fit}
use Rattle.table.specs.Values.{KindWithin, PacketWithin}
use Rattle.table.specs.Words.{appended, block_at, count_of, moved_up, packet_words, put_count, put_packet, removed, words_for}
use Rattle.table.specs.Codes.{bit_of}
use Rattle.table.proofs.Codes.{bit_most, eta_most, tau_most}
use Rattle.table.proofs.InRange.{count_most}
use Rattle.table.proofs.Places.{length_put_packet, put_count_off, put_packet_off}
use Rattle.table.proofs.ReadBack.{words_down, words_hop, words_session}
use Rattle.table.proofs.Store.{Agree, block_agree, block_back, block_shift, eight, length_moved, moved_at, moved_below}

-- THE COUNT -----------------------------------------------------------------------------------------------------------

pub count_fits_agree : (v w : List ℕ) → Agree v w 9152 1 → count_fits v ≡ count_fits w
unfolding count_fits
count_fits_agree v w h = rw (h 9152 (omega arith) (omega arith))

count_fits_put : (w : List ℕ) (n : ℕ) → length w ≡ 9153 → n ≤ 256 → count_fits (put_count w n) ≡ true
unfolding count_fits put_count
count_fits_put w n l h = rw (get_or-set_same w 9152 n 0 (omega arith)) (le-leb n 256 h)

pub count_fits_appended : (w : List ℕ) (p : Packet) → length w ≡ 9153 → count_fits w ≡ true → count_fits (appended w p) ≡ true
unfolding appended
count_fits_appended w p l h =
    let n : ℕ = count_of w in
    cases
    (λ (v : List ℕ). count_fits v ≡ true)
    (ltb n 256)
    (put_count (put_packet w n p) (n + 1))
    w
    (λ e. count_fits_put (put_packet w n p) (n + 1) (length_put_packet w n p ∙ l) (omega (arith, ltb-true n 256 e)))
    (λ e. h)

pub count_fits_removed : (w : List ℕ) (i : ℕ) → length w ≡ 9153 → count_fits (removed w i) ≡ true
unfolding removed
count_fits_removed w i l =
    let m : count_of w ≤ 256 = count_most w in
    count_fits_put
    (moved_up ((count_of w - 1 - i) * 8) w (7104 + i * 8))
    (count_of w - 1)
    (length_moved ((count_of w - 1 - i) * 8) w (7104 + i * 8) ∙ l)
    (omega arith)

-- A PACKET ------------------------------------------------------------------------------------------------------------

pub packet_fits_agree : (v w : List ℕ) (i : ℕ) → Agree v w (7104 + i * 8) 8 → packet_fits v i ≡ packet_fits w i
unfolding packet_fits
packet_fits_agree v w i h = rw (block_agree v w (7104 + i * 8) h)

kind_fits_back : (s h d : ℕ) (k : Kind) → KindWithin k → kind_fits (eight (words_for s h d k)) ≡ true
unfolding kind_fits rated_fits
kind_fits_back s h d (kind.Join x n) g = rw (within_is_rate g.0) (eta_most n g.1)
kind_fits_back s h d (kind.Probe x n) g = rw (within_is_rate g.0) (eta_most n g.1)
kind_fits_back s h d (kind.Response t x n) g = rw (tau_most t, within_is_rate g.0) (eta_most n g.1)
kind_fits_back s h d kind.Update g = refl
kind_fits_back s h d kind.Bottleneck g = refl
kind_fits_back s h d (kind.SetBottleneck beta) g = bit_most beta
kind_fits_back s h d kind.Leave g = refl

words_fit_back : (p : Packet) → PacketWithin p → words_fit (eight (packet_words p)) ≡ true
unfolding words_fit packet_words
words_fit_back p g =
    let s : ℕ = p.session in
    let h : ℕ = p.hop in
    let d : ℕ = bit_of p.down in
    rw (
      kind_fits_back s h d p.kind g.kind,
      words_session s h d p.kind,
      words_hop s h d p.kind,
      words_down s h d p.kind,
      le-leb s 31 (omega (arith, g.session)),
      le-leb h 9 g.hop,
      bit_most p.down,
    )

pub packet_fits_back : (w : List ℕ) (i : ℕ) (p : Packet)
    → 7104 + i * 8 + 8 ≤ length w
    → PacketWithin p
    → packet_fits (put_packet w i p) i ≡ true
unfolding packet_fits put_packet
packet_fits_back w i p h g = rw (block_back w (7104 + i * 8) (packet_words p) h) (words_fit_back p g)

-- ALL IN FLIGHT -------------------------------------------------------------------------------------------------------

packet_fits_count : (w : List ℕ) (n i : ℕ) → i < 256 → packet_fits (put_count w n) i ≡ packet_fits w i
packet_fits_count w n i h = packet_fits_agree (put_count w n) w i (λ j a b. put_count_off w n j (inl (omega arith)))

pub packet_fits_appended : (w : List ℕ) (p : Packet) (i : ℕ)
    → count_of w < 256
    → i < count_of w
    → packet_fits (appended w p) i ≡ packet_fits w i
unfolding appended
packet_fits_appended w p i h m =
    let n : ℕ = count_of w in
    rw
    (lt-ltb n 256 h)
    (packet_fits_count (put_packet w n p) (n + 1) i (omega arith)
    ∙ packet_fits_agree (put_packet w n p) w i (λ j a b. put_packet_off w n p j (inl (omega arith))))

pub packet_fits_appended_last : (w : List ℕ) (p : Packet)
    → length w ≡ 9153
    → count_of w < 256
    → PacketWithin p
    → packet_fits (appended w p) (count_of w) ≡ true
unfolding appended
packet_fits_appended_last w p l h g =
    let n : ℕ = count_of w in
    rw
    (lt-ltb n 256 h)
    (packet_fits_count (put_packet w n p) (n + 1) n h ∙ packet_fits_back w n p (omega arith) g)

pub packet_fits_removed_below : (w : List ℕ) (i j : ℕ) → j < i → j < 256 → packet_fits (removed w i) j ≡ packet_fits w j
unfolding removed
packet_fits_removed_below w i j h m =
    let k : ℕ = (count_of w - 1 - i) * 8 in
    let v : List ℕ = moved_up k w (7104 + i * 8) in
    packet_fits_count v (count_of w - 1) j m
    ∙ packet_fits_agree v w j (λ q a b. moved_below k w (7104 + i * 8) q (omega arith))

packet_fits_shift : (v w : List ℕ) (i : ℕ)
    → ((j : ℕ) → 7104 + i * 8 ≤ j → j < 7104 + i * 8 + 8 → get_or v j 0 ≡ get_or w (j + 8) 0)
    → packet_fits v i ≡ packet_fits w (i + 1)
unfolding packet_fits
packet_fits_shift v w i h =
    let p : 7104 + i * 8 + 8 ≡ 7104 + (i + 1) * 8 = omega arith in
    ap words_fit (block_shift v w (7104 + i * 8) h ∙ ap (block_at w) p)

pub packet_fits_removed_above : (w : List ℕ) (i j : ℕ)
    → length w ≡ 9153
    → i ≤ j
    → j + 1 < count_of w
    → packet_fits (removed w i) j ≡ packet_fits w (j + 1)
unfolding removed
packet_fits_removed_above w i j l h m =
    let n : ℕ = count_of w in
    let t : n ≤ 256 = count_most w in
    let k : ℕ = (n - 1 - i) * 8 in
    let v : List ℕ = moved_up k w (7104 + i * 8) in
    packet_fits_count v (n - 1) j (omega arith)
    ∙ packet_fits_shift v w j (λ q a b. moved_at k w (7104 + i * 8) q (omega arith) (omega arith) (omega arith))
