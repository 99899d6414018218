-- The packets in flight as a list: one more at the end, and one taken out.
-- Assumes nothing.
use mathlib.Core.Bool.{false}
use mathlib.Core.List.{List, [], ◌∷◌, ◌++◌}
use mathlib.Core.Logic.{inl, ⊎_elim}
use mathlib.Core.Path.{◌≡◌, ap, refl, sym, ◌∙◌}
use Prim.Native.Nat.{ℕ, zero, suc, ◌+◌, ◌-◌, ◌*◌, ◌≤◌, ◌<◌}
use native.Mathlib.Numerals.{add-one}
use native.Mathlib.Omega.{arith}
use borrow.Author.Tests.{le-ltb, lt-ltb}
use lib.ListN.{get_or-append, drop, get_or, length, length-append, length-drop, take}
use lib.Seq.{ext_get_or, get_or-append-add, get_or-drop, get_or-take, length-take-le}
use Rattle.fractions.proofs.Cases.{order}
use Rattle.tasks.specs.declared.Kind.TheVariants as kind
use Rattle.tasks.specs.declared.Packet.{Packet}
use Rattle.table.specs.Values.{PacketInRange}
use Rattle.table.specs.Words.{appended, block_at, count_of, moved_up, packet_from, packet_of, packets_from, packets_of, put_count, put_packet, removed}
use Rattle.table.proofs.InRange.{count_most, packet_in_range}
use Rattle.table.proofs.Places.{length_put_packet, packet_agree, packets_from_agree, put_count_off, put_packet_off}
use Rattle.table.proofs.ReadBack.{count_back, packet_back}
use Rattle.table.proofs.Store.{block_shift, length_moved, moved_at, moved_below}

-- THE LIST ------------------------------------------------------------------------------------------------------------

pub length_packets_from : (k : ℕ) (w : List ℕ) (i : ℕ) → length (packets_from k w i) ≡ k
unfolding packets_from
length_packets_from zero w i = refl
length_packets_from (suc k) w i = ap suc (length_packets_from k w (i + 1))

pub get_d_packets_from : (k : ℕ) (w : List ℕ) (i m : ℕ) (z : Packet) → m < k → get_or (packets_from k w i) m z ≡ packet_of w (i + m)
unfolding packets_from
get_d_packets_from zero w i m z h = absurd (omega arith)
get_d_packets_from (suc k) w i zero z h = ap (packet_of w) (omega arith)
get_d_packets_from (suc k) w i (suc m) z h =
    let p : i + 1 + m ≡ i + suc m = omega arith in
    get_d_packets_from k w (i + 1) m z (omega arith) ∙ ap (packet_of w) p

pub length_packets : (w : List ℕ) → length (packets_of w) ≡ count_of w
unfolding packets_of
length_packets w = length_packets_from (count_of w) w 0

-- the packet at place i
pub packets_at : (w : List ℕ) (i : ℕ) (z : Packet) → i < count_of w → get_or (packets_of w) i z ≡ packet_of w i
unfolding packets_of
packets_at w i z h =
    let p : 0 + i ≡ i = omega arith in
    get_d_packets_from (count_of w) w 0 i z h ∙ ap (packet_of w) p

pub packets_in_range_lem : (w : List ℕ) (i : ℕ) (z : Packet) → i < count_of w → PacketInRange (get_or (packets_of w) i z)
packets_in_range_lem w i z h = rw (packets_at w i z h) (packet_in_range w i)

packets_snoc : (k : ℕ) (w : List ℕ) (i : ℕ) → packets_from (suc k) w i ≡ packets_from k w i ++ (packet_of w (i + k) ∷ [])
unfolding packets_from
packets_snoc zero w i =
    let p : i + 0 ≡ i = omega arith in
    rw p
packets_snoc (suc k) w i =
    let p : i + 1 + k ≡ i + suc k = omega arith in
    ap (λ (l : List Packet). packet_of w i ∷ l) (packets_snoc k w (i + 1) ∙ rw p)

packet_after_count : (w : List ℕ) (n i : ℕ) → i < 256 → packet_of (put_count w n) i ≡ packet_of w i
packet_after_count w n i h = packet_agree (put_count w n) w i (λ j a b. put_count_off w n j (inl (omega arith)))

-- ONE MORE ------------------------------------------------------------------------------------------------------------

pub appended_full : (w : List ℕ) (p : Packet) → count_of w ≡ 256 → appended w p ≡ w
unfolding appended
appended_full w p h = rw (le-ltb (count_of w) 256 (omega arith))

pub count_appended : (w : List ℕ) (p : Packet) → length w ≡ 9153 → count_of w < 256 → count_of (appended w p) ≡ count_of w + 1
unfolding appended
count_appended w p l h =
    rw
    (lt-ltb (count_of w) 256 h)
    (count_back (put_packet w (count_of w) p) (count_of w + 1) (length_put_packet w (count_of w) p ∙ l) (omega arith))

pub packets_appended : (w : List ℕ) (p : Packet)
    → length w ≡ 9153
    → count_of w < 256
    → PacketInRange p
    → packets_of (appended w p) ≡ packets_of w ++ (p ∷ [])
unfolding packets_of appended
packets_appended w p l h c =
    let n : ℕ = count_of w in
    let v : List ℕ = put_packet w n p in
    let x : List ℕ = put_count v (n + 1) in
    let lv : length v ≡ 9153 = length_put_packet w n p ∙ l in
    let a : count_of x ≡ suc n = count_back v (n + 1) lv (omega arith) ∙ add-one n in
    let b : packets_from n x 0 ≡ packets_from n w 0 =
    packets_from_agree
    n
    x
    w
    0
    (λ j e f.
    packet_after_count v (n + 1) j (omega arith) ∙ packet_agree v w j (λ i q r. put_packet_off w n p i (inl (omega arith)))) in
    let k : 0 + n ≡ n = omega arith in
    let d : packet_of x (0 + n) ≡ p = rw k (packet_after_count v (n + 1) n h ∙ packet_back w n p (omega arith) c) in
    rw (lt-ltb (count_of w) 256 h, a, packets_snoc n x 0, b, d)

-- ONE TAKEN OUT -------------------------------------------------------------------------------------------------------

no_packet_lem : Packet
no_packet_lem = record { session = 0; hop = 0; down = false; kind = kind.Update }

-- a packet whose words stand eight places further on
packet_shift : (v w : List ℕ) (i : ℕ)
    → ((j : ℕ) → 7104 + i * 8 ≤ j → j < 7104 + i * 8 + 8 → get_or v j 0 ≡ get_or w (j + 8) 0)
    → packet_of v i ≡ packet_of w (i + 1)
unfolding packet_of
packet_shift v w i h =
    let p : 7104 + i * 8 + 8 ≡ 7104 + (i + 1) * 8 = omega arith in
    ap packet_from (block_shift v w (7104 + i * 8) h ∙ ap (block_at w) p)

-- the list without its element i, place by place
without_below : {A : Type 0} (P : List A) (i m : ℕ) (z : A)
    → m < i
    → i < length P
    → get_or (take i P ++ drop (suc i) P) m z ≡ get_or P m z
without_below P i m z h l =
    let q : m < length (take i P) = rw (length-take-le i P (omega arith)) h in
    get_or-append (take i P) (drop (suc i) P) z m q ∙ get_or-take i P m z h

without_above : {A : Type 0} (P : List A) (i m : ℕ) (z : A)
    → i ≤ m
    → i < length P
    → get_or (take i P ++ drop (suc i) P) m z ≡ get_or P (m + 1) z
without_above P i m z h l =
    let q : length (take i P) ≡ i = length-take-le i P (omega arith) in
    let r : m ≡ length (take i P) + (m - i) = omega arith in
    let s : suc i + (m - i) ≡ m + 1 = omega arith in
    ap (λ (k : ℕ). get_or (take i P ++ drop (suc i) P) k z) r
    ∙ get_or-append-add (take i P) (drop (suc i) P) (m - i) z
    ∙ get_or-drop (suc i) P (m - i) z
    ∙ ap (λ (k : ℕ). get_or P k z) s

pub count_removed : (w : List ℕ) (i : ℕ) → length w ≡ 9153 → count_of (removed w i) ≡ count_of w - 1
unfolding removed
count_removed w i l =
    let m : count_of w ≤ 256 = count_most w in
    count_back
    (moved_up ((count_of w - 1 - i) * 8) w (7104 + i * 8))
    (count_of w - 1)
    (length_moved ((count_of w - 1 - i) * 8) w (7104 + i * 8) ∙ l)
    (omega arith)

pub packets_removed : (w : List ℕ) (i : ℕ)
    → length w ≡ 9153
    → i < count_of w
    → packets_of (removed w i) ≡ take i (packets_of w) ++ drop (suc i) (packets_of w)
unfolding packets_of removed
packets_removed w i l g =
    let n : ℕ = count_of w in
    let h : n ≤ 256 = count_most w in
    let k : ℕ = (n - 1 - i) * 8 in
    let a : ℕ = 7104 + i * 8 in
    let v : List ℕ = moved_up k w a in
    let x : List ℕ = put_count v (n - 1) in
    let P : List Packet = packets_from n w 0 in
    let lp : length P ≡ n = length_packets_from n w 0 in
    let lv : length v ≡ 9153 = length_moved k w a ∙ l in
    let cx : count_of x ≡ n - 1 = count_back v (n - 1) lv (omega arith) in
    let len : length (packets_from (n - 1) x 0) ≡ length (take i P ++ drop (suc i) P) =
    length_packets_from (n - 1) x 0
    ∙ sym (length-append (take i P) (drop (suc i) P)
    ∙ rw (length-take-le i P (omega arith), length-drop (suc i) P, lp) (omega arith)) in
    let each : (m : ℕ)
    → m < length (packets_from (n - 1) x 0)
    → get_or (packets_from (n - 1) x 0) m no_packet_lem ≡ get_or (take i P ++ drop (suc i) P) m no_packet_lem =
    λ m q.
    let r : m < n - 1 = rw (length_packets_from (n - 1) x 0) at q in
    get_d_packets_from (n - 1) x 0 m no_packet_lem r
    ∙ packet_after_count v (n - 1) (0 + m) (omega arith)
    ∙ ⊎_elim
    (λ (s : i ≤ m).
    packet_shift v w (0 + m) (λ j e f. moved_at k w a j (omega arith) (omega arith) (omega arith))
    ∙ ap (packet_of w) (omega arith)
    ∙ sym (get_d_packets_from n w 0 (m + 1) no_packet_lem (omega arith))
    ∙ sym (without_above P i m no_packet_lem s (omega arith)))
    (λ (s : m < i).
    packet_agree v w (0 + m) (λ j e f. moved_below k w a j (omega arith))
    ∙ sym (get_d_packets_from n w 0 m no_packet_lem (omega arith))
    ∙ sym (without_below P i m no_packet_lem s (omega arith)))
    (order i m) in
    rw cx (ext_get_or no_packet_lem (packets_from (n - 1) x 0) (take i P ++ drop (suc i) P) len each)
