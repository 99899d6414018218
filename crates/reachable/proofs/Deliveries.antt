-- A delivery takes its packet out of the list: the packets before it and behind it, that no Leave overtakes a Join, and the table without it.
-- Assumes nothing.
use mathlib.Core.Bool.{not, true, ◌&&◌}
use mathlib.Core.List.{List, ◌∷◌, ◌++◌}
use mathlib.Core.Path.{◌≡◌, ap, ap₂, subst, sym, ◌∙◌}
use Prim.Native.Nat.{ℕ, suc, ◌-◌, ◌<◌}
use native.Mathlib.Omega.{arith}
use borrow.Author.Tests.{eq-eqb}
use lib.ListN.{drop, length, take}
use lib.Seq.{get_or-take, length-take-le, split_at}
use Rattle.sending.specs.Sending.{in_turn_of, same_lane}
use Rattle.tasks.specs.Packets.{same_way}
use Rattle.fractions.proofs.Cases.{not_true}
use Rattle.records.proofs.Alls.{all_at}
use Rattle.records.proofs.Somes.{clash}
use Rattle.table.specs.Words.{count_of, packet_of, packets_of, removed}
use Rattle.table.proofs.Packets.{count_removed, length_packets, packets_at, packets_removed}
use Rattle.tasks.specs.declared.Packet.{Packet}
use Rattle.reachable.specs.Invariant.{Every, Fits, PacketOk, Safe}
use Rattle.reachable.proofs.FitsKept.{fits_removed}
use Rattle.reachable.proofs.Follows.{NotOvertaken}
use Rattle.reachable.proofs.Lines.{SameLines, lines_removed}
use Rattle.reachable.proofs.PacketLists.{every_at, every_index, every_without}
use Rattle.reachable.proofs.SentPackets.{join_down, leave_down}

-- what holds of every packet in flight holds of the one at place i
pub each_at : (P : Packet → Type 0) (w : List ℕ) (i : ℕ) → i < count_of w → Every P (packets_of w) → P (packet_of w i)
each_at P w i h f =
    let z = packet_of w i in
    subst P (packets_at w i z h) (every_at z (packets_of w) i (omega (arith, length_packets w)) f)

pub packet_at : (w : List ℕ) (i : ℕ) → Safe w → i < count_of w → PacketOk w (packet_of w i)
packet_at w i o h = each_at (PacketOk w) w i h o.packets

same_lane_lem : (p q : Packet) → p.session ≡ q.session → p.hop ≡ q.hop → p.down ≡ true → q.down ≡ true → same_lane p q ≡ true
same_lane_lem p q s h d e =
    ap₂ ◌&&◌ (eq-eqb p.session q.session s) (ap₂ ◌&&◌ (eq-eqb p.hop q.hop h) (ap₂ same_way d e))

-- the packets before the one at place i, those behind it, and all but it
abbrev pub before : List ℕ → ℕ → List Packet
before w i = take i (packets_of w)

abbrev pub behind : List ℕ → ℕ → List Packet
behind w i = drop (suc i) (packets_of w)

abbrev pub rest : List ℕ → ℕ → List Packet
rest w i = before w i ++ behind w i

module _ (w : List ℕ) (i : ℕ) (h : i < count_of w) where
  pub parted : packets_of w ≡ before w i ++ packet_of w i ∷ behind w i
  parted =
      let z = packet_of w i in
      split_at (packets_of w) i z (omega (arith, length_packets w)) ∙ ap (λ (p : Packet). before w i ++ p ∷ behind w i) (packets_at w i z h)

  -- what holds of every packet in flight holds of the others
  pub each_other : (P : Packet → Type 0) → Every P (packets_of w) → Every P (rest w i)
  each_other P f = every_without (before w i) (packet_of w i) (behind w i) (subst (Every P) parted f)

module _ (w : List ℕ) (i : ℕ) (o : Safe w) (h : i < count_of w) where
  pub taken_out : packets_of (removed w i) ≡ rest w i
  taken_out = packets_removed w i o.fits.long h

  -- an earlier packet of the same session, hop and direction would be delivered first
  pub in_turn : in_turn_of w i ≡ true → Every (NotOvertaken (packet_of w i)) (before w i)
  unfolding in_turn_of
  in_turn t =
      let z = packet_of w i in
      let n : length (before w i) ≡ i = length-take-le i (packets_of w) (omega (arith, length_packets w)) in
      every_index z (before w i)
      (λ j l.
      subst (NotOvertaken z) (sym (get_or-take i (packets_of w) j z (omega (arith, n)) ∙ packets_at w j z (omega (arith, n)))) (not_before j (omega (arith, n))))
    where
      not_before : (j : ℕ) → j < i → NotOvertaken (packet_of w i) (packet_of w j)
      not_before j l = record {
        apart = λ a b c d.
            let p = packet_of w i in
            let q = packet_of w j in
            clash (same_lane q p)
            (same_lane_lem q p (sym c) d ((packet_at w j o (omega arith)).way ∙ join_down q.kind b) ((packet_at w i o h).way ∙ leave_down p.kind a))
            (not_true (same_lane q p) (all_at i (λ j. not (same_lane (packet_of w j) (packet_of w i))) j t l));
      }

  pub rest_ok : Every (PacketOk w) (rest w i)
  rest_ok = each_other w i h (PacketOk w) o.packets

  pub fewer : count_of (removed w i) ≡ count_of w - 1
  fewer = count_removed w i o.fits.long

  pub fits_left : Fits (removed w i)
  fits_left = fits_removed w i h o.fits

  pub lines_left : SameLines w (removed w i)
  lines_left = lines_removed w i o.fits.long
