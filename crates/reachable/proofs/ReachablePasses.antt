-- 00, demand 3, first part: every table that is reached passes the test of refusal 14, so the machine never turns away a table of its own.
-- Assumes nothing.
use mathlib.Core.Bool.{true}
use mathlib.Core.List.{List}
use mathlib.Core.Path.{◌≡◌, subst, sym, ◌∙◌}
use Prim.Native.Nat.{ℕ, ◌<◌}
use native.Mathlib.Omega.{arith}
use borrow.Author.Tests.{ne_eqb}
use Rattle.handed.specs.Handed.{passes14_of}
use Rattle.handed.specs.Passes.{LeaveToCome, Passes}
use Rattle.handed.proofs.Passing.{means_passes}
use Rattle.links.specs.Links.{F, R}
use Rattle.sessions.specs.Set.{has}
use Rattle.soundness.proofs.Holding.{holds_held}
use Rattle.sessions.proofs.Members.{is_in}
use Rattle.soundness.proofs.Shares.{sound_not_past}
use Rattle.table.specs.Words.{count_of, hop_of, packet_of, packets_of, place_of}
use Rattle.table.proofs.Packets.{length_packets, packets_at}
use Rattle.reachable.specs.Invariant.{Inv, LeaveFor, Reaches}
use Rattle.reachable.specs.Reachable.{Reachable}
use Rattle.reachable.proofs.Deliveries.{packet_at}
use Rattle.reachable.proofs.EveryRecord.{reachable_inv}
use Rattle.reachable.proofs.PacketLists.{some_at}

-- a Leave of the list has a place in it
leave_to_come_lem : (w : List ℕ) (s h : ℕ) → Reaches s h (packets_of w) → LeaveToCome w s h
leave_to_come_lem w s h u =
    let z = packet_of w 0 in
    let r = some_at z (packets_of w) u in
    let k : r.0 < count_of w = omega (arith, r.1, length_packets w) in
    let o : LeaveFor s h (packet_of w r.0) = subst (LeaveFor s h) (packets_at w r.0 z k) r.2 in
    record { place = r.0; flying = k; session = o.session; leave = o.leave; hop = o.hop }

inv_passes : (w : List ℕ) → Inv w → Passes w
inv_passes w i = record {
  count = i.safe.fits.count;
  links = i.safe.fits.links;
  entries = λ e s l k t. i.safe.fits.entries e s l k (holds_held (place_of w e) s t);
  standing = i.safe.fits.standing;
  sources = i.safe.fits.sources;
  joined = λ s l a. (i.safe.source s l).joined a;
  packets = i.safe.fits.packets;
  declared = λ s j l k. (i.safe.source s l).declared j k;
  once = λ s j k l m n. (i.safe.source s l).once j k m n;
  known = λ j l. (packet_at w j i.safe l).known;
  down = λ j l t. let o = packet_at w j i.safe l in o.down (sym o.way ∙ t);
  up = λ j l t. let o = packet_at w j i.safe l in o.up (sym o.way ∙ t);
  way = λ j l. (packet_at w j i.safe l).way;
  apart = λ e s l k t.
      let p = place_of w e in
      ne_eqb (has s (F p)) 1 (λ q. omega (arith, (i.safe.place e l).apart s, is_in (R p) s t, q));
  on_path = λ e s l k t. (i.entry e s l k (holds_held (place_of w e) s t)).on_path;
  live = λ e s l k t a. leave_to_come_lem w s (hop_of w s e) ((i.entry e s l k (holds_held (place_of w e) s t)).live a);
  within_c = λ e l. sound_not_past (place_of w e) (i.safe.place e l);
  fine = i.safe.fine;
}

pub reachable_passes : (w : List ℕ) → Reachable w → Passes w
reachable_passes w r = inv_passes w (reachable_inv w r)

pub reachable_passes_14 : (w : List ℕ) → Reachable w → passes14_of w ≡ true
reachable_passes_14 w r = means_passes w (reachable_passes w r)
