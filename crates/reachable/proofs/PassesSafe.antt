-- A table that passes the test of refusal 14 is safe. Where a Leave follows every Join of a session that is not active, which the test does not ask,
-- it has the invariant; so the empty table has it.
-- Assumes nothing.
use mathlib.Core.List.{List, []}
use mathlib.Core.Logic.{◌⊎◌, inl, inr}
use mathlib.Core.Path.{◌≡◌, subst, sym, ◌∙◌}
use Prim.Native.Nat.{ℕ, ◌+◌, ◌<◌, ◌≤◌}
use native.Mathlib.Omega.{arith}
use borrow.Author.Tests.{eq-eqb}
use lib.ListN.{length}
use Rattle.fractions.proofs.Cases.{order}
use Rattle.handed.specs.Passes.{LeaveToCome, Passes}
use Rattle.handed.proofs.EmptyPasses.{empty_is_passing}
use Rattle.handed.proofs.SumsAreRates.{passes_sums}
use Rattle.links.specs.declared.Place.{Place}
use Rattle.links.specs.Links.{F, R}
use Rattle.sessions.specs.Set.{has}
use Rattle.sessions.proofs.Members.{has_high, has_lt, has_or_not, is_out}
use Rattle.soundness.specs.Sound.{Sound}
use Rattle.soundness.proofs.Holding.{held_holds}
use Rattle.soundness.proofs.Weights.{members_within}
use Rattle.table.specs.Words.{count_of, empty_words, packet_of, packets_of, place_of}
use Rattle.table.proofs.Empty.{empty_length, empty_packets}
use Rattle.ranges.proofs.FitsMeans.{entry_fits_means, packet_fits_means}
use Rattle.table.proofs.InRange.{place_in_range, row_rates}
use Rattle.table.proofs.Packets.{length_packets, packets_at}
use Rattle.table.proofs.Workables.{place_workable}
use Rattle.reachable.specs.Invariant.{AllFollowed, Fits, Inv, LeaveFor, PacketOk, Reaches, Safe, active_in, end}
use Rattle.reachable.proofs.PacketLists.{every_index, some_index}

-- LINKS ---------------------------------------------------------------------------------------------------------------

module _ (w : List ℕ) (o : Passes w) (e : ℕ) (l : e < 64) where
  abbrev p : Place
  p = place_of w e

  -- R and F have no member in common, and none above the 32
  both_words : (s : ℕ) → has s (R p) + has s (F p) ≤ 1
  both_words s = go (has_or_not s (R p)) (order 32 s)
    where
      go : (has s (R p) ≡ 0) ⊎ (has s (R p) ≡ 1) → (32 ≤ s) ⊎ (s < 32) → has s (R p) + has s (F p) ≤ 1
      go (inl r) k = omega (arith, r, has_lt s (F p))
      go (inr r) (inl k) = omega (arith, r, has_high 32 s (R p) (place_in_range w e).link.r k)
      go (inr r) (inr k) = omega (arith, r, is_out (F p) s (o.apart e s l k (eq-eqb (has s (R p)) 1 r)))

  -- the sum of F is a rate, so it is at most C
  passes_sound : Sound p
  passes_sound =
      let range = place_in_range w e in
      let sum = passes_sums w o e l in
      record {
        workable = place_workable w e;
        r32 = range.link.r;
        f32 = range.link.f;
        apart = both_words;
        rates = λ s k h. entry_fits_means w e s k (o.entries e s l k (held_holds p s h));
        fits = λ N x c.
            members_within N x p c.pos (λ s k h. record { pos = (row_rates w e s k).pos; same = c.shown s k }) sum.sum (place_workable w e)
            sum.sums;
      }

-- PACKETS -------------------------------------------------------------------------------------------------------------

passes_packet : (w : List ℕ) → Passes w → (i : ℕ) → i < count_of w → PacketOk w (packet_of w i)
passes_packet w o i l = record {
  within = packet_fits_means w i (o.packets i l);
  known = o.known i l;
  way = o.way i l;
  down = λ t. o.down i l (o.way i l ∙ t);
  up = λ t. o.up i l (o.way i l ∙ t);
}

-- a Leave of a place stands in the list
leave_reaches : (w : List ℕ) (s h : ℕ) → LeaveToCome w s h → Reaches s h (packets_of w)
leave_reaches w s h u =
    let z = packet_of w 0 in
    some_index z (packets_of w) u.place (omega (arith, u.flying, length_packets w))
    (subst (LeaveFor s h) (sym (packets_at w u.place z u.flying)) (record { leave = u.leave; session = u.session; hop = u.hop }))

-- THE TABLE -----------------------------------------------------------------------------------------------------------

passes_fits : (w : List ℕ) → length w ≡ 9153 → Passes w → Fits w
passes_fits w n o = record {
  long = n;
  count = o.count;
  links = o.links;
  entries = λ e s l k h. o.entries e s l k (held_holds (place_of w e) s h);
  standing = o.standing;
  sources = o.sources;
  packets = o.packets;
}

pub passes_safe : (w : List ℕ) → length w ≡ 9153 → Passes w → Safe w
passes_safe w n o = record {
  fits = passes_fits w n o;
  place = passes_sound w o;
  fine = o.fine;
  source = λ s l. record { joined = o.joined s l; declared = λ i k. o.declared s i l k; once = λ i j k m q. o.once s i j l k m q };
  packets =
      let z = packet_of w 0 in
      every_index z (packets_of w)
      (λ i l.
      let k : i < count_of w = omega (arith, l, length_packets w) in
      subst (PacketOk w) (sym (packets_at w i z k)) (passes_packet w o i k));
}

pub passes_inv : (w : List ℕ) → length w ≡ 9153 → Passes w → AllFollowed (active_in w) [] (packets_of w) → Inv w
passes_inv w n o joins = record {
  safe = passes_safe w n o;
  entry = λ e s l k h.
      let t = held_holds (place_of w e) s h in
      record { on_path = o.on_path e s l k t; live = λ a. leave_reaches w s _ (o.live e s l k t a) };
  joins = joins;
}

pub empty_inv : Inv empty_words
empty_inv = passes_inv empty_words empty_length empty_is_passing (subst (AllFollowed (active_in empty_words) []) (sym empty_packets) end)
