-- A delivery at a source or at a destination: the table after it. And the table after a delivery, wherever its packet arrives.
-- Assumes nothing.
use Rattle.std.specs.Prelude.{Option}
use mathlib.Core.Bool.{Bool, false, true, ◌&&◌}
use mathlib.Core.List.{List, ◌++◌}
use mathlib.Core.Path.{◌≡◌, ap, refl, subst, sym, ◌∙◌}
use Prim.Native.Nat.{ℕ, zero, suc, ◌+◌, ◌-◌, ◌<◌, ◌≤◌}
use native.Mathlib.Omega.{arith}
use borrow.Author.Tests.{eqb-false, eqb-true, ltb-false, ltb-true}
use lib.Dec.{eqb, ltb}
use Rattle.ends.specs.declared.SourceDid.{SourceDid}
use Rattle.ends.specs.Figure3.{source_step_of}
use Rattle.ends.specs.Figure4.{destination_step_of}
use Rattle.events.specs.Events.{Step, arrive_of, at_destination_of, at_source_of, deliver_of}
use Rattle.sending.specs.Sending.{in_turn_of, one_if}
use Rattle.fractions.proofs.Cases.{and_both, cases}
use Rattle.records.proofs.Somes.{clash}
use Rattle.table.specs.Words.{count_of, hops_of, packet_of, removed, source_of}
use Rattle.tasks.specs.declared.Packet.{Packet}
use Rattle.tasks.specs.Packets.{goes_down}
use Rattle.reachable.specs.Invariant.{Every, PacketOk, Safe}
use Rattle.reachable.proofs.Deliveries.{fewer, fits_left, lines_left, packet_at, rest, taken_out}
use Rattle.reachable.proofs.Lines.{lines_trans}
use Rattle.reachable.proofs.LinkSteps.{LinkAfter, at_link_either, link_does}
use Rattle.reachable.proofs.PacketLists.{every_map}
use Rattle.reachable.proofs.Sends.{Sent, all_sent, length_onward, onward_to, sends_on}
use Rattle.reachable.proofs.SentPackets.{onward_ok}
use Rattle.reachable.proofs.SourceRules.{SourceDone, destination_done, down_kind, source_done, up_kind}
use Rattle.reachable.proofs.SourceWrites.{Written, source_at, source_written}
use Rattle.reachable.proofs.Unless.{unless_many_lem}
use Rattle.tasks.specs.declared.Kind.{Kind}

-- what the source of packet p does with it, and sends
abbrev pub source_does : List ℕ → Packet → SourceDid
source_does w p = source_step_of p.kind (source_of w p.session)

abbrev pub sent_by_source : List ℕ → Packet → List Packet
sent_by_source w p = onward_to p.session 0 (source_does w p).on

-- what its destination sends
abbrev pub sent_by_end : Packet → List Packet
sent_by_end p = onward_to p.session p.hop (destination_step_of p.kind)

-- v is the table w after packet p was taken out, with the packets `others` left, and its source did what it does; and its destination
abbrev pub SourceAfter : List ℕ → Packet → List Packet → List ℕ → Type 0
SourceAfter w p others v = Written w p.session (source_does w p).source others (sent_by_source w p) v

abbrev pub EndAfter : List ℕ → Packet → List Packet → List ℕ → Type 0
EndAfter w p others v = Sent w others (sent_by_end p) v

-- packet p stands at place j
module _ (w : List ℕ) (j : ℕ) (i : Safe w) (h : j < count_of w) where
  abbrev p : Packet
  p = packet_of w j

  abbrev s : ℕ
  s = p.session

  ok : PacketOk w p
  ok = packet_at w j i h

  ls : s < 32
  ls = ok.within.session

  -- AT ITS SOURCE -------------------------------------------------------------------------------------------------------

  abbrev d : SourceDid
  d = source_does w p

  pub source_did : SourceDone (source_of w s) d
  source_did = source_done p.kind (source_of w s) ok.within.kind (source_at w s i ls ok.known)

  pub source_sent_ok : Every (PacketOk w) (sent_by_source w p)
  source_sent_ok = onward_ok w s 0 down_kind d.on source_did.on ls ok.known (λ t. omega arith) (omega arith)

  at_source_either : (P : List ℕ → Type 0) → P w → ((v : List ℕ) → SourceAfter w p (rest w j) v → P v) → P (at_source_of w j p).words
  unfolding at_source_of
  at_source_either P k f =
      unless_many_lem P _ w _ k
      (λ (n : count_of w - 1 + one_if d.on ≤ 256).
      subst P (sym (sends_on _ s 0 d.on))
      (f _
      (source_written w (removed w j) (lines_left w j i h) (fits_left w j i h) s ls d.source source_did.within (rest w j) (sent_by_source w p)
      (taken_out w j i h) source_sent_ok (omega (arith, n, fewer w j i h, length_onward s 0 d.on)))))

  -- AT ITS DESTINATION --------------------------------------------------------------------------------------------------

  abbrev o : Option Kind
  o = destination_step_of p.kind

  module _ (far : hops_of w s < p.hop) where
    last_hop : p.hop ≤ hops_of w s + 1
    last_hop = go (goes_down p.kind) refl
      where
        go : (b : Bool) → goes_down p.kind ≡ b → p.hop ≤ hops_of w s + 1
        go true t = (ok.down t).1
        go false t = absurd (omega (arith, far, ok.up t))

    pub end_sent_ok : Every (PacketOk w) (sent_by_end p)
    end_sent_ok =
        onward_ok w s p.hop up_kind o (destination_done p.kind ok.within.kind) ls ok.known
        (λ t. absurd (clash (goes_down up_kind) t refl)) last_hop

    at_destination_either : (P : List ℕ → Type 0) → P w → ((v : List ℕ) → EndAfter w p (rest w j) v → P v) → P (at_destination_of w j p).words
    unfolding at_destination_of
    at_destination_either P k f =
        unless_many_lem P _ w _ k
        (λ (n : count_of w - 1 + one_if o ≤ 256).
        let a =
        all_sent (removed w j) (sent_by_end p) (fits_left w j i h) (omega (arith, n, fewer w j i h, length_onward s p.hop o))
        (every_map (sent_by_end p) (λ q k. k.within) end_sent_ok) in
        subst P (sym (sends_on _ s p.hop o))
        (f _
        (record {
          lines = lines_trans (lines_left w j i h) a.lines;
          packets = a.packets ∙ ap (λ (l : List Packet). l ++ sent_by_end p) (taken_out w j i h);
          fits = a.fits;
        })))

-- WHEREVER IT ARRIVES -------------------------------------------------------------------------------------------------

-- what the proof of P is to give for each place where packet p of place j may arrive
pub record Arrives (P : List ℕ → Type 0) (w : List ℕ) (j : ℕ) : Type 0 where
  pub at_source : (packet_of w j).hop ≡ 0 → (v : List ℕ) → SourceAfter w (packet_of w j) (rest w j) v → P v
  pub at_destination : hops_of w (packet_of w j).session < (packet_of w j).hop → (v : List ℕ) → EndAfter w (packet_of w j) (rest w j) v → P v
  pub at_link : 0 < (packet_of w j).hop → (packet_of w j).hop ≤ hops_of w (packet_of w j).session → (v : List ℕ)
      → (link_does w (packet_of w j)).fine ≡ true
      → LinkAfter w (packet_of w j) (rest w j) v
      → P v

pub deliver_either : (P : List ℕ → Type 0) (w : List ℕ) (j : ℕ) → Safe w → P w → (j < count_of w → in_turn_of w j ≡ true → Arrives P w j)
    → P (deliver_of w j).words
unfolding deliver_of arrive_of
deliver_either P w j i k f =
    cases (λ (x : Step). P x.words) (ltb j (count_of w) && in_turn_of w j) _ _
    (λ e. let a = and_both (ltb j (count_of w)) (in_turn_of w j) e in let h = ltb-true j (count_of w) a.0 in arrive h (f h a.1))
    (λ e. k)
  where
    positive : (n : ℕ) → (n ≡ 0 → ⊥) → 0 < n
    positive zero f = absurd (f refl)
    positive (suc n) f = omega arith

    arrive : j < count_of w → Arrives P w j → P (arrive_of w j (packet_of w j)).words
    arrive h g =
        let p = packet_of w j in
        let n = hops_of w p.session in
        cases (λ (x : Step). P x.words) (eqb p.hop 0) _ _
        (λ e. at_source_either w j i h P k (g.at_source (eqb-true p.hop 0 e)))
        (λ e.
        cases (λ (x : Step). P x.words) (ltb n p.hop) _ _
        (λ t. let far = ltb-true n p.hop t in at_destination_either w j i h far P k (g.at_destination far))
        (λ t.
        let low = positive p.hop (eqb-false p.hop 0 e) in
        let high = ltb-false n p.hop t in
        at_link_either w j i h low high P k (g.at_link low high)))
