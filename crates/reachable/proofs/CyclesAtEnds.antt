-- A delivery at a source or at a destination keeps the law of probe cycles, and so does every delivery.
-- Assumes nothing.
use Rattle.std.specs.Prelude.{None, Option, Some}
use mathlib.Core.Bool.{true}
use mathlib.Core.List.{List}
use mathlib.Core.Path.{◌≡◌, subst, sym}
use Prim.Native.Nat.{ℕ, ◌<◌}
use native.Mathlib.Omega.{arith}
use Rattle.ends.specs.Figure4.{destination_step_of}
use Rattle.events.specs.Events.{deliver_of}
use Rattle.sending.specs.Sending.{sent_from}
use Rattle.links.specs.declared.Place.{Place}
use Rattle.records.proofs.Somes.{clash}
use Rattle.soundness.specs.LinkDid.{GoesOn, is_join}
use Rattle.soundness.specs.ProbeCycle.{Waiting, in_cycle, sends_cycle}
use Rattle.soundness.specs.Sound.{Held}
use Rattle.table.specs.Words.{count_of, hops_of, packet_of, source_of}
use Rattle.tasks.specs.declared.Packet.{Packet}
use Rattle.reachable.specs.Cycle.{Awaited, Cycle}
use Rattle.reachable.specs.Invariant.{Every, Inv, PacketOk, also, none}
use Rattle.reachable.proofs.CycleCounts.{onward_for}
use Rattle.reachable.proofs.CycleFrame.{front_up, hop_front, response_in_cycle, same_stays}
use Rattle.reachable.proofs.CyclesAtLinks.{link_cycle}
use Rattle.reachable.proofs.CyclesAtSources.{source_keeps_cycle}
use Rattle.reachable.proofs.CyclesMoved.{alone, left_awaited, left_fewer, moved_cycle, taken_awaited}
use Rattle.reachable.proofs.Deliveries.{packet_at, rest, rest_ok}
use Rattle.reachable.proofs.EndSteps.{EndAfter, SourceAfter, deliver_either, sent_by_end, source_does}
use Rattle.reachable.proofs.Kept.{hop_same}
use Rattle.reachable.proofs.Sends.{onward_to}
use Rattle.reachable.proofs.SourceCycles.{destination_for_cycle, source_cycle}
use Rattle.reachable.proofs.SourceRules.{destination_done, up_kind}
use Rattle.tasks.specs.declared.Kind.{Kind}

module _ (w : List ℕ) (j : ℕ) (i : Inv w) (c : Cycle w) (h : j < count_of w) (v : List ℕ) where
  abbrev p : Packet
  p = packet_of w j

  abbrev s : ℕ
  s = p.session

  abbrev others : List Packet
  others = rest w j

  ok : PacketOk w p
  ok = packet_at w j i.safe h

  ls : s < 32
  ls = ok.within.session

  at_source_cycle : SourceAfter w p others v → Cycle v
  at_source_cycle a =
      source_keeps_cycle w i c s ls p.kind (source_does w p) (source_cycle p.kind (source_of w s)) others v a (rest_ok w j i.safe h)
      (left_awaited w j i.safe c h) (left_fewer w j i.safe c h) (λ t. alone w j i.safe c h ls (response_in_cycle p.kind t))

  -- what the destination sends goes up, and all links that were behind p still are behind it
  module _ (far : hops_of w s < p.hop) (a : EndAfter w p others v) where
    end_awaited : (o : Option Kind) → GoesOn up_kind o → (sends_cycle o ≡ true → in_cycle p.kind ≡ true) → Every (Awaited v) (onward_to s p.hop o)
    end_awaited None on for = none
    end_awaited (Some k) on for =
        also {q = sent_from s p.hop k}
        (record {
          new = λ t. absurd (clash (is_join k) t on.join);
          waits = λ t e l u n.
              subst (λ (x : Place). Waiting x s) (sym (a.lines.place e l))
              ((taken_awaited w j i.safe c h).waits (for t) e l (subst (λ (x : Place). Held x s) (a.lines.place e l) u)
              (omega (arith, n, front_up s p.hop k on.way (omega (arith, far)), hop_same w v s (a.lines.path s ls) e, hop_front p)));
        })
        none

    at_destination_cycle : Cycle v
    at_destination_cycle =
        let o = destination_step_of p.kind in
        moved_cycle w j i.safe c h v (sent_by_end p) a.packets a.lines.source
        (λ r l n. (a.lines.path r l, λ e m u. same_stays w v r e (a.lines.place e m) u))
        (λ r. onward_for r s p.hop p.kind o (destination_for_cycle p.kind))
        (end_awaited o (destination_done p.kind ok.within.kind) (destination_for_cycle p.kind))

pub deliver_cycle : (w : List ℕ) (j : ℕ) → Inv w → Cycle w → Cycle (deliver_of w j).words
deliver_cycle w j i c =
    deliver_either Cycle w j i.safe c
    (λ h turn. record {
      at_source = λ zero-hop v a. at_source_cycle w j i c h v a;
      at_destination = λ far v a. at_destination_cycle w j i c h v far a;
      at_link = λ low high v fine a. link_cycle w j i.safe c h low high v a;
    })
