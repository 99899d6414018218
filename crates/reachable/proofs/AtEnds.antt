-- A delivery at a source or at a destination keeps the invariant, and so does every delivery.
-- Assumes nothing.
use mathlib.Core.Bool.{true}
use mathlib.Core.List.{List}
use mathlib.Core.Path.{◌≡◌, ap, refl, subst, sym}
use Prim.Native.Nat.{ℕ, ◌<◌}
use native.Mathlib.Omega.{arith}
use Rattle.ends.specs.declared.Source.{Source}
use Rattle.ends.specs.Figure4.{destination_step_of}
use Rattle.events.specs.Events.{deliver_of}
use Rattle.sending.specs.Sending.{in_turn_of}
use Rattle.records.proofs.Somes.{clash}
use Rattle.soundness.specs.LinkDid.{is_join}
use Rattle.table.specs.Words.{count_of, hops_of, packet_of}
use Rattle.tasks.specs.declared.Packet.{Packet}
use Rattle.tasks.specs.Packets.{is_leave}
use Rattle.reachable.specs.Invariant.{AllFollowed, Inv, PacketOk, Reaches, active_in}
use Rattle.reachable.proofs.AtLinks.{link_kept}
use Rattle.reachable.proofs.Deliveries.{packet_at, rest}
use Rattle.reachable.proofs.EndSteps.{EndAfter, SourceAfter, deliver_either, sent_by_end, sent_by_source, source_did, source_does}
use Rattle.reachable.proofs.LinesFrame.{inv_packets}
use Rattle.reachable.proofs.SafeRecords.{end_safe, source_safe}
use Rattle.reachable.proofs.SentPackets.{leave_down, onward_followed}
use Rattle.reachable.proofs.SourceRules.{destination_done, down_kind, up_kind}
use Rattle.reachable.proofs.SourceWrites.{active_same}
use Rattle.reachable.proofs.TakenOut.{followed_after, reaches_after}

module _ (w : List ℕ) (j : ℕ) (i : Inv w) (h : j < count_of w) (turn : in_turn_of w j ≡ true) where
  abbrev p : Packet
  p = packet_of w j

  abbrev s : ℕ
  s = p.session

  abbrev others : List Packet
  others = rest w j

  ok : PacketOk w p
  ok = packet_at w j i.safe h

  at_source_kept : p.hop ≡ 0 → (v : List ℕ) → SourceAfter w p others v → Inv v
  at_source_kept zero-hop v a =
      let sent = sent_by_source w p in
      let d = source_does w p in
      let done = source_did w j i.safe h in
      inv_packets w v i (source_safe w j i.safe h v a) a.places a.paths (active_same a done.active)
      (λ t m l k u. subst (Reaches t m) (sym a.packets) (reaches_after w j h sent t m (λ f. absurd (no_leave f.leave)) u))
      (subst (AllFollowed (active_in w) _) (sym a.packets)
      (followed_after w j h i turn sent (λ m t a b. absurd (no_leave t))
      (λ c f. onward_followed (active_in w) s 0 down_kind d.on c done.on (λ t b. absurd (clash (is_join down_kind) t refl)))))
    where
      no_leave : is_leave p.kind ≡ true → ⊥
      no_leave t = omega (arith, zero-hop, (ok.down (leave_down p.kind t)).0)

  at_destination_kept : hops_of w s < p.hop → (v : List ℕ) → EndAfter w p others v → Inv v
  at_destination_kept far v a =
      let sent = sent_by_end p in
      inv_packets w v i (end_safe w j i.safe h v far a) a.lines.place a.lines.path (λ t l. ap (λ (z : Source). z.active) (a.lines.source t l))
      (λ t m l k u.
      subst (Reaches t m) (sym a.packets)
      (reaches_after w j h sent t m (λ f. absurd (omega (arith, far, k, f.hop, ap (hops_of w) f.session))) u))
      (subst (AllFollowed (active_in w) _) (sym a.packets)
      (followed_after w j h i turn sent (λ m t a b. absurd (omega (arith, far, a, b)))
      (λ c f.
      onward_followed (active_in w) s p.hop up_kind (destination_step_of p.kind) c (destination_done p.kind ok.within.kind)
      (λ t b. absurd (clash (is_join up_kind) t refl)))))

pub deliver_kept : (w : List ℕ) (j : ℕ) → Inv w → Inv (deliver_of w j).words
deliver_kept w j i =
    deliver_either Inv w j i.safe i
    (λ h turn. record {
      at_source = at_source_kept w j i h turn;
      at_destination = at_destination_kept w j i h turn;
      at_link = λ low high v fine a. link_kept w j i h turn low high v fine a;
    })
