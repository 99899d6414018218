-- 01, "The tasks": "Dropped too, and never met from an empty table: a Response at a link where its session is not both in R and waiting for a
-- response, and a Join at a link that already holds its session". Both are proved of every table that is reached and every packet in flight that is
-- about to reach a link.
-- Assumes nothing.
use mathlib.Core.Bool.{Bool, cond, false, true}
use mathlib.Core.List.{List}
use mathlib.Core.Path.{◌≡◌, ap}
use Prim.Native.Nat.{ℕ, ◌+◌, ◌-◌, ◌<◌, ◌≤◌}
use native.Mathlib.Omega.{arith}
use Rattle.links.specs.Links.{holds}
use Rattle.records.proofs.Somes.{not_so}
use Rattle.soundness.proofs.Holding.{holds_held}
use Rattle.soundness.specs.LinkDid.{is_join}
use Rattle.soundness.specs.ProbeCycle.{Waiting, is_response}
use Rattle.table.specs.Words.{count_of, hops_of, packet_of, place_of, stop_of}
use Rattle.reachable.specs.Cycle.{Awaited, front_of}
use Rattle.reachable.specs.Reachable.{Reachable}
use Rattle.reachable.proofs.CycleFrame.{response_in_cycle}
use Rattle.reachable.proofs.Deliveries.{each_at, packet_at}
use Rattle.reachable.proofs.EveryRecord.{reachable_cycle, reachable_inv}
use Rattle.reachable.proofs.LinkSteps.{hop_here, link_below, link_at}
use Rattle.reachable.proofs.SentPackets.{join_down, response_up}

-- what is known of the packet at place i
awaited_at : (w : List ℕ) → Reachable w → (i : ℕ) → i < count_of w → Awaited w (packet_of w i)
awaited_at w r i l = each_at (Awaited w) w i l (reachable_cycle w r).awaited

-- a Join is about to reach no link that holds its session
pub join_not_held : (w : List ℕ) → Reachable w → (i : ℕ) → i < count_of w → is_join (packet_of w i).kind ≡ true
    → (packet_of w i).hop ≤ hops_of w (packet_of w i).session
    → holds (place_of w (stop_of w (packet_of w i).session ((packet_of w i).hop - 1))) (packet_of w i).session ≡ false
join_not_held w r i l t high =
    let v = (reachable_inv w r).safe in
    let p = packet_of w i in
    let e = link_at w p in
    let low = ((packet_at w i v l).down (join_down p.kind t)).0 in
    not_so (holds (place_of w e) p.session)
    (λ h.
    omega (
      arith,
      hop_here w i v l low high,
      (awaited_at w r i l).new t e (link_below w i v l low high) (holds_held (place_of w e) p.session h),
    ))

-- a Response is about to reach no link that holds its session but is not both restricting it and waiting. A link where a Leave was first no longer
-- holds the session, and there the Response is dropped by the rule for such links
pub response_awaited : (w : List ℕ) → Reachable w → (i : ℕ) → i < count_of w → is_response (packet_of w i).kind ≡ true
    → 0 < (packet_of w i).hop
    → holds (place_of w (stop_of w (packet_of w i).session ((packet_of w i).hop - 1))) (packet_of w i).session ≡ true
    → Waiting (place_of w (stop_of w (packet_of w i).session ((packet_of w i).hop - 1))) (packet_of w i).session
response_awaited w r i l t low h =
    let v = (reachable_inv w r).safe in
    let p = packet_of w i in
    let e = link_at w p in
    let up = response_up p.kind t in
    let high = (packet_at w i v l).up up in
    let front : front_of p ≡ p.hop + 1 = ap (λ (b : Bool). cond b p.hop (p.hop + 1)) up in
    (awaited_at w r i l).waits (response_in_cycle p.kind t) e (link_below w i v l low high) (holds_held (place_of w e) p.session h)
    (omega (arith, hop_here w i v l low high, front))
