-- A burst goes to sessions whose paths have the link, so `on_path_of` (sending/specs/Sending.antt) leaves none of them out: in every table that passes the
-- test of refusal 14, and so in every table that is reached.
-- Assumes nothing.
use mathlib.Core.Bool.{true}
use mathlib.Core.List.{List}
use mathlib.Core.Logic.{◌⊎◌, inl, inr}
use mathlib.Core.Path.{◌≡◌, ap}
use Prim.Native.Nat.{ℕ, ◌<◌, ◌≤◌}
use native.Mathlib.Omega.{arith}
use lib.ListN.{length}
use Rattle.sending.specs.Sending.{on_path_of}
use Rattle.handed.specs.Passes.{Passes}
use Rattle.soundness.proofs.Holding.{held_holds}
use Rattle.soundness.specs.LinkDid.{LinkDid, is_join}
use Rattle.soundness.specs.Sound.{Held}
use Rattle.table.specs.Words.{count_of, hop_of, hops_of, packet_of, place_of}
use Rattle.tasks.specs.declared.Packet.{Packet}
use Rattle.reachable.specs.Invariant.{Safe}
use Rattle.reachable.specs.Reachable.{Reachable}
use Rattle.reachable.proofs.BurstSets.{on_path_all}
use Rattle.reachable.proofs.EveryRecord.{reachable_inv}
use Rattle.reachable.proofs.LinkSteps.{hop_here, link_below, link_did, link_at, link_does}
use Rattle.reachable.proofs.PassesSafe.{passes_safe}
use Rattle.reachable.proofs.ReachablePasses.{reachable_passes}

-- packet p of place j is about to reach link e
module _ (w : List ℕ) (n : length w ≡ 9153) (o : Passes w) (j : ℕ) (h : j < count_of w)
    (low : 0 < (packet_of w j).hop) (high : (packet_of w j).hop ≤ hops_of w (packet_of w j).session) where
  abbrev p : Packet
  p = packet_of w j

  abbrev e : ℕ
  e = link_at w p

  safe : Safe w
  safe = passes_safe w n o

  did : LinkDid p.session p.kind (place_of w e) (link_does w p)
  did = link_did w j safe h low high

  -- a session that the link holds after the step it held before, or it is the one that joins here
  held_on_path : (r : ℕ) → r < 32 → Held (place_of w e) r ⊎ ((r ≡ p.session) × (is_join p.kind ≡ true)) → 0 < hop_of w r e
  held_on_path r l (inl g) = o.on_path e r (link_below w j safe h low high) l (held_holds (place_of w e) r g)
  held_on_path r l (inr g) = omega (arith, low, ap (λ (x : ℕ). hop_of w x e) g.0, hop_here w j safe h low high)

  pub passes_burst_on_path : on_path_of w e (link_does w p).to ≡ (link_does w p).to
  passes_burst_on_path = on_path_all w e (link_does w p).to did.few (λ r l t. held_on_path r l (did.held r (did.to r t)))

pub burst_on_path : (w : List ℕ) → Reachable w → (j : ℕ) → j < count_of w → 0 < (packet_of w j).hop → (packet_of w j).hop ≤ hops_of w (packet_of w j).session
    → on_path_of w (link_at w (packet_of w j)) (link_does w (packet_of w j)).to ≡ (link_does w (packet_of w j)).to
burst_on_path w r j h low high = passes_burst_on_path w (reachable_inv w r).safe.fits.long (reachable_passes w r) j h low high
