-- A delivery takes its packet out: the packets of probe cycles that are left, and what is kept where that which is sent stands in its place.
-- Assumes nothing.
use mathlib.Core.Bool.{true}
use mathlib.Core.List.{List, ◌++◌}
use mathlib.Core.Path.{◌≡◌, ap, subst, ◌∙◌}
use Prim.Native.Nat.{ℕ, ◌+◌, ◌<◌, ◌≤◌}
use native.Mathlib.Omega.{arith}
use Rattle.ends.specs.declared.Source.{Source}
use Rattle.links.specs.Links.{is_idle}
use Rattle.soundness.specs.ProbeCycle.{in_cycle}
use Rattle.table.specs.Words.{count_of, packet_of, packets_of, path_of, source_of}
use Rattle.tasks.specs.declared.Packet.{Packet}
use Rattle.reachable.specs.Cycle.{Awaited, Cycle, cycle_of, cycles_of}
use Rattle.reachable.specs.Invariant.{Every, Safe}
use Rattle.reachable.proofs.CycleCounts.{cycle_own, cycles_parted}
use Rattle.reachable.proofs.CycleFrame.{Stays, cycle_after}
use Rattle.reachable.proofs.Deliveries.{before, behind, each_at, each_other, parted, rest, rest_ok}

-- packet p stands at place j
module _ (w : List ℕ) (j : ℕ) (i : Safe w) (c : Cycle w) (h : j < count_of w) where
  abbrev p : Packet
  p = packet_of w j

  abbrev others : List Packet
  others = rest w j

  pub taken_awaited : Awaited w p
  taken_awaited = each_at (Awaited w) w j h c.awaited

  pub left_awaited : Every (Awaited w) others
  left_awaited = each_other w j h (Awaited w) c.awaited

  counts : (r : ℕ) → cycles_of r (packets_of w) ≡ cycle_of r p.session p.kind + cycles_of r others
  counts r = ap (cycles_of r) (parted w j h) ∙ cycles_parted r (before w j) p (behind w j)

  pub left_fewer : (r : ℕ) → cycles_of r others ≤ cycles_of r (packets_of w)
  left_fewer r = omega (arith, counts r)

  -- a packet of a probe cycle is its session's only one
  pub alone : p.session < 32 → in_cycle p.kind ≡ true → cycles_of p.session others ≡ 0
  alone l t = omega (arith, counts p.session, c.one p.session l, cycle_own p.session p.kind t)

  pub moved_cycle : (v : List ℕ) (sent : List Packet) → packets_of v ≡ others ++ sent
      → ((r : ℕ) → r < 32 → source_of v r ≡ source_of w r)
      → ((r : ℕ) → r < 32 → 0 < cycles_of r others → (path_of v r ≡ path_of w r) × Stays w v r)
      → ((r : ℕ) → cycles_of r sent ≤ cycle_of r p.session p.kind)
      → Every (Awaited v) sent
      → Cycle v
  moved_cycle v sent packets sources stays few new =
      cycle_after w v others sent packets (rest_ok w j i h) left_awaited stays
      (λ r l. omega (arith, counts r, few r, c.one r l))
      (λ r l t. omega (arith, counts r, few r, c.idle r l (subst (λ (z : Source). is_idle z.mu ≡ true) (sources r l) t)))
      new
