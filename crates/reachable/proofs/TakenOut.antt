-- A delivery takes its packet out and sends others: the Leaves that were to come still are, and every Join is still followed.
-- Assumes nothing.
use mathlib.Core.Bool.{false, true}
use mathlib.Core.List.{List, [], ◌∷◌, ◌++◌}
use mathlib.Core.Path.{◌≡◌, subst}
use Prim.Native.Nat.{ℕ, ◌<◌, ◌≤◌}
use Rattle.sending.specs.Sending.{in_turn_of}
use Rattle.soundness.specs.LinkDid.{is_join}
use Rattle.table.specs.Words.{count_of, packet_of, packets_of}
use Rattle.tasks.specs.declared.Packet.{Packet}
use Rattle.tasks.specs.Packets.{is_leave}
use Rattle.reachable.specs.Invariant.{AllFollowed, Every, Inv, LeaveFor, PacketOk, Reaches, active_in}
use Rattle.reachable.proofs.Deliveries.{before, behind, in_turn, parted, rest}
use Rattle.reachable.proofs.Follows.{followed_moved, reaches_moved}
use Rattle.reachable.proofs.PacketLists.{every_left, every_map, every_rest, every_right}
use Rattle.reachable.proofs.SentPackets.{join_on_path, join_still_followed, last_of}

-- packet p stands at place j
module _ (w : List ℕ) (j : ℕ) (h : j < count_of w) where
  abbrev p : Packet
  p = packet_of w j

  -- a Leave that was to come still is, or it is p, and then what p sends must be one
  pub reaches_after : (sent : List Packet) (s n : ℕ) → (LeaveFor s n p → Reaches s n sent) → Reaches s n (packets_of w) → Reaches s n (rest w j ++ sent)
  reaches_after sent s n f u = reaches_moved s n (before w j) (behind w j) p sent (subst (Reaches s n) (parted w j h) u) f

  module _ (i : Inv w) where
    all_ok : Every (PacketOk w) (before w j ++ p ∷ behind w j)
    all_ok = subst (Every (PacketOk w)) (parted w j h) i.safe.packets

    all_followed : AllFollowed (active_in w) [] (before w j ++ p ∷ behind w j)
    all_followed = subst (AllFollowed (active_in w) []) (parted w j h) i.joins

    -- a Join of a session that is not active has a Leave behind it among the others
    pub join_followed_by : is_join p.kind ≡ true → active_in w p.session ≡ false → Reaches p.session p.hop (rest w j)
    join_followed_by t n = join_still_followed (active_in w) (before w j) p (behind w j) all_followed t n

    pub followed_after : in_turn_of w j ≡ true → (sent : List Packet)
        → ((n : ℕ) → is_leave p.kind ≡ true → p.hop < n → n ≤ last_of w p.session → Reaches p.session n sent)
        → ((c : List Packet) → ((s n : ℕ) → Reaches s n (rest w j) → Reaches s n c) → AllFollowed (active_in w) c sent)
        → AllFollowed (active_in w) [] (rest w j ++ sent)
    followed_after turn sent moves f =
        followed_moved (active_in w) (last_of w) p sent moves [] (before w j) (behind w j) (in_turn w j i.safe h turn)
        (every_map (before w j) (join_on_path w) (every_left (before w j) (p ∷ behind w j) all_ok))
        (every_map (behind w j) (join_on_path w) (every_rest (every_right (before w j) (p ∷ behind w j) all_ok)))
        all_followed (λ c u g. f c g)
