-- The test of refusal 14 with its clauses put together by what they look at: each session, each packet and each link is asked for all of its clauses at
-- once. It is the same test (`once_over_lem`, proofs/OnceOver.antt), and the one that the code follows.
-- Assumes nothing: definitions.
use Rattle.std.specs.Prelude.{Bool, not, ◌&&◌, ◌||◌, List, ℕ, ltb}
use Rattle.links.specs.Links.{holds}
use Rattle.records.specs.Format.{all}
use Rattle.ranges.specs.Ranges.{count_fits, entry_fits, link_fits, packet_fits}
use Rattle.table.specs.Words.{count_of, hop_of, hops_of, place_of, source_of}
use Rattle.handed.specs.Handed.{leave_to_come, packet_on_its_way, packet_on_path, row_apart, source_in_range, stop_declared, stop_new, sum_fits}

-- the path of session s
unfoldable pub path_passes : List ℕ → ℕ → Bool
path_passes w s = all (hops_of w s) (λ i. stop_declared w s i && stop_new w s i)

-- session s
unfoldable pub session_passes : List ℕ → ℕ → Bool
session_passes w s = source_in_range w s && path_passes w s

-- the packet at place i
unfoldable pub packet_passes : List ℕ → ℕ → Bool
packet_passes w i = packet_fits w i && (packet_on_path w i && packet_on_its_way w i)

-- session s, where link e holds it
unfoldable pub member_passes : List ℕ → ℕ → ℕ → Bool
member_passes w e s = ltb 0 (hop_of w s e) && (entry_fits w e s && ((source_of w s).active || leave_to_come w s (hop_of w s e)))

-- all that link e holds
unfoldable pub row_passes : List ℕ → ℕ → Bool
row_passes w e = all 32 (λ s. not (holds (place_of w e) s) || member_passes w e s)

-- link e
unfoldable pub link_passes : List ℕ → ℕ → Bool
link_passes w e = link_fits w e && (row_apart w e && (row_passes w e && sum_fits w e))

-- the whole
unfoldable pub once_over : List ℕ → Bool
once_over w = count_fits w && (all 32 (session_passes w) && (all (count_of w) (packet_passes w) && all 64 (link_passes w)))
