-- 01, refusal 14, and 02, §1: the test of a table that is handed in, one definition for each clause of 01's sentence; 02's clause, that no maximum is
-- above its access rate, is asked with the ranges of a source's words (`numbers_fit`, ranges/specs/Ranges.antt). w is the table's words.
-- Only what is in use is looked at: an entry where its session is in R or F, a source whose session has joined, the links of a path, the packets in
-- flight, of these the words that their kind uses, and a told rate where one was told. Of every session it is looked at whether it is active and how
-- long its path is.
-- Assumes nothing: definitions.
use Rattle.std.specs.Prelude.{Bool, cond, false, not, true, ◌&&◌, ◌||◌, List, ℕ, ◌+◌, eqb, leb, ltb}
use Rattle.links.specs.Links.{B, holds, is_fine, is_past_c, sum_of}
use Rattle.records.specs.Format.{all}
use Rattle.sessions.specs.Set.{has_of}
use Rattle.ranges.specs.Ranges.{count_fits, entry_fits, link_fits, packet_fits, source_fits, standing_fits}
use Rattle.table.specs.Words.{count_of, declared_in, hop_of, hops_of, link_of, packet_of, place_of, source_of, stop_of}
use Rattle.tasks.specs.Packets.{goes_down, is_leave, same_way}

-- session s has joined: it has a path
unfoldable pub has_joined : List ℕ → ℕ → Bool
has_joined w s = ltb 0 (hops_of w s)

-- "A FIELD OUTSIDE ITS RANGE, A RATE NOT IN LOWEST TERMS" -------------------------------------------------------------

unfoldable pub links_in_range : List ℕ → Bool
links_in_range w = all 64 (link_fits w)

unfoldable pub entry_in_range : List ℕ → ℕ → ℕ → Bool
entry_in_range w e s = not (holds (place_of w e) s) || entry_fits w e s

unfoldable pub row_in_range : List ℕ → ℕ → Bool
row_in_range w e = all 32 (entry_in_range w e)

unfoldable pub entries_in_range : List ℕ → Bool
entries_in_range w = all 64 (row_in_range w)

-- of a session that has joined its words, the clause of 02, §1 among them; an active session has a path
unfoldable pub source_in_range : List ℕ → ℕ → Bool
source_in_range w s = standing_fits w s && cond (has_joined w s) (source_fits w s) (not (source_of w s).active)

unfoldable pub sources_in_range : List ℕ → Bool
sources_in_range w = all 32 (source_in_range w)

unfoldable pub packets_in_range : List ℕ → Bool
packets_in_range w = all (count_of w) (packet_fits w)

unfoldable pub fields_in_range : List ℕ → Bool
fields_in_range w = count_fits w && (links_in_range w && (entries_in_range w && (sources_in_range w && packets_in_range w)))

-- "A PATH OVER AN UNDECLARED LINK OR OVER ONE TWICE" ------------------------------------------------------------------

unfoldable pub stop_declared : List ℕ → ℕ → ℕ → Bool
stop_declared w s i = declared_in w (stop_of w s i)

unfoldable pub path_declared : List ℕ → ℕ → Bool
path_declared w s = all (hops_of w s) (stop_declared w s)

unfoldable pub paths_declared : List ℕ → Bool
paths_declared w = all 32 (path_declared w)

-- the link at place i is another than those before it
unfoldable pub stop_new : List ℕ → ℕ → ℕ → Bool
stop_new w s i = all i (λ j. not (eqb (stop_of w s j) (stop_of w s i)))

unfoldable pub path_once : List ℕ → ℕ → Bool
path_once w s = all (hops_of w s) (stop_new w s)

unfoldable pub paths_once : List ℕ → Bool
paths_once w = all 32 (path_once w)

-- "A PACKET OFF ITS PATH OR GOING THE WAY ITS KIND NEVER GOES" --------------------------------------------------------

-- on a path of n links: a packet on the way down is about to reach a link or the destination, one on the way up a link or the source
abbrev pub hop_on_path : ℕ → Bool → ℕ → Bool
hop_on_path n true h = ltb 0 h && leb h (n + 1)
hop_on_path n false h = leb h n

unfoldable pub packet_on_path : List ℕ → ℕ → Bool
packet_on_path w i =
    let p = packet_of w i in
    has_joined w p.session && hop_on_path (hops_of w p.session) p.down p.hop

unfoldable pub packets_on_path : List ℕ → Bool
packets_on_path w = all (count_of w) (packet_on_path w)

-- `down` is the way of the kind
unfoldable pub packet_on_its_way : List ℕ → ℕ → Bool
packet_on_its_way w i =
    let p = packet_of w i in
    same_way p.down (goes_down p.kind)

unfoldable pub packets_on_their_way : List ℕ → Bool
packets_on_their_way w = all (count_of w) (packet_on_its_way w)

-- "A SESSION IN BOTH R AND F OF A LINK" -------------------------------------------------------------------------------

unfoldable pub session_apart : List ℕ → ℕ → ℕ → Bool
session_apart w e s = not (has_of s (link_of w e).r && has_of s (link_of w e).f)

unfoldable pub row_apart : List ℕ → ℕ → Bool
row_apart w e = all 32 (session_apart w e)

unfoldable pub apart : List ℕ → Bool
apart w = all 64 (row_apart w)

-- "AN ENTRY OFF ITS SESSION'S PATH" -----------------------------------------------------------------------------------

unfoldable pub entry_on_path : List ℕ → ℕ → ℕ → Bool
entry_on_path w e s = not (holds (place_of w e) s) || ltb 0 (hop_of w s e)

unfoldable pub row_on_path : List ℕ → ℕ → Bool
row_on_path w e = all 32 (entry_on_path w e)

unfoldable pub entries_on_path : List ℕ → Bool
entries_on_path w = all 64 (row_on_path w)

-- "AN ENTRY OF A SESSION THAT IS NEITHER ACTIVE NOR HAS A LEAVE STILL TO REACH THAT LINK" -----------------------------

-- the packet at place i is a Leave of session s that hop h is still to see
unfoldable pub leave_ahead : List ℕ → ℕ → ℕ → ℕ → Bool
leave_ahead w s h i =
    let p = packet_of w i in
    eqb p.session s && (is_leave p.kind && leb p.hop h)

-- some packet in flight is one
unfoldable pub leave_to_come : List ℕ → ℕ → ℕ → Bool
leave_to_come w s h = not (all (count_of w) (λ i. not (leave_ahead w s h i)))

unfoldable pub entry_live : List ℕ → ℕ → ℕ → Bool
entry_live w e s = not (holds (place_of w e) s) || ((source_of w s).active || leave_to_come w s (hop_of w s e))

unfoldable pub row_live : List ℕ → ℕ → Bool
row_live w e = all 32 (entry_live w e)

unfoldable pub entries_live : List ℕ → Bool
entries_live w = all 64 (row_live w)

-- "A LINK WHOSE F SUMS PAST C OR WHOSE SUMS OR B MEET 12" -------------------------------------------------------------

-- where a partial sum is too fine, B is (links, `bound_of`)
unfoldable pub sum_fits : List ℕ → ℕ → Bool
sum_fits w e = not (is_past_c (sum_of (place_of w e))) && is_fine (B (place_of w e))

unfoldable pub sums_fit : List ℕ → Bool
sums_fit w = all 64 (sum_fits w)

-- THE WHOLE TEST ------------------------------------------------------------------------------------------------------

-- the clauses on paths and packets
unfoldable pub paths_pass : List ℕ → Bool
paths_pass w = paths_declared w && (paths_once w && (packets_on_path w && packets_on_their_way w))

-- the clauses on links and entries
unfoldable pub links_pass : List ℕ → Bool
links_pass w = apart w && (entries_on_path w && (entries_live w && sums_fit w))

-- refusal 14 does not meet the table
unfoldable pub passes14_of : List ℕ → Bool
passes14_of w = fields_in_range w && (paths_pass w && links_pass w)
