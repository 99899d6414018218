-- 01, "Settled: five conditions": the test of a table, one definition for each condition. w is the table's words.
-- Assumes nothing: definitions.
use Rattle.std.specs.Prelude.{Bool, false, not, ◌&&◌, ◌||◌, List, ℕ, eqb, Result, is_ok, None, Option, Some}
use Rattle.ends.specs.Figure3.{D}
use Rattle.fractions.specs.declared.Rate.{Rate}
use Rattle.fractions.specs.Fraction.{le_of, same_of, whole_of}
use Rattle.links.specs.declared.Bound.{Bound}
use Rattle.links.specs.declared.Place.{Place}
use Rattle.links.specs.declared.NoTotal.{NoTotal}
use Rattle.links.specs.Links.{B, R, below_b, equals_b, holds, in_f, in_r, is_idle, mu_at, rate_at, sum_of}
use Rattle.records.specs.Format.{all}
use Rattle.sessions.specs.Set.{has_of}
use Rattle.table.specs.Words.{count_of, hops_of, link_of, place_of, source_of, stop_of}

-- (a) "no packet is in flight" ----------------------------------------------------------------------------------------

unfoldable pub condition_a : List ℕ → Bool
condition_a w = eqb (count_of w) 0

-- (b) "every active session is idle, with one same rate, at its source and at every link of its path, and its source has noted no update"

-- the link holds the session, idle, with rate x
unfoldable pub agrees_at : Rate → Place → ℕ → Bool
agrees_at x p s = holds p s && (is_idle (mu_at p s) && same_of (rate_at p s) x)

-- the link at place i of the path, with the source's rate
unfoldable pub stop_agrees : List ℕ → ℕ → ℕ → Bool
stop_agrees w s i = agrees_at (source_of w s).rate (place_of w (stop_of w s i)) s

unfoldable pub path_agrees : List ℕ → ℕ → Bool
path_agrees w s = all (hops_of w s) (stop_agrees w s)

unfoldable pub session_rests : List ℕ → ℕ → Bool
session_rests w s = not (source_of w s).active || (is_idle (source_of w s).mu && (not (source_of w s).updated && path_agrees w s))

unfoldable pub condition_b : List ℕ → Bool
condition_b w = all 32 (session_rests w)

-- (c) "at each link every member of R has rate B, every member of F has less than B, and if R is empty the sum of F is at most C"

unfoldable pub rated_in_r : Bound → Place → ℕ → Bool
rated_in_r b p s = not (in_r p s) || equals_b b (rate_at p s)

unfoldable pub rated_in_f : Bound → Place → ℕ → Bool
rated_in_f b p s = not (in_f p s) || below_b b (rate_at p s)

unfoldable pub member_rated : Bound → Place → ℕ → Bool
member_rated b p s = rated_in_r b p s && rated_in_f b p s

unfoldable pub members_rated : Bound → Place → Bool
members_rated b p = all 32 (member_rated b p)

-- a sum that was followed to its end is at most C (links, `upto_of`)
abbrev pub is_at_most_c : Result Rate NoTotal → Bool
is_at_most_c t = is_ok t

unfoldable pub sum_rated : Place → Bool
sum_rated p = not (eqb (R p) 0) || is_at_most_c (sum_of p)

unfoldable pub link_rated : List ℕ → ℕ → Bool
link_rated w e = members_rated (B (place_of w e)) (place_of w e) && sum_rated (place_of w e)

unfoldable pub condition_c : List ℕ → Bool
condition_c w = all 64 (link_rated w)

-- (d) "each session is in R at some link or its rate equals D, and no rate exceeds D" ---------------------------------

unfoldable pub restricted_at : List ℕ → ℕ → ℕ → Bool
restricted_at w s e = has_of s (link_of w e).r

unfoldable pub restricted_somewhere : List ℕ → ℕ → Bool
restricted_somewhere w s = not (all 64 (λ e. not (restricted_at w s e)))

-- the session's own limit
unfoldable pub limit_of : List ℕ → ℕ → Rate
limit_of w s = whole_of (D (source_of w s))

unfoldable pub is_limited : List ℕ → ℕ → Bool
is_limited w s = restricted_somewhere w s || same_of (source_of w s).rate (limit_of w s)

unfoldable pub session_limited : List ℕ → ℕ → Bool
session_limited w s = not (source_of w s).active || (is_limited w s && le_of (source_of w s).rate (limit_of w s))

unfoldable pub condition_d : List ℕ → Bool
condition_d w = all 32 (session_limited w)

-- (e) "the rate each source last told its session is this one" --------------------------------------------------------

abbrev pub is_told : Option Rate → Rate → Bool
is_told None x = false
is_told (Some y) x = same_of y x

unfoldable pub session_told : List ℕ → ℕ → Bool
session_told w s = not (source_of w s).active || is_told (source_of w s).told (source_of w s).rate

unfoldable pub condition_e : List ℕ → Bool
condition_e w = all 32 (session_told w)

-- ALL FIVE ------------------------------------------------------------------------------------------------------------

unfoldable pub settled_of : List ℕ → Bool
settled_of w = condition_a w && (condition_b w && (condition_c w && (condition_d w && condition_e w)))
