-- What "settled" asks of one session, put together: (b), (d) and (e). With (a) and (c) that is all of it (`settled_once`, proofs/OneSession.antt).
-- Assumes nothing: definitions.
use Rattle.std.specs.Prelude.{Bool, ◌&&◌, List, ◌≡◌, ℕ}
use Rattle.sessions.specs.Set.{has_of}
use Rattle.conditions.specs.Settled.{restricted_somewhere, session_limited, session_rests, session_told}

-- the members are the sessions that are in R at some link
abbrev pub RestrictedIn : List ℕ → ℕ → Type 0
RestrictedIn w v = (s : ℕ) → has_of s v ≡ restricted_somewhere w s

-- (b), (d) and (e) of session s
unfoldable pub session_settles : List ℕ → ℕ → Bool
session_settles w s = session_rests w s && (session_limited w s && session_told w s)
