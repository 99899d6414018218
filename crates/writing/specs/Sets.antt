-- 02, §3: when two sets of links and sessions are equal, and which sets can be declared.
-- Assumes nothing: definitions.
use Rattle.std.specs.Prelude.{false, true, ◌≡◌, ℕ, ◌*◌, ◌^◌, ◌<◌, ◌≤◌, get_or}
use Rattle.sessions.specs.Set.{has}
use Rattle.records.specs.Format.{path_ok, rate_ok}
use Rattle.records.specs.Limits.{above_line, link_limit, path_limit, rate_limit, session_limit}
use Rattle.search.specs.Crossing.{byte_at}
use Rattle.declarations.specs.Declaring.{path_declared}
use Rattle.declarations.specs.declared.Declared.{Declared}
use Rattle.writing.specs.Writing.{path_size}

-- the same links with the same capacities, and the same sessions with the same access rate, maximum and path; of what is not declared nothing counts
pub record SameSet (d z : Declared) : Type 0 where
  pub links : d.links ≡ z.links
  pub capacity : (e : ℕ) → e < link_limit → has e d.links ≡ 1 → get_or d.capacity e 0 ≡ get_or z.capacity e 0
  pub sessions : d.sessions ≡ z.sessions
  pub access : (t : ℕ) → t < session_limit → has t d.sessions ≡ 1 → get_or d.access t 0 ≡ get_or z.access t 0
  pub maximum : (t : ℕ) → t < session_limit → has t d.sessions ≡ 1 → get_or d.maximum t 0 ≡ get_or z.maximum t 0
  pub path : (t : ℕ) → t < session_limit → has t d.sessions ≡ 1 → (h : ℕ) → h < path_limit → byte_at d.path t h ≡ byte_at z.path t h

-- 01, refusals 4 to 8, and 02, §1, of each link and session
pub record Declarable (d : Declared) : Type 0 where
  pub links : d.links < 2 ^ link_limit
  pub sessions : d.sessions < 2 ^ session_limit
  pub capacity : (e : ℕ) → e < link_limit → has e d.links ≡ 1 → rate_ok (get_or d.capacity e 0) ≡ true
  pub access : (t : ℕ) → t < session_limit → has t d.sessions ≡ 1 → rate_ok (get_or d.access t 0) ≡ true
  pub maximum : (t : ℕ) → t < session_limit → has t d.sessions ≡ 1 → get_or d.maximum t 0 ≤ rate_limit
  pub line : (t : ℕ) → t < session_limit → has t d.sessions ≡ 1 → above_line (get_or d.access t 0) (get_or d.maximum t 0) ≡ false
  pub path : (t : ℕ) → t < session_limit → has t d.sessions ≡ 1 → path_ok d.path (t * path_limit) (path_size d.path t) ≡ true
  pub declared : (t : ℕ) → t < session_limit → has t d.sessions ≡ 1
      → path_declared d.links d.path (t * path_limit) (path_size d.path t) ≡ true
