-- 02, §3: a set of links and sessions written as records of kinds 1 and 2 (01, "Records"): links, then sessions, by rising number. The set is given as
-- declarations, as the calculation's reader gives them.
-- Assumes nothing: definitions.
use Rattle.std.specs.Prelude.{Bool, cond, List, [], ◌∷◌, ◌++◌, ℕ, zero, suc, ◌/◌, ◌%◌, ltb, get_or}
use Rattle.sessions.specs.Set.{has_of}
use Rattle.fairness.specs.Figure1.{values}
use Rattle.fairness.specs.Sum.{part, sum}
use Rattle.records.specs.Limits.{link_limit, path_limit, session_limit}
use Rattle.search.specs.Crossing.{byte_at}
use Rattle.declarations.specs.declared.Declared.{Declared}

-- ONE RECORD ----------------------------------------------------------------------------------------------------------

-- a number below 2 ^ 32 in four bytes, the highest first
abbrev pub bytes4 : ℕ → List ℕ
bytes4 n = n / 256 / 256 / 256 ∷ n / 256 / 256 % 256 ∷ n / 256 % 256 ∷ n % 256 ∷ []

-- kind 1: link 1, capacity 4
abbrev pub link_record : ℕ → ℕ → List ℕ
link_record e capacity = 1 ∷ e ∷ bytes4 capacity

-- kind 2: session 1, access 4, maximum 4, path length 1, eight link bytes
abbrev pub session_record : ℕ → ℕ → ℕ → ℕ → (ℕ → ℕ) → List ℕ
session_record t access maximum size path = 2 ∷ t ∷ (bytes4 access ++ (bytes4 maximum ++ (size ∷ values 0 path_limit path)))

-- how many bytes of the path of session t are links: the others are 255
unfoldable pub path_size : List ℕ → ℕ → ℕ
path_size path t = sum path_limit (λ h. part (ltb (byte_at path t h) link_limit) 1)

-- ALL RECORDS ---------------------------------------------------------------------------------------------------------

-- the record of each of the k numbers from b on that passes the test, by rising number
unfoldable pub records_from : ℕ → ℕ → (ℕ → Bool) → (ℕ → List ℕ) → List ℕ
records_from zero b test record_of = []
records_from (suc k) b test record_of = cond (test b) (record_of b) [] ++ records_from k (suc b) test record_of

-- the record of link e, where these are the capacities
abbrev pub link_from : List ℕ → ℕ → List ℕ
link_from capacity e = link_record e (get_or capacity e 0)

-- the record of session t, where these are the access rates, the maxima and the paths
abbrev pub session_from : List ℕ → List ℕ → List ℕ → ℕ → List ℕ
session_from access maximum path t = session_record t (get_or access t 0) (get_or maximum t 0) (path_size path t) (byte_at path t)

-- the records of the links of a word
abbrev pub link_records : ℕ → List ℕ → List ℕ
link_records links capacity = records_from link_limit 0 (λ e. has_of e links) (link_from capacity)

-- and of the sessions of a word
abbrev pub session_records : ℕ → List ℕ → List ℕ → List ℕ → List ℕ
session_records sessions access maximum path = records_from session_limit 0 (λ t. has_of t sessions) (session_from access maximum path)

-- "links, then sessions, by rising number"
unfoldable pub records_of : Declared → List ℕ
records_of d = link_records d.links d.capacity ++ session_records d.sessions d.access d.maximum d.path
