-- 02, §3: what a run of the machine comes to that loads a set: all is accepted, as many records are taken as the set has links and sessions, and the
-- table after it declares an equal set.
-- Assumes nothing: definitions.
use Rattle.std.specs.Prelude.{List, ◌≡◌, ℕ, ◌+◌, Ok}
use Rattle.std.specs.Int.Count.{ones_in}
use Rattle.records.specs.Limits.{link_limit, session_limit}
use Rattle.records.specs.Run.{Ran}
use Rattle.declarations.specs.declared.Declared.{Declared}
use Rattle.writing.specs.Sets.{SameSet}
use Rattle.present_set.specs.Held.{declarations_in}

pub record Loaded (d : Declared) (r : Ran (List ℕ)) : Type 0 where
  pub end : r.end ≡ Ok tt
  pub taken : r.taken ≡ ones_in link_limit d.links + ones_in session_limit d.sessions
  pub same : SameSet d (declarations_in r.state)
