-- The declared links and sessions, and what a record of kind 1 or 2 does to them (01, "Records", refusals 7 and 8; 02, §1, refusal 16).
-- Assumes nothing: definitions.
use Rattle.std.specs.Prelude.{Bool, cond, List, ℕ, zero, suc, ◌+◌, ◌*◌, eqb, leb, get_or, replicate, set, Result, Ok, Err, ⊤}
use Rattle.sessions.specs.Set.{has_of, put}
use Rattle.records.specs.Format.{all}
use Rattle.records.specs.Limits.{above_line, path_limit}
use Rattle.records.specs.Run.{run_of}
use Rattle.records.specs.declared.Call.TheVariants as call
use Rattle.records.specs.declared.Record.{Record}
use Rattle.records.specs.declared.Record.TheVariants as rec
use Rattle.records.specs.declared.Refusal.TheVariants as refusal
use Rattle.records.specs.declared.Refusal.{Refusal}
use Rattle.declarations.specs.declared.Declarations.{Declarations}
use Rattle.declarations.specs.declared.Declared.{Declared}

-- 01, "The direct calculation": D is the smaller of the access rate and the maximum, or the access rate where there is no maximum (0)
unfoldable pub own_limit_of : ℕ → ℕ → ℕ
own_limit_of access maximum = cond (eqb maximum 0) access (cond (leb access maximum) access maximum)

-- nothing is declared
unfoldable pub none_declared : Declared
none_declared =
    record {
      links = 0;
      capacity = replicate 64 0;
      sessions = 0;
      access = replicate 32 0;
      maximum = replicate 32 0;
      path = replicate 256 255;
    }

-- refusal 8: all n links of the path from a place on are declared
unfoldable pub path_declared : ℕ → List ℕ → ℕ → ℕ → Bool
path_declared links s at n = all n (λ h. has_of (get_or s (at + h) 0) links)

-- whether a record of the input s is taken, where these links and sessions are declared: refusals 7, 16 (02, §1: directly after 7) and 8. The
-- calculation takes no other kinds.
unfoldable pub judge_of : List ℕ → ℕ → ℕ → Record → Result ⊤ Refusal
judge_of s links sessions (rec.Link e capacity) = cond (has_of e links) (Err refusal.AlreadyThere) (Ok tt)
judge_of s links sessions (rec.Session x) =
    cond (has_of x.session sessions) (Err refusal.AlreadyThere)
    (cond (above_line x.access x.maximum) (Err refusal.AboveLine)
    (cond (path_declared links s x.path x.size) (Ok tt) (Err refusal.UndeclaredLink)))
judge_of s links sessions (rec.Leave t) = Err refusal.KindNotTaken
judge_of s links sessions (rec.Change t maximum) = Err refusal.KindNotTaken
judge_of s links sessions (rec.Deliver position) = Err refusal.KindNotTaken

abbrev pub judging : List ℕ → Declared → Record → Result ⊤ Refusal
judging s d = judge_of s d.links d.sessions

-- what a record declares, field by field: a link, its capacity
abbrev pub links_of : ℕ → Record → ℕ
links_of w (rec.Link e capacity) = put e w
links_of w (rec.Session x) = w
links_of w (rec.Leave t) = w
links_of w (rec.Change t maximum) = w
links_of w (rec.Deliver position) = w

abbrev pub capacity_of : List ℕ → Record → List ℕ
capacity_of l (rec.Link e capacity) = set l e capacity
capacity_of l (rec.Session x) = l
capacity_of l (rec.Leave t) = l
capacity_of l (rec.Change t maximum) = l
capacity_of l (rec.Deliver position) = l

-- a session, its access rate, its maximum
abbrev pub sessions_of : ℕ → Record → ℕ
sessions_of w (rec.Link e capacity) = w
sessions_of w (rec.Session x) = put x.session w
sessions_of w (rec.Leave t) = w
sessions_of w (rec.Change t maximum) = w
sessions_of w (rec.Deliver position) = w

abbrev pub access_of : List ℕ → Record → List ℕ
access_of l (rec.Link e capacity) = l
access_of l (rec.Session x) = set l x.session x.access
access_of l (rec.Leave t) = l
access_of l (rec.Change t maximum) = l
access_of l (rec.Deliver position) = l

abbrev pub maximum_of : List ℕ → Record → List ℕ
maximum_of l (rec.Link e capacity) = l
maximum_of l (rec.Session x) = set l x.session x.maximum
maximum_of l (rec.Leave t) = l
maximum_of l (rec.Change t maximum) = l
maximum_of l (rec.Deliver position) = l

-- the first k bytes of s from place `at` on, copied into l from a place on
unfoldable pub copied : ℕ → List ℕ → ℕ → List ℕ → ℕ → List ℕ
copied zero l from s at = l
copied (suc k) l from s at = set (copied k l from s at) (from + k) (get_or s (at + k) 0)

-- and its eight path bytes, which stand in the input s
abbrev pub path_of : List ℕ → List ℕ → Record → List ℕ
path_of s l (rec.Link e capacity) = l
path_of s l (rec.Session x) = copied path_limit l (x.session * path_limit) s x.path
path_of s l (rec.Leave t) = l
path_of s l (rec.Change t maximum) = l
path_of s l (rec.Deliver position) = l

-- the declarations with a record of the input s
unfoldable pub declare_of : List ℕ → Declared → Record → Declared
declare_of s d x =
    record {
      links = links_of d.links x;
      capacity = capacity_of d.capacity x;
      sessions = sessions_of d.sessions x;
      access = access_of d.access x;
      maximum = maximum_of d.maximum x;
      path = path_of s d.path x;
    }

-- the declarations of an input: a run of its records, from nothing
unfoldable pub declarations_of : List ℕ → Declarations
declarations_of s =
    let r = run_of call.Calculation (judging s) (declare_of s) s none_declared in
    record { declared = r.state; taken = r.taken; end = r.end }
