-- 02, §1: where refusal 16 stands in the order of a session record, on inputs that meet two refusals at once, and its limits: rows of one table, under
-- one claim, by computing the definitions.
-- Assumes nothing.
use mathlib.Core.List.{List, [], ◌∷◌, ◌++◌}
use mathlib.Core.Path.{◌≡◌, refl}
use Prim.Native.Nat.{ℕ}
use lib.ListN.{replicate}
use Rattle.sessions.specs.Set.{has, put}
use Rattle.records.specs.Format.{all, be2, be4, body_at, body_of, change_at, deliver_at, differ, is_new, leave_at, link_at, links_ok, path_ok, read_at, rest_ok, session_at, size_at}
use Rattle.records.specs.Run.{Said, run_from, said_of}
use Rattle.declarations.specs.Declaring.{copied, declarations_of, declare_of, judge_of, none_declared, path_declared}

-- link 0 of 10
abbrev link : List ℕ
link = 1 ∷ 0 ∷ 0 ∷ 0 ∷ 0 ∷ 10 ∷ []

-- session 0, with access 100: the four bytes of its maximum, and its path with the length first
abbrev session : List ℕ → List ℕ → List ℕ
session maximum path = 2 ∷ 0 ∷ 0 ∷ 0 ∷ 0 ∷ 100 ∷ maximum ++ path

-- the maxima 0, 100, 101 and 1,000,001
abbrev none : List ℕ
none = replicate 4 0

abbrev equal : List ℕ
equal = 0 ∷ 0 ∷ 0 ∷ 100 ∷ []

abbrev above : List ℕ
above = 0 ∷ 0 ∷ 0 ∷ 101 ∷ []

abbrev too_large : List ℕ
too_large = 0 ∷ 15 ∷ 66 ∷ 65 ∷ []

-- paths: over link 0, over link 1, and of length 0
abbrev over : ℕ → List ℕ
over e = 1 ∷ e ∷ replicate 7 255

abbrev nowhere : List ℕ
nowhere = 0 ∷ replicate 8 255

record Example : Type 0 where
  input : List ℕ
  said : Said

-- refused with this number, after so many records, at the place of the one that is at fault
abbrev refused : List ℕ → ℕ → ℕ → ℕ → Example
refused s number taken place = record { input = s; said = record { number = number; place = place; taken = taken } }

abbrev accepted : List ℕ → ℕ → Example
accepted s taken = refused s 0 taken 0

examples : List Example
examples =
    -- no maximum, one equal to the access rate, and one above it
    accepted (link ++ session none (over 0)) 2
    ∷ accepted (link ++ session equal (over 0)) 2
    ∷ refused (link ++ session above (over 0)) 16 1 6
    -- 5 and 16
    ∷ refused (link ++ session too_large (over 0)) 5 1 6
    -- 6 and 16
    ∷ refused (link ++ session above nowhere) 6 1 6
    -- 7 and 16
    ∷ refused (link ++ session none (over 0) ++ session above (over 0)) 7 2 25
    -- 16 and 8
    ∷ refused (link ++ session above (over 1)) 16 1 6
    ∷ []

each : (Example → Said) → List Example → List Said
each f [] = []
each f (x ∷ xs) = f x ∷ each f xs

said_for : List ℕ → Said
said_for s = let d = declarations_of s in said_of d.taken d.end

order_right : each (λ x. said_for x.input) examples ≡ each (λ x. x.said) examples
unfolding examples each said_for declarations_of declare_of judge_of none_declared path_declared copied all be2 be4 body_at body_of change_at deliver_at differ is_new leave_at link_at links_ok path_ok read_at rest_ok session_at size_at run_from has put
order_right = refl
