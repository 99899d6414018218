-- What the loop of `links::those` keeps: what is found, and what is left to look at, come to the whole.
use mathlib.Core.Bool.{Bool}
use mathlib.Core.Path.{◌≡◌}
use Rattle.sessions.specs.Set.{members, walk}
use Rattle.links.specs.declared.Entry.{Entry}
use Rattle.links.specs.Links.{Tests, add_if, those_of}
use Rattle.links.proofs.those.Given as goal

abbrev pub invariant-loop-s : goal.invariant-loop-s
invariant-loop-s g l =
    (meets : Entry → Bool) → Tests (goal.A-post g l.fn.asked) meets
    → walk (add_if meets l.p.entries) l.found (members l.s-iterator.left) ≡ those_of meets l.p.entries l.w
