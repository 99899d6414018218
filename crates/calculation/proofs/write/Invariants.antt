-- What the loop of `calculation::write` keeps.
use mathlib.Core.Path.{◌≡◌}
use lib.ListN.{get_or, length, set}
use Rattle.sessions.specs.Set.{members_from, walk}
use Rattle.calculation.proofs.write.Given as goal

abbrev pub invariant-loop-t : goal.invariant-loop-t
invariant-loop-t l =
    (goal.iterator-loop-t).can_next l.t-iterator × (goal.iterator-loop-t).is_finite l.t-iterator
    × (length l.out ≡ length l.initial.out)
    × (walk (λ xs t. set xs t (get_or l.values t 0)) l.out (members_from 32 0 l.t-iterator.left) ≡ walk (λ xs t. set xs t (get_or l.values t 0)) l.initial.out (members_from 32 0 l.w))
