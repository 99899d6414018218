-- What the loop of `calculation::find` keeps.
use Prim.Native.Nat.{◌*◌}
use lib.ListN.{get_or}
use Rattle.fractions.specs.Fraction.{lowest_of}
use Rattle.declarations.specs.Declaring.{own_limit_of}
use Rattle.calculation.specs.Binding.{binding_by_last}
use Rattle.sessions.proofs.Remaining.{Remains}
use Rattle.calculation.proofs.Upto.{Upto}
use Rattle.calculation.proofs.find.Given as goal

abbrev pub invariant-loop-t : goal.invariant-loop-t
invariant-loop-t l =
    (goal.iterator-loop-t).can_next l.t-iterator × (goal.iterator-loop-t).is_finite l.t-iterator
    × Remains 32 l.d.sessions l.t-iterator.left
    × Upto (λ t. (lowest_of (get_or l.z.rate t 0) l.z.den).num) l.d.sessions l.t-iterator.left l.out.nums
    × Upto (λ t. (lowest_of (get_or l.z.rate t 0) l.z.den).den) l.d.sessions l.t-iterator.left l.out.dens
    × Upto (λ t. binding_by_last l.d.path l.z.rate l.z.room l.z.last (l.z.den * own_limit_of (get_or l.d.access t 0) (get_or l.d.maximum t 0)) t) l.d.sessions l.t-iterator.left l.out.places
