-- What the loop of `totals::sum_at` keeps: what is left to add comes to the whole.
use mathlib.Core.Path.{◌≡◌}
use Prim.Native.Nat.{◌≤◌}
use Rattle.fractions.specs.Fraction.{max_rate}
use Rattle.links.specs.Links.{TotalSized, more_of, rate_at, sum_of}
use Rattle.sessions.specs.Set.{members, walk}
use Rattle.table.specs.Words.{place_of}
use Rattle.totals.proofs.sum_at.Given as goal

abbrev pub invariant-loop-s : goal.invariant-loop-s
invariant-loop-s l =
    TotalSized l.capacity l.total × (l.capacity ≤ max_rate)
    × (walk (λ a s. more_of l.capacity a (rate_at (place_of l.t l.e) s)) l.total (members l.s-iterator.left) ≡ sum_of (place_of l.t l.e))
