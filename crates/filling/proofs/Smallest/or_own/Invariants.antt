-- What the loop of `filling::Smallest::or_own` keeps.
use mathlib.Core.List.{List}
use Prim.Native.Nat.{ℕ}
use Rattle.sessions.proofs.Remaining.{Remains}
use Rattle.filling.specs.SmallestShare.{SmallestAmong, SmallestFits, below, count_of, limits_of, room_of}
use Rattle.filling.proofs.SmallestOfAll.{seen}
use Rattle.filling.proofs.Smallest.or_own.Given as goal

abbrev pub invariant-loop-s : goal.invariant-loop-s
invariant-loop-s l =
    (goal.iterator-loop-s).can_next l.s-iterator × (goal.iterator-loop-s).is_finite l.s-iterator
    × Remains 32 l.opens l.s-iterator.left
    × SmallestFits l.least
    × ((room count : List ℕ) → SmallestAmong (below 64) (room_of room l.den (limits_of l.d.access l.d.maximum)) (count_of count l.opens) l.fn.self
    → SmallestAmong (seen l.s-iterator.left) (room_of room l.den (limits_of l.d.access l.d.maximum)) (count_of count l.opens) l.least)
