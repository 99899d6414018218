-- What the loop of `filling::Links::least` keeps.
use Prim.Native.Nat.{ℕ}
use Rattle.sessions.proofs.Remaining.{Remains}
use Rattle.filling.specs.SmallestShare.{SmallestAmong, SmallestFits, count_of, room_of}
use Rattle.filling.proofs.SmallestOfAll.{seen_links}
use Rattle.filling.proofs.Links.least.Given as goal

abbrev pub invariant-loop-e : goal.invariant-loop-e
invariant-loop-e l =
    (goal.iterator-loop-e).can_next l.e-iterator × (goal.iterator-loop-e).is_finite l.e-iterator
    × Remains 64 l.self.busy l.e-iterator.left
    × SmallestFits l.least
    × ((den opens : ℕ) (D : ℕ → ℕ) → SmallestAmong (seen_links l.e-iterator.left) (room_of l.self.room den D) (count_of l.self.count opens) l.least)
