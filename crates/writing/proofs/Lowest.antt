-- The member that comes next is the lowest of what is left.
-- Assumes nothing.
use mathlib.Core.Path.{◌≡◌}
use Prim.Native.Nat.{ℕ, ◌<◌, ◌^◌}
use Rattle.std.specs.Prelude.{Some}
use Rattle.sessions.specs.Set.{GivesMember, has}
use Rattle.sessions.proofs.Members.{has_pos}
use Rattle.sessions.proofs.Remaining.{comes_first}
use Rattle.sessions.proofs.Walks.{next_first}

pub record Lowest (k left e : ℕ) : Type 0 where
  pub low : e < k
  pub here : has e left ≡ 1
  pub lowest : (i : ℕ) → i < e → has i left ≡ 0

pub lowest_of : (k left e v : ℕ) → left < 2 ^ k → GivesMember k left (Some e) v → Lowest k left e
lowest_of k left e v h n =
    record { low = n.1; here = n.2; lowest = next_first k left e (has_pos e left n.2) h (comes_first k left e v h n) }
