-- What is left of a word to visit, at each turn and at the end of a loop over its members: members of the word, and then none.
-- Assumes nothing.
use mathlib.Core.List.{List, []}
use mathlib.Core.Path.{◌≡◌, ap, sym, ◌∙◌}
use Prim.Native.Nat.{ℕ, ◌+◌, ◌^◌, ◌<◌, ◌≤◌}
use native.Mathlib.Nat.{zero-add}
use native.Mathlib.Omega.{arith}
use lib.Count.{count_trailing_zeros}
use Rattle.std.specs.Prelude.{Some}
use Rattle.sessions.specs.Set.{GivesMember, cut, has, members_from, put, walk}
use Rattle.sessions.proofs.Loops.{walk_none}
use Rattle.sessions.proofs.Members.{cut_le, has_cut_le, has_lt, has_pos}
use Rattle.sessions.proofs.Walks.{low_lt, members_first, members_put}

-- a word without members is 0
pub none_left : (k w : ℕ) → w < 2 ^ k → members_from k 0 w ≡ [] → w ≡ 0
none_left k w h e = sym (members_put k w h) ∙ ap (λ (l : List ℕ). walk (λ x s. put s x) 0 l) e ∙ walk_none (λ x s. put s x) 0

-- `left` is left of the k digits of w
pub record Remains (k w left : ℕ) : Type 0 where
  pub word : left < 2 ^ k
  pub among : (s : ℕ) → has s left ≤ has s w

pub remains_all : (k w : ℕ) → w < 2 ^ k → Remains k w w
remains_all k w h = record { word = h; among = λ s. omega arith }

module _ (k w left : ℕ) (r : Remains k w left) where
  pub remains_next : (s v : ℕ) → v ≡ cut s left → Remains k w v
  remains_next s v e =
      record { word = omega (arith, e, cut_le s left, r.word); among = λ t. omega (arith, ap (has t) e, has_cut_le t s left, r.among t) }

  pub remains_member : (s : ℕ) → has s left ≡ 1 → has s w ≡ 1
  remains_member s q = omega (arith, q, r.among s, has_lt s w)

  pub remains_none : members_from k 0 left ≡ [] → left ≡ 0
  remains_none e = none_left k left r.word e

-- the member that comes is the lowest
pub comes_first : (k left s v : ℕ) → left < 2 ^ k → GivesMember k left (Some s) v → s ≡ count_trailing_zeros k left
comes_first k left s v h n =
    let first = members_first k 0 left (low_lt k left (has_pos s left n.2) h) in
    let same : s ≡ 0 + count_trailing_zeros k left = cc (n.0, first) in
    same ∙ zero-add _
