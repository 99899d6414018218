-- At most is not more than.
-- Assumes nothing.
use mathlib.Core.Bool.{not}
use mathlib.Core.Logic.{◌⊎◌, inl, inr}
use mathlib.Core.Path.{◌≡◌, ap, sym, ◌∙◌}
use Prim.Native.Nat.{ℕ, ◌≤◌, ◌<◌}
use borrow.Author.Tests.{le-leb, le-ltb, lt-leb, lt-ltb}
use lib.Dec.{leb, ltb}
use Rattle.fractions.proofs.Cases.{order}

pub le_not_lt : (a b : ℕ) → leb a b ≡ not (ltb b a)
le_not_lt a b = go (order a b)
  where
    go : (a ≤ b) ⊎ (b < a) → leb a b ≡ not (ltb b a)
    go (inl h) = le-leb a b h ∙ sym (ap not (le-ltb b a h))
    go (inr h) = lt-leb a b h ∙ sym (ap not (lt-ltb b a h))
