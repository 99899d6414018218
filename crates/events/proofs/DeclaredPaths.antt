-- The test of refusal 8 in the machine: each link of a path that passes is declared.
-- Assumes nothing.
use mathlib.Core.Bool.{◌&&◌, true}
use mathlib.Core.List.{List}
use mathlib.Core.Path.{◌≡◌}
use Prim.Native.Nat.{ℕ, ◌+◌, ◌<◌}
use lib.Dec.{ltb}
use lib.ListN.{get_or}
use Rattle.fractions.proofs.Cases.{and_both}
use Rattle.records.proofs.Alls.{all_at}
use Rattle.table.specs.Words.{declared_in}
use Rattle.events.specs.Events.{path_declared_in}

pub path_declared_lem : (w s : List ℕ) (at n : ℕ) → path_declared_in w s at n ≡ true → (h : ℕ) → h < n → declared_in w (get_or s (at + h) 0) ≡ true
unfolding path_declared_in
path_declared_lem w s at n p h l =
    (and_both (ltb (get_or s (at + h) 0) 64) _
    (all_at n (λ i. ltb (get_or s (at + i) 0) 64 && declared_in w (get_or s (at + i) 0)) h p l)
    ).1
