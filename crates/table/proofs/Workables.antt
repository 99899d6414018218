-- A link with its entries, as it is read from a table, is within the limits that arithmetic with it needs.
-- Assumes nothing.
use mathlib.Core.List.{List}
use Prim.Native.Nat.{ℕ}
use Rattle.links.specs.Links.{Workable}
use Rattle.table.specs.Words.{place_of}
use Rattle.table.proofs.InRange.{place_in_range}

pub place_workable : (w : List ℕ) (e : ℕ) → Workable (place_of w e)
place_workable w e =
    let o = place_in_range w e in
    record { capacity = o.link.capacity; rates = o.entries }
