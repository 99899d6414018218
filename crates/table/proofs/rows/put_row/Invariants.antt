-- What the loop of `table::rows::put_row` keeps.
use mathlib.Core.Path.{◌≡◌}
use Prim.Native.Nat.{◌*◌, ◌+◌}
use lib.ListN.{drop}
use Rattle.table.specs.Words.{store_entries}
use Rattle.table.proofs.rows.put_row.Given as goal

abbrev pub invariant-loop-s : goal.invariant-loop-s
invariant-loop-s l = store_entries l.t (192 + l.e * 96 + l.s * 3) (drop l.s l.fn.entries) ≡ store_entries l.initial.t (192 + l.e * 96) l.fn.entries
