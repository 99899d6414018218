-- `events::has_room` meets its contract.
-- Assumes nothing.
use Prim.Native.Nat.{ℕ, ◌+◌}
use mathlib.Core.Bool.{not}
use lib.Dec.{ltb}
use mathlib.Core.Path.{ap, ap₂, ◌∙◌}
use native.Mathlib.Omega.{arith}
use Rattle.table.proofs.InRange.{count_most}
use Rattle.events.proofs.Rooms.{le_not_lt}
use Rattle.events.proofs.has_room.Goals as goal

pub overflow_add-result : goal.overflow_add-result
overflow_add-result c = omega (arith, c.count-n.ensures, count_most c.args.t.now, c.one_if.ensures.1)

pub returns : goal.returns
returns c = le_not_lt (c.count-n.result + c.one_if.result) 256 ∙ ap (λ (n : ℕ). not (ltb 256 n)) (ap₂ ◌+◌ c.count-n.ensures c.one_if.ensures.0)
