-- `sending::next_hop` meets its contract.
-- Assumes nothing.
use native.Mathlib.Omega.{arith}
use Rattle.sending.proofs.next_hop.Goals as goal

pub returns-then-down : goal.returns-then-down
returns-then-down c = rw c.if-down.true

pub returns-then-h-eq0 : goal.returns-then-h-eq0
returns-then-h-eq0 c = rw c.if-down.false (omega arith)

pub returns : goal.returns
returns c = rw c.if-down.false
