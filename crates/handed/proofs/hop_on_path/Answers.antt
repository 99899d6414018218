-- `handed::hop_on_path` meets its contract.
-- Assumes nothing.
use borrow.Author.Tests.{le-ltb, lt-ltb}
use Rattle.handed.proofs.hop_on_path.Goals as goal

pub returns-then-h-gt0 : goal.returns-then-h-gt0
returns-then-h-gt0 c = rw (c.if-down.true, lt-ltb _ _ c.if-h-gt0.true)

pub returns-else-h-gt0 : goal.returns-else-h-gt0
returns-else-h-gt0 c = rw (c.if-down.true, le-ltb _ _ c.if-h-gt0.false)

pub returns-else-down : goal.returns-else-down
returns-else-down c = rw c.if-down.false
