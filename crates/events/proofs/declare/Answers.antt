-- `events::declare` meets its contract.
-- Assumes nothing.
use Rattle.events.specs.Events.{declare_of}
use Rattle.events.proofs.declare.Goals as goal

pub returns-then-is_declared : goal.returns-then-is_declared
unfolding declare_of
returns-then-is_declared c = rw (← c.is_declared.ensures, c.if-is_declared.true)

pub returns : goal.returns
unfolding declare_of
returns c = rw (← c.is_declared.ensures, c.if-is_declared.false, c.put_link.ensures)
