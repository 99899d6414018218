-- `events::write_source` meets its contract: one after the other.
-- Assumes nothing.
use Rattle.events.proofs.write_source.Goals as goal

pub returns : goal.returns
returns c = rw (← c.remove.ensures, ← c.put_source.ensures) c.send_on.ensures
