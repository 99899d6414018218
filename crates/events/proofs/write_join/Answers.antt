-- `events::write_join` meets its contract: one after the other.
-- Assumes nothing.
use Rattle.events.proofs.write_join.Goals as goal

pub returns : goal.returns
returns c = rw (← c.put_path.ensures, ← c.put_hops.ensures, ← c.put_source.ensures) c.send_on.ensures
