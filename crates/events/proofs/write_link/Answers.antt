-- `events::write_link` meets its contract: one after the other.
-- Assumes nothing.
use Rattle.events.proofs.write_link.Goals as goal

pub returns : goal.returns
returns c = rw (← c.remove.ensures, ← c.put_place.ensures, ← c.send_all.ensures) c.send_on.ensures
