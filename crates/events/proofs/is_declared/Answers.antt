-- `events::is_declared` meets its contract.
-- Assumes nothing.
use Rattle.events.proofs.is_declared.Goals as goal

pub returns : goal.returns
returns c = rw c.link_at-l.ensures
