-- `sending::sent_from` meets its contract.
-- Assumes nothing.
use Rattle.sending.proofs.sent_from.Goals as goal

pub returns : goal.returns
returns c = rw (c.next_hop-hop.ensures, c.goes_down-down.ensures)
