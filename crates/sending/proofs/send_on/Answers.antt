-- `sending::send_on` meets its contract.
-- Assumes nothing.
use Rattle.sending.proofs.send_on.Goals as goal

pub returns-in-Some : goal.returns-in-Some
returns-in-Some c = rw (c.in-Some.is, ← c.sent_from-p.ensures) c.append.ensures
