-- `events::at_destination` meets its contract: refused where there are too many packets, else written.
-- Assumes nothing.
use mathlib.Core.Path.{sym}
use Rattle.events.proofs.Steps.{destination_done, destination_many}
use Rattle.events.proofs.at_destination.Goals as goal

pub returns-then-after-gt-PACKETS : goal.returns-then-after-gt-PACKETS
returns-then-after-gt-PACKETS c = sym (destination_many _ _ _ c.destination_step-on.result c.count-n.result c.one_if.result c.destination_step-on.ensures c.count-n.ensures c.one_if.ensures.0 c.if-after-gt-PACKETS.true)

pub returns : goal.returns
returns c = sym (destination_done _ _ _ c.destination_step-on.result c.count-n.result c.one_if.result c.destination_step-on.ensures c.count-n.ensures c.one_if.ensures.0 c.if-after-gt-PACKETS.false _ (rw (← c.remove.ensures) c.send_on.ensures))
