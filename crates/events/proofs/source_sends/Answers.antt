-- `events::source_sends` meets its contract.
-- Assumes nothing.
use mathlib.Core.Path.{sym}
use Rattle.events.proofs.Steps.{sends_done, sends_many}
use Rattle.events.proofs.source_sends.Goals as goal

pub returns-then-not-has_room : goal.returns-then-not-has_room
returns-then-not-has_room c = sym (sends_many _ _ _ c.args.d c.has_room.result c.has_room.ensures (c.if-not-has_room.true))

pub returns : goal.returns
returns c = sym (sends_done _ _ _ c.args.d c.has_room.result c.has_room.ensures (c.if-not-has_room.false) _ (rw (← c.put_source.ensures) c.send_on.ensures))
