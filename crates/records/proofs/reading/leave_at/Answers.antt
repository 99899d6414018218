-- `records::reading::leave_at` meets its contract.
-- Assumes nothing.
use borrow.Author.Tests.{lt-ltb, le-ltb}
use Rattle.records.specs.Format.{leave_at}
use Rattle.records.proofs.reading.leave_at.Goals as goal

pub returns-then-session-ge-SESSIONS : goal.returns-then-session-ge-SESSIONS
unfolding leave_at
returns-then-session-ge-SESSIONS c = simp (le-ltb _ _ c.if-session-ge-SESSIONS.true)

pub returns : goal.returns
unfolding leave_at
returns c = simp (c.from.ensures, lt-ltb _ _ c.if-session-ge-SESSIONS.false)
