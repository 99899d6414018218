-- `records::reading::change_at` meets its contract.
-- Assumes nothing.
use borrow.Author.Tests.{le-leb, lt-leb, lt-ltb, le-ltb}
use Rattle.records.specs.Format.{change_at}
use Rattle.records.proofs.reading.change_at.Goals as goal

pub returns-then-session-ge-SESSIONS : goal.returns-then-session-ge-SESSIONS
unfolding change_at
returns-then-session-ge-SESSIONS c = simp (le-ltb _ _ c.if-session-ge-SESSIONS.true)

pub returns-then-maximum-gt-RATE : goal.returns-then-maximum-gt-RATE
unfolding change_at
returns-then-maximum-gt-RATE c = simp (← c.number4-maximum.ensures, lt-ltb _ _ c.if-session-ge-SESSIONS.false, lt-leb _ _ c.if-maximum-gt-RATE.true)

pub returns : goal.returns
unfolding change_at
returns c = simp (c.from.ensures, ← c.number4-maximum.ensures, lt-ltb _ _ c.if-session-ge-SESSIONS.false, le-leb _ _ c.if-maximum-gt-RATE.false)
