-- `records::reading::rate_ok` meets its contract.
-- Assumes nothing.
use borrow.Author.Tests.{lt-ltb, le-ltb}
use Rattle.records.proofs.reading.rate_ok.Goals as goal

pub returns-then-n-gt0 : goal.returns-then-n-gt0
returns-then-n-gt0 c = simp (lt-ltb _ _ c.if-n-gt0.true)

pub returns-else-n-gt0 : goal.returns-else-n-gt0
returns-else-n-gt0 c = simp (le-ltb _ _ c.if-n-gt0.false)
