-- `table::append` meets its contract.
-- Assumes nothing.
use borrow.Author.Tests.{le-ltb, lt-ltb}
use Rattle.table.specs.Words.{appended}
use Rattle.table.proofs.listed.append.Goals as goal

pub returns-then-n-lt256 : goal.returns-then-n-lt256
unfolding appended
returns-then-n-lt256 c = rw (← c.count-n.ensures, lt-ltb _ _ c.if-n-lt256.true) (rw (c.put_count.ensures, c.put_packet.ensures))

pub returns-else-n-lt256 : goal.returns-else-n-lt256
unfolding appended
returns-else-n-lt256 c = rw (← c.count-n.ensures, le-ltb _ _ c.if-n-lt256.false)
