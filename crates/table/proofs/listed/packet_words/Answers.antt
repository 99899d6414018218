-- `table::packet_words` meets its contract.
-- Assumes nothing.
use Rattle.table.specs.Words.{packet_words}
use Rattle.table.proofs.listed.packet_words.Goals as goal

pub returns-in-Join : goal.returns-in-Join
unfolding packet_words
returns-in-Join c = rw (c.bit-d.ensures, c.eta_code.ensures, c.in-Join.is)

pub returns-in-Probe : goal.returns-in-Probe
unfolding packet_words
returns-in-Probe c = rw (c.bit-d.ensures, c.eta_code-in-Probe.ensures, c.in-Probe.is)

pub returns-in-Response : goal.returns-in-Response
unfolding packet_words
returns-in-Response c = rw (c.bit-d.ensures, c.eta_code-in-Response.ensures, c.tau_code.ensures, c.in-Response.is)

pub returns-in-Update : goal.returns-in-Update
unfolding packet_words
returns-in-Update c = rw (c.bit-d.ensures, c.in-Update.is)

pub returns-in-Bottleneck : goal.returns-in-Bottleneck
unfolding packet_words
returns-in-Bottleneck c = rw (c.bit-d.ensures, c.in-Bottleneck.is)

pub returns-in-SetBottleneck : goal.returns-in-SetBottleneck
unfolding packet_words
returns-in-SetBottleneck c = rw (c.bit-d.ensures, c.bit.ensures, c.in-SetBottleneck.is)

pub returns-in-Leave : goal.returns-in-Leave
unfolding packet_words
returns-in-Leave c = rw (c.bit-d.ensures, c.in-Leave.is)
