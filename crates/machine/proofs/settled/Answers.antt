-- `machine::settled` meets its contract: refused, yes exactly under the five conditions, or no.
-- Assumes nothing.
use Rattle.machine.proofs.Answers.{answered, question_refused}
use Rattle.machine.proofs.settled.Goals as goal

pub returns-then-not-passes_14 : goal.returns-then-not-passes_14
returns-then-not-passes_14 c = let e = question_refused _ c.passes_14.result c.passes_14.ensures (c.if-not-passes_14.true) in record { exact = e.0; conditions = e.1 }

pub returns : goal.returns
returns c = let e = answered _ c.passes_14.result c.passes_14.ensures (c.if-not-passes_14.false) c.is_settled.result c.is_settled.ensures in record { exact = e.0; conditions = e.1 }
