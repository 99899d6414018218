-- `machine::run` meets its contract: 14, then 1, then the records.
-- Assumes nothing.
use Rattle.machine.proofs.Answers.{handed_away, run_says, runs, too_long}
use Rattle.machine.proofs.run.Goals as goal

pub returns-then-not-passes_14 : goal.returns-then-not-passes_14
returns-then-not-passes_14 c = let e = handed_away _ c.args.s.now c.passes_14.result c.passes_14.ensures (c.if-not-passes_14.true) c.turned_away.result c.turned_away.ensures in record { exact = e; said = run_says _ _ _ e }

pub returns-then-s-gt-INPUT : goal.returns-then-s-gt-INPUT
returns-then-s-gt-INPUT c = let e = too_long _ c.args.s.now c.passes_14.result c.passes_14.ensures (c.if-not-passes_14.false) c.if-s-gt-INPUT.true c.turned_away-then-s-gt-INPUT.result c.turned_away-then-s-gt-INPUT.ensures in record { exact = e; said = run_says _ _ _ e }

pub returns : goal.returns
returns c = let e = runs _ c.args.s.now c.passes_14.result c.passes_14.ensures (c.if-not-passes_14.false) c.if-s-gt-INPUT.false c.run_records.result c.run_records.new.t c.run_records.ensures in record { exact = e; said = run_says _ _ _ e }
