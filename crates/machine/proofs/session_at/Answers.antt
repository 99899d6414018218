-- `machine::session_at` meets its contract.
-- Assumes nothing.
use mathlib.Core.Path.{sym}
use Rattle.fractions.proofs.Cases.{not-false, not_true, said_too}
use Rattle.machine.specs.Machine.{session_report_of}
use Rattle.machine.proofs.Sessions.{session_active, session_none, session_over}
use Rattle.machine.proofs.session_at.Goals as goal

pub returns-then-s-ge32 : goal.returns-then-s-ge32
returns-then-s-ge32 c = said_too session_report_of (sym (session_over _ _ c.if-s-ge32.true))

pub returns-then-not-z : goal.returns-then-not-z
returns-then-not-z c = said_too session_report_of (sym (session_none _ _ c.source_at-z.result c.if-s-ge32.false c.source_at-z.ensures (not_true _ c.if-not-z.true)))

pub returns : goal.returns
returns c = said_too session_report_of (sym (session_active _ _ c.source_at-z.result c.if-s-ge32.false c.source_at-z.ensures (not-false _ c.if-not-z.false)))
