-- `events::event` meets its contract, record by record.
-- Assumes nothing.
use mathlib.Core.Path.{◌≡◌, subst}
use Rattle.records.specs.Format.{RecordOk}
use Rattle.records.proofs.ReadRecords.{path_size_lem}
use Rattle.fractions.proofs.Cases.{said_too}
use Rattle.records.specs.Run.{verdict_number}
use Rattle.events.specs.Events.{Step, event_of}
use Rattle.events.proofs.event.Goals as goal

-- the step that was promised has the number of its verdict
told_too : {x y : Step} → x ≡ y → record { exact : x ≡ y; said : verdict_number x.verdict ≡ verdict_number y.verdict }
told_too = said_too (λ (z : Step). verdict_number z.verdict)

pub declare-requires : goal.declare-requires
declare-requires c = (subst (RecordOk c.args.s.now) c.in-Link.is c.requires).0

pub join-requires : goal.join-requires
join-requires c = let o = subst (RecordOk c.args.s.now) c.in-Session.is c.requires in (o.0, (path_size_lem _ _ _ o.4).1, o.5)

pub leave-requires : goal.leave-requires
leave-requires c = subst (RecordOk c.args.s.now) c.in-Leave.is c.requires

pub change-requires : goal.change-requires
change-requires c = (subst (RecordOk c.args.s.now) c.in-Change.is c.requires).0

pub returns-in-Link : goal.returns-in-Link
unfolding event_of
returns-in-Link c = told_too (rw c.in-Link.is c.declare.ensures)

pub returns-in-Session : goal.returns-in-Session
unfolding event_of
returns-in-Session c = told_too (rw c.in-Session.is c.join.ensures)

pub returns-in-Leave : goal.returns-in-Leave
unfolding event_of
returns-in-Leave c = told_too (rw c.in-Leave.is c.leave.ensures)

pub returns-in-Change : goal.returns-in-Change
unfolding event_of
returns-in-Change c = told_too (rw c.in-Change.is c.change.ensures)

pub returns-in-Deliver : goal.returns-in-Deliver
unfolding event_of
returns-in-Deliver c = told_too (rw c.in-Deliver.is c.deliver.ensures)
