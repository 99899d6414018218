-- Every record keeps the invariant, and with it the law of probe cycles, whether it is taken or refused; so every table that is reached has both.
-- Assumes nothing.
use mathlib.Core.List.{List}
use Prim.Native.Nat.{ℕ}
use Rattle.events.specs.Events.{event_of}
use Rattle.records.specs.declared.Record.{Record}
use Rattle.records.specs.declared.Record.TheVariants as rec
use Rattle.records.specs.Format.{RecordOk}
use Rattle.reachable.specs.Cycle.{Cycle}
use Rattle.reachable.specs.Invariant.{Inv}
use Rattle.reachable.specs.Reachable.{Reachable}
use Rattle.reachable.proofs.AtEnds.{deliver_kept}
use Rattle.reachable.proofs.CyclesAtEnds.{deliver_cycle}
use Rattle.reachable.proofs.CyclesOfRecords.{change_cycle, declare_cycle, empty_cycle, join_cycle, leave_cycle}
use Rattle.reachable.proofs.Declares.{declare_kept}
use Rattle.reachable.proofs.EveryRun.{reachable_kept}
use Rattle.reachable.proofs.Joins.{join_kept}
use Rattle.reachable.proofs.LeavesAndChanges.{change_kept, leave_kept}
use Rattle.reachable.proofs.PassesSafe.{empty_inv}

pub event_kept : (s w : List ℕ) (x : Record) → RecordOk s x → Inv w → Inv (event_of s w x).words
unfolding event_of
event_kept s w (rec.Link e capacity) k i = declare_kept w e capacity k.0 k.2 i
event_kept s w (rec.Session x) k i = join_kept s w x.session x.access x.maximum x.size x.path k.0 k.1 k.2 k.3 k.4 k.5 i
event_kept s w (rec.Leave t) k i = leave_kept w t k i
event_kept s w (rec.Change t maximum) k i = change_kept w t maximum k.0 k.1 i
event_kept s w (rec.Deliver position) k i = deliver_kept w position i

pub event_cycle : (s w : List ℕ) (x : Record) → RecordOk s x → Inv w → Cycle w → Cycle (event_of s w x).words
unfolding event_of
event_cycle s w (rec.Link e capacity) k i c = declare_cycle w e capacity k.0 k.2 i.safe c
event_cycle s w (rec.Session x) k i c = join_cycle s w x.session x.access x.maximum x.size x.path k.0 k.1 k.2 k.3 k.4 k.5 i c
event_cycle s w (rec.Leave t) k i c = leave_cycle w t k i c
event_cycle s w (rec.Change t maximum) k i c = change_cycle w t maximum k.0 k.1 i c
event_cycle s w (rec.Deliver position) k i c = deliver_cycle w position i c

pub reachable_inv : (w : List ℕ) → Reachable w → Inv w
reachable_inv w r = reachable_kept Inv event_kept empty_inv w r

pub reachable_cycle : (w : List ℕ) → Reachable w → Cycle w
reachable_cycle w r =
    (reachable_kept (λ u. Inv u × Cycle u) (λ s u x k b. (event_kept s u x k b.0, event_cycle s u x k b.0 b.1)) (empty_inv, empty_cycle) w r).1
