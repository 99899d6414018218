-- `machine::step` meets its contract: what was read, and what it does.
-- Assumes nothing.
use mathlib.Core.Path.{sym}
use native.Mathlib.Omega.{arith}
use Rattle.std.proofs.lemmas.Result.{err_from_is_err_and}
use Rattle.records.proofs.ReadRecords.{read_record_ok}
use Rattle.machine.specs.Machine.{step_of}
use Rattle.machine.proofs.step.Goals as goal

pub event-requires : goal.event-requires
event-requires c = read_record_ok _ c.args.s.now c.args.at _ (λ i. omega (arith, c.type_inv.s i)) (sym c.in_ok-x.ensures.exact)

pub returns-in_err-x : goal.returns-in_err-x
unfolding step_of
returns-in_err-x c =
    let p = err_from_is_err_and c.from_residual.result c.from_residual.ensures.1 in
    rw (p.1, p.2, ← c.in_err-x.ensures.exact)

pub returns : goal.returns
unfolding step_of
returns c = rw (← c.in_ok-x.ensures.exact) c.event.ensures.exact
