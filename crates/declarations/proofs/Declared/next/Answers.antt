-- `declarations::Declared::next` meets its contract.
-- Assumes nothing.
use mathlib.Core.Path.{sym}
use native.Mathlib.Omega.{arith}
use Rattle.std.proofs.lemmas.Result.{err_from_is_err_and}
use Rattle.records.specs.declared.Call.TheVariants as call
use Rattle.records.proofs.ReadRecords.{read_record_ok}
use Rattle.declarations.proofs.Declared.next.Goals as goal

pub judge-requires : goal.judge-requires
judge-requires c =
    let a = c.args in
    read_record_ok call.Calculation a.s.now a.at _ (λ i. omega (arith, c.type_inv.s i)) (sym c.in_ok-x.ensures.exact)

pub returns-in_err-x : goal.returns-in_err-x
returns-in_err-x c =
    let p = err_from_is_err_and c.from_residual.result c.from_residual.ensures.1 in
    rw (p.1, p.2, ← c.in_err-x.ensures.exact)

pub returns-in_err-judge : goal.returns-in_err-judge
returns-in_err-judge c =
    let p = err_from_is_err_and c.from_residual-in_err-judge.result c.from_residual-in_err-judge.ensures.1 in
    rw (p.1, p.2, ← c.in_ok-x.ensures.exact, ← c.in_err-judge.ensures)

pub returns : goal.returns
returns c = rw (← c.in_ok-x.ensures.exact, ← c.in_ok-judge.ensures)
