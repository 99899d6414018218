-- `exports::umbraconga_calculate` meets its contract: what the calculation says of the places holds where the report's first word is 0.
use Rattle.exports.proofs.Reported.{binds_where_taken}
use Rattle.exports.proofs.umbraconga_calculate.Goals as goal

pub returns-clause-binds : goal.returns-clause-binds
returns-clause-binds c = binds_where_taken _ _ _ _ _ c.calculate-answer.result c.calculation_report.ensures c.calculate-answer.ensures.binds
