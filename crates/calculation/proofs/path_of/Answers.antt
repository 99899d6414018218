-- `calculation::path_of` meets its contract.
-- Assumes nothing.
use native.Mathlib.Omega.{arith}
use Rattle.calculation.proofs.FirstOf.{path_part}
use Rattle.calculation.proofs.path_of.Goals as goal

pub returns : goal.returns
returns c = path_part c.args.d.now.path c.args.t (omega (arith, c.requires))
