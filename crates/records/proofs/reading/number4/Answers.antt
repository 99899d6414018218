-- `records::reading::number4` meets its contract.
-- Assumes nothing.
use native.Mathlib.Omega.{arith}
use Rattle.records.specs.Format.{be4}
use Rattle.records.proofs.reading.number4.Goals as goal

pub returns : goal.returns
unfolding be4
returns c = omega (arith, c.from.ensures, c.from_be_bytes.ensures)
