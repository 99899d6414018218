-- `records::reading::number2` meets its contract.
-- Assumes nothing.
use native.Mathlib.Omega.{arith}
use Rattle.records.specs.Format.{be2}
use Rattle.records.proofs.reading.number2.Goals as goal

pub returns : goal.returns
unfolding be2
returns c = omega (arith, c.from_be_bytes.ensures)
