-- `sessions::only` meets its contract.
-- Assumes nothing.
use mathlib.Core.Path.{◌∙◌}
use native.Mathlib.Omega.{arith}
use lib.Pow.{pow-lt}
use Rattle.sessions.proofs.Operations.{shl_one}
use Rattle.sessions.proofs.only.Goals as goal

pub from_bits-requires : goal.from_bits-requires
from_bits-requires g c = rw (shl_one 64 c.args.s (omega (arith, c.requires, g.met.W.Word.at_most_64))) (pow-lt c.requires)

pub returns : goal.returns
returns g c = c.from_bits.ensures ∙ shl_one 64 c.args.s (omega (arith, c.requires, g.met.W.Word.at_most_64))
