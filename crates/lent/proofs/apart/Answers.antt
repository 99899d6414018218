-- `lent::apart` meets its contract: one word has the sessions of both.
-- Assumes nothing.
use native.Mathlib.Omega.{arith}
use Rattle.lent.proofs.Both.{apart_word}
use Rattle.lent.proofs.apart.Goals as goal

pub returns : goal.returns
returns c = apart_word _ (omega arith)
