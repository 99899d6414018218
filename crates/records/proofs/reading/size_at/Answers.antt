-- `records::size_at` meets its contract.
-- Assumes nothing.
use mathlib.Core.Path.{ap, sym}
use Prim.Native.Nat.{◌+◌}
use native.Mathlib.Omega.{arith}
use Rattle.records.specs.Format.{size_at}
use Rattle.records.proofs.PastEnd.{size_past_end}
use Rattle.records.proofs.reading.size_at.Goals as goal

pub returns-then-s-at : goal.returns-then-s-at
returns-then-s-at c = (sym (size_past_end _ _ c.if-s-at.true), omega arith, omega arith)

pub returns : goal.returns
unfolding size_at
returns c = (ap (λ n. 1 + n) c.body.ensures.0, omega arith, omega (arith, c.body.ensures))
