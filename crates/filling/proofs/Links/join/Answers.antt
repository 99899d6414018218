-- `filling::Links::join` meets its contract.
-- Assumes nothing.
use native.Mathlib.Omega.{arith}
use Rattle.filling.proofs.Crossings.{joins_one, joins_skip}
use Rattle.filling.proofs.Links.join.Goals as goal

pub returns-then-e-ge64 : goal.returns-then-e-ge64
returns-then-e-ge64 c = let a = c.args in joins_skip a.e a.s a.self.now c.requires.1 c.if-e-ge64.true

pub returns : goal.returns
returns c =
    let a = c.args in
    joins_one a.e a.s a.self.now c.put.result c.put-self.result c.requires.1 (omega arith) c.put.ensures c.put-self.ensures
