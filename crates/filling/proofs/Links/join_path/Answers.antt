-- `filling::Links::join_path` meets its contract.
-- Assumes nothing.
use Prim.Native.Nat.{◌+◌, ◌*◌, ◌<◌, ◌≤◌}
use native.Mathlib.Omega.{arith}
use lib.ListN.{length}
use Rattle.search.proofs.Paths.{path_byte, path_length}
use Rattle.filling.proofs.Crossings.{joins_all, joins_next, joins_none}
use Rattle.filling.proofs.Links.join_path.Goals as goal

pub loop-e-init : goal.loop-e-init
loop-e-init c = let a = c.args in joins_none a.path.now a.s a.self.now c.requires.1

pub join-requires : goal.join-requires
join-requires c = (c.requires.0, c.loop-e.invariant.long)

pub loop-e-preserved : goal.loop-e-preserved
loop-e-preserved c =
    let a = c.args in
    let z = c.loop-e in
    let h : z.e-index < 8 = omega (arith, path_length a.path.now a.s (omega (arith, c.requires.0)), c.loop-e-test.true) in
    joins_next a.path.now a.s z.e-index a.self.now z.self _ _ (path_byte a.path.now a.s z.e-index h) z.invariant c.join.ensures

pub returns : goal.returns
returns c =
    let a = c.args in
    let z = c.loop-e in
    let fits : a.s * 8 + 8 ≤ length a.path.now = omega (arith, c.requires.0) in
    joins_all a.path.now a.s z.e-index a.self.now z.self (omega (arith, path_length a.path.now a.s fits)) z.invariant
