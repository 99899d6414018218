-- `filling::Links::leave_path` meets its contract.
-- Assumes nothing.
use Prim.Native.Nat.{◌+◌, ◌*◌, ◌<◌, ◌≤◌}
use native.Mathlib.Omega.{arith}
use lib.ListN.{length}
use Rattle.search.proofs.Paths.{path_byte, path_length}
use Rattle.filling.proofs.Leaving.{leavable_next, leaves_all, leaves_next, leaves_none}
use Rattle.filling.proofs.Links.leave_path.Goals as goal

pub loop-e-init : goal.loop-e-init
loop-e-init c = let a = c.args in leaves_none a.path.now a.s a.share a.self.now

pub leave-requires : goal.leave-requires
leave-requires c =
    let a = c.args in
    let z = c.loop-e in
    let h : z.e-index < 8 = omega (arith, path_length a.path.now a.s (omega (arith, c.requires.0)), c.loop-e-test.true) in
    let p = c.requires in (
      p.0,
      z.invariant.long p.1,
      leavable_next a.path.now a.s a.share z.e-index a.self.now z.self _ (path_byte a.path.now a.s z.e-index h) z.invariant h p.2,
    )

pub loop-e-preserved : goal.loop-e-preserved
loop-e-preserved c =
    let a = c.args in
    let z = c.loop-e in
    let h : z.e-index < 8 = omega (arith, path_length a.path.now a.s (omega (arith, c.requires.0)), c.loop-e-test.true) in
    leaves_next a.path.now a.s a.share z.e-index a.self.now z.self _ (path_byte a.path.now a.s z.e-index h) z.invariant _ c.leave.ensures

pub returns : goal.returns
returns c =
    let a = c.args in
    let z = c.loop-e in
    let fits : a.s * 8 + 8 ≤ length a.path.now = omega (arith, c.requires.0) in
    leaves_all a.path.now a.s a.share z.e-index a.self.now z.self (omega (arith, path_length a.path.now a.s fits)) z.invariant
