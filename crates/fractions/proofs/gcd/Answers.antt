-- `fractions::gcd` meets its contract. The measure is the sum of both numbers, which falls with each subtraction.
-- Assumes nothing.
use mathlib.Core.Logic.{◌⊎◌}
use mathlib.Core.Path.{◌≡◌}
use native.Mathlib.Omega.{arith}
use Rattle.fractions.proofs.Twos.{or_zeros, above_zeros, below_zeros}
use Rattle.fractions.proofs.Stripping.{leads_start, leads_below, leads_above, leads_end}
use Rattle.fractions.proofs.gcd.Goals as goal

pub loop-x-init : goal.loop-x-init
loop-x-init c =
    let s = c.before.before.before.before in
    leads_start s.args.a s.args.b c.odd_part-x.result c.odd_part-y.result s.ranges.a.fits (omega arith) s.ranges.b.fits
    c.odd_part-x.ensures c.odd_part-y.ensures

pub overflow_shr-x : goal.overflow_shr-x
overflow_shr-x c = let z = c.loop-x in below_zeros z.x z.y c.if-x-y.true z.invariant.right_fits

pub loop-x-preserved-then-x-y : goal.loop-x-preserved-then-x-y
loop-x-preserved-then-x-y c = leads_below c.loop-x.invariant c.if-x-y.true

pub overflow_shr-x-else-x-y : goal.overflow_shr-x-else-x-y
overflow_shr-x-else-x-y c = let z = c.loop-x in above_zeros z.x z.y (omega arith) z.invariant.left_fits

pub loop-x-preserved : goal.loop-x-preserved
loop-x-preserved c = leads_above c.loop-x.invariant (omega arith)

pub overflow_shl-result : goal.overflow_shl-result
overflow_shl-result c = let s = c.before.before.before.before.before.before in
    or_zeros s.args.a s.args.b (omega arith) s.ranges.a.fits s.ranges.b.fits

pub returns : goal.returns
returns c =
    let z = c.loop-x in
    let ended : (z.x ≡ z.y) ⊎ (z.y ≡ 1) = grind arith in
    leads_end (omega arith) c.ranges.b.fits z.invariant ended
