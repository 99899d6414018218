-- `fractions::Rate::lowest` meets its contract: the divisor is above zero, since it divides the denominator.
-- Assumes nothing.
use mathlib.Core.Path.{ap}
use Prim.Native.Nat.{ℕ, ◌/◌}
use native.Mathlib.Omega.{arith}
use Rattle.fractions.specs.Fraction.{frac, lowest_of}
use Rattle.fractions.proofs.Divisors.{gcd_pos, gcd_unique}
use Rattle.fractions.proofs.Rate.lowest.Goals as goal

pub nonzero_div-result : goal.nonzero_div-result
nonzero_div-result c = omega (arith, gcd_pos c.requires c.gcd-g.ensures)

pub nonzero_div-result-2 : goal.nonzero_div-result-2
nonzero_div-result-2 c = omega (arith, gcd_pos c.requires c.gcd-g.ensures)

pub returns : goal.returns
unfolding lowest_of
returns c = ap (λ (g : ℕ). frac (c.args.n / g) (c.args.d / g)) (gcd_unique c.gcd-g.ensures)
