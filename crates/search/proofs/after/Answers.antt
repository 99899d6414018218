-- `search::after` meets its contract.
-- Assumes nothing.
use mathlib.Core.Path.{ap, ◌∙◌}
use Prim.Native.Nat.{ℕ, ◌-◌, ◌^◌}
use native.Mathlib.Omega.{arith}
use lib.Bits.{bit_and}
use lib.Pow.{pow_pos}
use Rattle.sessions.specs.Set.{cut}
use Rattle.search.proofs.after.Goals as goal

pub overflow_sub-before : goal.overflow_sub-before
overflow_sub-before c = omega (arith, c.only-before.ensures, pow_pos c.args.s)

pub returns : goal.returns
returns c =
    let a = c.args in
    c.cut.ensures ∙ ap (λ (v : ℕ). cut a.s (bit_and a.left ((2 ^ 32 - 1) - (v - 1)))) c.only-before.ensures
