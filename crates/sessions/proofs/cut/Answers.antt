-- `sessions::cut` meets its contract.
-- Assumes nothing.
use mathlib.Core.Path.{ap, ◌∙◌}
use Prim.Native.Nat.{◌-◌, ◌<◌}
use native.Mathlib.Omega.{arith}
use lib.Bits.{bit_and}
use Rattle.sessions.specs.Set.{cut}
use Rattle.sessions.proofs.Operations.{shl_one, and_cut}
use Rattle.sessions.proofs.cut.Goals as goal

pub returns : goal.returns
returns g c =
    let n = c.bits.result in
    let s = c.args.s in
    let h : s < 64 = omega (arith, c.requires, g.met.W.Word.at_most_64) in
    c.from_bits.ensures ∙ ap (λ b. bit_and n (18446744073709551615 - b)) (shl_one 64 s h) ∙ and_cut 64 s n h (omega arith) ∙ ap (cut s) c.bits.ensures.same
