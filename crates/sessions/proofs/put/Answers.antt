-- `sessions::put` meets its contract.
-- Assumes nothing.
use mathlib.Core.Path.{ap, ◌∙◌}
use Prim.Native.Nat.{◌<◌}
use native.Mathlib.Omega.{arith}
use borrow.Author.Rules.{rules}
use lib.Bits.{bit_or, or_lt}
use lib.Pow.{pow-lt}
use Rattle.sessions.specs.Set.{put}
use Rattle.sessions.proofs.Operations.{shl_one, or_put}
use Rattle.sessions.proofs.put.Goals as goal

pub from_bits-requires : goal.from_bits-requires
from_bits-requires g c =
    let h : c.args.s < 64 = omega (arith, c.requires, g.met.W.Word.at_most_64) in
    rw (shl_one 64 c.args.s h) (search (or_lt, pow-lt, rules))

pub returns : goal.returns
returns g c =
    let n = c.bits.result in
    let s = c.args.s in
    c.from_bits.ensures ∙ ap (bit_or n) (shl_one 64 s (omega (arith, c.requires, g.met.W.Word.at_most_64))) ∙ or_put s n ∙ ap (put s) c.bits.ensures.same
