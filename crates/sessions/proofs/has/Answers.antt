-- `sessions::has` meets its contract.
-- Assumes nothing.
use mathlib.Core.Path.{ap, sym, ◌∙◌}
use native.Mathlib.Omega.{arith}
use borrow.Author.Rules.{rules}
use borrow.Author.Tests.{tests}
use lib.Dec.{eqb}
use Rattle.sessions.specs.Set.{has_of}
use Rattle.sessions.proofs.Members.{has_high, out_is}
use Rattle.sessions.proofs.Operations.{has_shr}
use Rattle.sessions.proofs.has.Goals as goal

pub returns-then-s-lt64 : goal.returns-then-s-lt64
returns-then-s-lt64 g c = ap (λ d. eqb d 1) (has_shr c.args.s c.bits-n.result) ∙ ap (has_of c.args.s) c.bits-n.ensures.same

pub returns-else-s-lt64 : goal.returns-else-s-lt64
returns-else-s-lt64 g c =
    let n = c.bits-n.result in
    search (rules, tests) ∙ sym (out_is n c.args.s (has_high 64 c.args.s n (omega arith) c.if-s-lt64.false)) ∙ ap (has_of c.args.s) c.bits-n.ensures.same
