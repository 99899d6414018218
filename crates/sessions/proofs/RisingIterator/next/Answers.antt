-- `next` of the members of a word: the lowest comes, and the others are left.
-- Assumes nothing.
use mathlib.Core.Path.{sym, ap, ◌∙◌}
use native.Mathlib.Omega.{arith}
use lib.ListN.{length}
use Rattle.sessions.proofs.Walks.{low_le, members_none, gives_member}
use Rattle.sessions.proofs.RisingIterator.next.Goals.{After-cut-self}
use Rattle.sessions.proofs.RisingIterator.next.Goals as goal

pub returns-then-s-WIDTH-clause-steps : goal.returns-then-s-WIDTH-clause-steps
returns-then-s-WIDTH-clause-steps g c =
    let k = g.W.Word.WIDTH in
    let w = g.W.Word.value c.args.self.now.left in
    let e = members_none k 0 w (sym c.next-s.ensures ∙ c.if-s-WIDTH.true ∙ c.WIDTH.ensures) in
    (e, e)

pub returns-clause-steps : goal.returns-clause-steps
returns-clause-steps g c =
    let k = g.W.Word.WIDTH in
    let w = g.W.Word.value c.args.self.now.left in
    gives_member k w c.next-s.result _ (omega (arith, low_le k w, c.next-s.ensures, c.WIDTH.ensures, c.if-s-WIDTH.false)) c.next-s.ensures c.cut-self.ensures

pub returns-clause-goes : goal.returns-clause-goes
returns-clause-goes g c =
    let k = g.W.Word.WIDTH in
    let w = g.W.Word.value c.args.self.now.left in
    let h = gives_member k w c.next-s.result _ (omega (arith, low_le k w, c.next-s.ensures, c.WIDTH.ensures, c.if-s-WIDTH.false)) c.next-s.ensures c.cut-self.ensures in
    record { on = λ _. (tt, tt, omega (arith, ap length h.0)); keeps = tt; rests = λ _. tt }
