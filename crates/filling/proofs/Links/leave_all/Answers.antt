-- `filling::Links::leave_all` meets its contract.
-- Assumes nothing.
use borrow.Author.Rules.{rules}
use mathlib.Core.Path.{◌≡◌}
use native.Mathlib.Omega.{arith}
use Rattle.sessions.proofs.Remaining.{remains_all, remains_member, remains_next, remains_none}
use Rattle.filling.proofs.Leaving.{departed_all, departed_none, departed_turn, leavable_turn}
use Rattle.filling.proofs.Links.leave_all.Goals as goal

pub loop-s-init : goal.loop-s-init
loop-s-init c =
    let a = c.args in
    let start : c.into_iter-s-iterator.result.left ≡ a.chosen = search rules in
    rw start (tt, tt, remains_all 32 a.chosen (omega arith), departed_none a.path.now a.chosen a.share a.self.now)

pub leave_path-requires : goal.leave_path-requires
leave_path-requires c =
    let a = c.args in
    let z = c.loop-s in
    let n = c.in-Some.ensures.steps in (
      n.1,
      z.invariant.3.long c.requires.whole,
      leavable_turn a.path.now a.chosen z.s-iterator.left a.share a.self.now z.self z.invariant.3 c.in-Some.s n.2 c.requires,
    )

pub loop-s-preserved : goal.loop-s-preserved
loop-s-preserved c =
    let a = c.args in
    let z = c.loop-s in
    let n = c.in-Some.ensures.steps in
    let left = z.s-iterator.left in
    let mine = remains_member 32 a.chosen left z.invariant.2 c.in-Some.s n.2 in (
      tt,
      tt,
      remains_next 32 a.chosen left z.invariant.2 c.in-Some.s c.next.new.self.left n.3,
      departed_turn a.path.now a.chosen left a.share a.self.now z.self z.invariant.3 c.in-Some.s n.2 c.next.new.self.left
          c.leave_path.new.self mine n.3 c.leave_path.ensures,
    )

pub returns : goal.returns
returns c =
    let a = c.args in
    let z = c.loop-s in
    let none = remains_none 32 a.chosen z.s-iterator.left z.invariant.2 c.in-None.ensures.steps.0 in
    departed_all a.path.now a.chosen z.s-iterator.left a.share a.self.now z.self none z.invariant.3
