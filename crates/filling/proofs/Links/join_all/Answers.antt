-- `filling::Links::join_all` meets its contract.
-- Assumes nothing.
use borrow.Author.Rules.{rules}
use mathlib.Core.Path.{◌≡◌, refl}
use native.Mathlib.Omega.{arith}
use Rattle.sessions.proofs.Remaining.{remains_all, remains_member, remains_next, remains_none}
use Rattle.filling.proofs.Crossings.{beside_then, placed_all, placed_none, placed_turn}
use Rattle.filling.proofs.Links.join_all.Goals as goal

pub loop-s-init : goal.loop-s-init
loop-s-init c =
    let a = c.args in
    let start : c.into_iter-s-iterator.result.left ≡ a.sessions = search rules in
    rw start (tt, tt, remains_all 32 a.sessions (omega arith), placed_none a.path.now a.sessions a.self.now c.requires.1, (refl, refl, refl))

pub join_path-requires : goal.join_path-requires
join_path-requires c = (c.in-Some.ensures.steps.1, c.loop-s.invariant.3.long)

pub loop-s-preserved : goal.loop-s-preserved
loop-s-preserved c =
    let z = c.loop-s in
    let a = c.args in
    let s = c.in-Some.s in
    let n = c.in-Some.ensures.steps in
    let left = z.s-iterator.left in
    let declared = remains_member 32 a.sessions left z.invariant.2 s n.2 in (
      tt,
      tt,
      remains_next 32 a.sessions left z.invariant.2 s c.next.new.self.left n.3,
      placed_turn a.path.now a.sessions left s c.next.new.self.left z.self c.join_path.new.self n.1 n.2 declared n.3
          c.join_path.ensures z.invariant.3,
      beside_then a.self.now z.self c.join_path.new.self z.invariant.4 c.join_path.ensures.beside,
    )

pub returns : goal.returns
returns c =
    let z = c.loop-s in
    let a = c.args in
    let none = remains_none 32 a.sessions z.s-iterator.left z.invariant.2 c.in-None.ensures.steps.0 in
    (placed_all a.path.now a.sessions z.s-iterator.left z.self none z.invariant.3, z.invariant.4)
