-- `filling::Links::least` meets its contract.
-- Assumes nothing.
use borrow.Author.Rules.{rules}
use mathlib.Core.Path.{◌≡◌, sym, subst}
use Prim.Native.Nat.{◌^◌, ◌<◌}
use native.Mathlib.Omega.{arith}
use lib.Pow.{pow-lt}
use Rattle.sessions.proofs.Remaining.{remains_all, remains_next, remains_none}
use Rattle.filling.specs.SmallestShare.{SmallestFits}
use Rattle.filling.proofs.SmallestOfAll.{best_first, best_link, best_links}
use Rattle.filling.proofs.SmallestShare.{smaller_fits}
use Rattle.filling.proofs.Links.least.Goals as goal

pub loop-e-init : goal.loop-e-init
loop-e-init c =
    let k = c.args.self.now in
    let start : c.into_iter-e-iterator.result.left ≡ k.busy = search rules in
    rw start (
      tt,
      tt,
      remains_all 64 k.busy (omega arith),
      record { room = omega arith; count = omega arith; own = omega arith; links = omega arith },
      λ den opens D. best_first k.room k.count k.busy den opens D c.requires.busy,
    )

pub or_smaller-least-requires : goal.or_smaller-least-requires
or_smaller-least-requires c =
    let e = c.in-Some.e in
    let n = c.in-Some.ensures.steps in
    let p = c.requires in
    (c.loop-e.invariant.3, p.room e n.1, p.count e n.1)

pub loop-e-preserved : goal.loop-e-preserved
loop-e-preserved c =
    let z = c.loop-e in
    let k = c.args.self.now in
    let p = c.requires in
    let e = c.in-Some.e in
    let n = c.in-Some.ensures.steps in
    let x = c.only in
    let y = c.or_smaller-least in
    let left = z.e-iterator.left in
    let one : x.result < 2 ^ 64 = omega (arith, x.ensures, pow-lt {i = e} {j = 64} n.1) in (
      tt,
      tt,
      remains_next 64 k.busy left z.invariant.2 e c.next.new.self.left n.3,
      subst SmallestFits (sym y.ensures) (smaller_fits z.least _ _ 0 x.result z.invariant.3 (p.room e n.1) (p.count e n.1) (omega arith) one),
      λ den opens D.
          best_link k.room k.count den opens D left e c.next.new.self.left x.result z.least y.result n.1 n.3 x.ensures
          y.ensures (z.invariant.4 den opens D),
    )

pub returns : goal.returns
returns c =
    let z = c.loop-e in
    let left = z.e-iterator.left in
    let none = remains_none 64 c.args.self.now.busy left z.invariant.2 c.in-None.ensures.steps.0 in
    record { fits = z.invariant.3; among = λ den opens D. best_links _ _ left _ none (z.invariant.4 den opens D) }
