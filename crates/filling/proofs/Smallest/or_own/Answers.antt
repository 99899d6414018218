-- `filling::Smallest::or_own` meets its contract.
-- Assumes nothing.
use borrow.Author.Rules.{rules}
use mathlib.Core.Path.{◌≡◌, sym, ap, ◌∙◌, subst}
use Prim.Native.Nat.{ℕ, ◌*◌, ◌^◌, ◌<◌, ◌≤◌}
use native.Mathlib.Nat.{mul-le-mul}
use native.Mathlib.Omega.{arith}
use lib.Pow.{pow-lt}
use Rattle.fractions.specs.Fraction.{max_rate}
use Rattle.sessions.proofs.Remaining.{remains_all, remains_member, remains_next, remains_none}
use Rattle.declarations.specs.Declaring.{own_limit_of}
use Rattle.declarations.proofs.OwnLimit.{own_limit_le}
use Rattle.filling.specs.SmallestShare.{SmallestFits, limits_of, parts_limit, smaller_of}
use Rattle.filling.proofs.SmallestOfAll.{best_all, best_own, best_start}
use Rattle.filling.proofs.SmallestShare.{smaller_fits}
use Rattle.filling.proofs.Smallest.or_own.Goals as goal

-- den times an own limit fits
room_fits : (den limit access maximum : ℕ) → den ≤ 118098 → access ≤ max_rate → limit ≡ own_limit_of access maximum → den * limit ≤ parts_limit
room_fits den limit access maximum d h e =
    let l : limit ≤ max_rate = omega (arith, e, own_limit_le access maximum, h) in
    omega (arith, mul-le-mul d l)

pub loop-s-init : goal.loop-s-init
loop-s-init c =
    let a = c.args in
    let start : c.into_iter-s-iterator.result.left ≡ a.opens = search rules in
    rw start (
      tt,
      tt,
      remains_all 32 a.opens (omega arith),
      c.requires.0,
      λ room count q. best_start room count a.den a.opens (limits_of a.d.now.access a.d.now.maximum) _ q,
    )

pub overflow_mul-den : goal.overflow_mul-den
overflow_mul-den c =
    omega (arith, room_fits _ _ _ _ c.requires.1 (c.requires.2 _ c.in-Some.ensures.steps.1) c.own_limit-limit.ensures)

pub or_smaller-least-requires : goal.or_smaller-least-requires
or_smaller-least-requires c = (
  c.loop-s.invariant.3,
  room_fits _ _ _ _ c.requires.1 (c.requires.2 _ c.in-Some.ensures.steps.1) c.own_limit-limit.ensures,
  omega arith,
)

pub loop-s-preserved : goal.loop-s-preserved
loop-s-preserved c =
    let z = c.loop-s in
    let a = c.args in
    let s = c.in-Some.s in
    let n = c.in-Some.ensures.steps in
    let left = z.s-iterator.left in
    let x = c.only in
    let y = c.or_smaller-least in
    let one : x.result < 2 ^ 32 = omega (arith, x.ensures, pow-lt {i = s} {j = 32} n.1) in
    let is_open = remains_member 32 a.opens left z.invariant.2 s n.2 in
    let fits = room_fits _ _ _ _ c.requires.1 (c.requires.2 _ n.1) c.own_limit-limit.ensures in
    let new = y.ensures ∙ ap (λ (t : ℕ). smaller_of z.least (a.den * t) 1 x.result 0) c.own_limit-limit.ensures in (
      tt,
      tt,
      remains_next 32 a.opens left z.invariant.2 s c.next.new.self.left n.3,
      subst SmallestFits (sym y.ensures) (smaller_fits z.least _ _ x.result 0 z.invariant.3 fits (omega arith) one (omega arith)),
      λ room count q.
          best_own room count a.den a.opens (limits_of a.d.now.access a.d.now.maximum) left s c.next.new.self.left x.result z.least
          y.result n.1 is_open n.3 x.ensures new (z.invariant.4 room count q),
    )

pub returns : goal.returns
returns c =
    let z = c.loop-s in
    let left = z.s-iterator.left in
    let none = remains_none 32 c.args.opens left z.invariant.2 c.in-None.ensures.steps.0 in
    record { fits = z.invariant.3; among = λ room count q. best_all _ _ left _ none (z.invariant.4 room count q) }
