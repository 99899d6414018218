-- `calculation::find` meets its contract.
-- Assumes nothing.
use borrow.Author.Rules.{rules}
use mathlib.Core.Path.{◌≡◌, refl, ap, ◌∙◌}
use Prim.Native.Nat.{ℕ, ◌*◌, ◌≤◌}
use native.Mathlib.Nat.{le_trans, mul-le-mul}
use native.Mathlib.Omega.{arith}
use Rattle.fractions.specs.Fraction.{max_rate}
use Rattle.fractions.specs.declared.Rate.{Rate}
use Rattle.sessions.proofs.Remaining.{remains_all, remains_next, remains_none}
use Rattle.declarations.proofs.OwnLimit.{own_limit_le}
use Rattle.calculation.specs.Binding.{binding_by_last}
use Rattle.calculation.proofs.Upto.{upto_all, upto_none, upto_turn}
use Rattle.calculation.proofs.find.Goals as goal

pub loop-t-init : goal.loop-t-init
loop-t-init c =
    let sessions = c.args.d.now.sessions in
    let start : c.into_iter-t-iterator.result.left ≡ sessions = search rules in
    rw start (tt, tt, remains_all 32 sessions (omega arith), upto_none _ _ _ refl, upto_none _ _ _ refl, upto_none _ _ _ refl)

pub lowest-lowest-requires : goal.lowest-lowest-requires
lowest-lowest-requires c = c.requires.0

pub overflow_mul-z : goal.overflow_mul-z
overflow_mul-z c =
    let p = c.requires in
    let le : c.own_limit-limit.result ≤ max_rate = rw c.own_limit-limit.ensures (le_trans (own_limit_le _ _) (p.2 c.in-Some.t c.in-Some.ensures.steps.1)) in
    omega (arith, mul-le-mul p.1 le)

pub binding-requires : goal.binding-requires
binding-requires c = (c.in-Some.ensures.steps.1, c.requires.3)

pub loop-t-preserved : goal.loop-t-preserved
loop-t-preserved c =
    let a = c.args in
    let z = c.loop-t in
    let t = c.in-Some.t in
    let n = c.in-Some.ensures.steps in
    let place =
    c.binding.ensures
    ∙ ap (λ (v : ℕ). binding_by_last a.d.now.path a.z.now.rate a.z.now.room a.z.now.last (a.z.now.den * v) t) c.own_limit-limit.ensures in (
      tt,
      tt,
      remains_next 32 a.d.now.sessions z.t-iterator.left z.invariant.2 t c.next.new.self.left n.3,
      upto_turn _ _ _ _ _ _ _ n.1 (ap (λ (r : Rate). r.num) c.lowest-lowest.ensures) n.3 z.invariant.3,
      upto_turn _ _ _ _ _ _ _ n.1 (ap (λ (r : Rate). r.den) c.lowest-lowest.ensures) n.3 z.invariant.4,
      upto_turn _ _ _ _ _ _ _ n.1 place n.3 z.invariant.5,
    )

pub returns : goal.returns
returns c =
    let i = c.loop-t.invariant in
    let none = remains_none 32 c.args.d.now.sessions c.loop-t.t-iterator.left i.2 c.in-None.ensures.steps.0 in
    record { num = upto_all _ _ _ _ none i.3; den = upto_all _ _ _ _ none i.4; place = upto_all _ _ _ _ none i.5 }
