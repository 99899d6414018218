-- `filling::Links::leave` meets its contract.
-- Assumes nothing.
use mathlib.Core.Logic.{inl, inr}
use mathlib.Core.Path.{refl, sym, ◌∙◌}
use native.Mathlib.Omega.{arith}
use lib.Dec.{eqb_refl}
use Rattle.sessions.proofs.Members.{is_in, is_out}
use Rattle.filling.proofs.LeavingALink.{leaves_one, leaves_out, leaves_skip}
use Rattle.filling.proofs.Links.leave.Goals as goal

pub returns-then-e-ge64 : goal.returns-then-e-ge64
returns-then-e-ge64 c = let a = c.args in leaves_skip a.e a.s a.share a.self.now c.if-e-ge64.true

pub returns-then-not-has : goal.returns-then-not-has
returns-then-not-has c =
    let a = c.args in
    leaves_out a.e a.s a.share a.self.now (is_out _ _ (sym c.has.ensures ∙ c.if-not-has.true))

pub overflow_sub-self : goal.overflow_sub-self
overflow_sub-self c = (c.requires.2 c.args.e (omega arith) (eqb_refl c.args.e) (is_in _ _ (sym c.has.ensures ∙ c.if-not-has.false))).0

pub overflow_sub-self-2 : goal.overflow_sub-self-2
overflow_sub-self-2 c = omega (arith, (c.requires.2 c.args.e (omega arith) (eqb_refl c.args.e) (is_in _ _ (sym c.has.ensures ∙ c.if-not-has.false))).1)

pub returns-then-others-eq0 : goal.returns-then-others-eq0
returns-then-others-eq0 c =
    let a = c.args in
    let q = c.requires in
    let there = is_in _ _ (sym c.has.ensures ∙ c.if-not-has.false) in
    let e = q.2 a.e (omega arith) (eqb_refl a.e) there in
    leaves_one a.e a.s a.share a.self.now c.cut-others.result _ _ c.cut-self.result _ q.1 (omega arith) q.0 there
    c.cut-others.ensures (omega (arith, e.0)) (omega (arith, e.1)) (inl (c.if-others-eq0.true, c.cut-self.ensures, refl))

pub returns-else-others-eq0 : goal.returns-else-others-eq0
returns-else-others-eq0 c =
    let a = c.args in
    let q = c.requires in
    let there = is_in _ _ (sym c.has.ensures ∙ c.if-not-has.false) in
    let e = q.2 a.e (omega arith) (eqb_refl a.e) there in
    leaves_one a.e a.s a.share a.self.now c.cut-others.result _ _ a.self.now.busy _ q.1 (omega arith) q.0 there
    c.cut-others.ensures (omega (arith, e.0)) (omega (arith, e.1)) (inr (omega arith, refl, refl))
