-- `handed::leave_to_come` meets its contract.
-- Assumes nothing.
use Rattle.std.proofs.Common.{rules, arith, ◌≤◌, ◌<◌, ap, ◌∙◌, ℕ, not}
use Rattle.std.proofs.lemmas.Iterator.{serves_from_Range}
use Rattle.records.specs.Format.{all}
use Rattle.records.proofs.Chains.{any_below_n}
use Rattle.table.proofs.InRange.{count_most}
use Rattle.handed.specs.Handed.{leave_ahead, leave_to_come}
use Rattle.handed.proofs.leave_to_come.Goals as goal

pub any-requires-clause-callable : goal.any-requires-clause-callable
any-requires-clause-callable c =
    let m : c.count.result ≤ 256 = omega (arith, c.count.ensures, count_most c.args.t.now) in
    serves_from_Range (λ x q e. search rules) (λ x a b. let k : x < 256 = omega arith in search rules)

pub returns : goal.returns
unfolding leave_to_come
returns c =
    let a = c.args in
    any_below_n c.count.result (leave_ahead a.t.now a.s a.h) _ _ c.any.result c.any.ensures.ran (λ x b q k. search rules)
    ∙ ap (λ (n : ℕ). not (all n (λ i. not (leave_ahead a.t.now a.s a.h i)))) c.count.ensures
