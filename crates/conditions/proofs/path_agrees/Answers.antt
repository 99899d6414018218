-- `conditions::path_agrees` meets its contract.
-- Assumes nothing.
use Rattle.std.proofs.Common.{rules, arith, ap, subst, sym, ◌∙◌, ◌≤◌, ◌<◌, ℕ}
use Rattle.std.proofs.lemmas.Iterator.{serves_from_Range}
use Rattle.fractions.specs.declared.Rate.{Rate}
use Rattle.fractions.specs.Fraction.{Sized, max_rate}
use Rattle.records.specs.Format.{all}
use Rattle.records.proofs.Chains.{all_below_n}
use Rattle.table.specs.Words.{hops_of, place_of, stop_of}
use Rattle.table.proofs.InRange.{hops_most, source_in_range_lem, stop_below}
use Rattle.conditions.specs.Settled.{agrees_at, path_agrees, stop_agrees}
use Rattle.conditions.proofs.path_agrees.Goals as goal

pub all-requires-clause-callable : goal.all-requires-clause-callable
all-requires-clause-callable c =
    let w = c.args.t.now in
    let m : c.hops_at.result ≤ 8 = omega (arith, c.hops_at.ensures, hops_most w c.args.s) in
    let z : Sized max_rate c.args.x = subst (Sized max_rate) (sym c.requires.1) (source_in_range_lem w c.args.s).rate in
    serves_from_Range (λ x q e. search rules) (λ x a b. let k : x < 8 = omega arith in let d : stop_of w c.args.s x < 64 = stop_below w c.args.s x in grind (arith, stop_below))

pub returns : goal.returns
unfolding path_agrees stop_agrees
returns c =
    let w = c.args.t.now in
    let s = c.args.s in
    all_below_n c.hops_at.result (λ i. agrees_at c.args.x (place_of w (stop_of w s i)) s) _ _ c.all.result c.all.ensures.ran (λ x b q k. search rules)
    ∙ ap (λ (n : ℕ). all n (λ i. agrees_at c.args.x (place_of w (stop_of w s i)) s)) c.hops_at.ensures
    ∙ ap (λ (y : Rate). all (hops_of w s) (λ i. agrees_at y (place_of w (stop_of w s i)) s)) c.requires.1
