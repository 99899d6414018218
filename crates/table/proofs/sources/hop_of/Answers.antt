-- `table::hop_of` meets its contract.
-- Assumes nothing.
use Rattle.std.proofs.Common.{rules, arith, ◌≡◌, ◌≤◌, ◌<◌, ℕ, sym, ◌∙◌, ap, refl, Bool, tests}
use lib.Dec.{eqb}
use Rattle.std.specs.List.{position_from, range_with_len}
use Rattle.std.proofs.lemmas.Iterator.{serves_from_Range, YieldsList-from_range}
use Rattle.std.proofs.lemmas.Iterator.Adapters.{position_from-zero}
use Rattle.std.proofs.lemmas.Iterator.Search.{position_from_yields_List}
use Rattle.table.specs.Words.{hop_of, stop_of}
use Rattle.table.proofs.Loops.{hop_found, hop_given}
use Rattle.table.proofs.InRange.{hops_most}
use Rattle.table.proofs.sources.hop_of.Goals.{After-position}
use Rattle.table.proofs.sources.hop_of.Goals as goal

-- what was found is the hop
found : (c : After-position) → hop_of c.args.t.now c.args.s c.args.e ≡ hop_given c.position.result
found c =
    let a = c.args in
    let w = a.t.now in
    let test : ℕ → Bool = λ i. eqb (stop_of w a.s i) a.e in
    let n = c.hops_at.result in
    let p : c.position.result ≡ position_from test 0 (range_with_len 0 n) =
    position_from_yields_List test _ _ c.position.result c.position.ensures.ran (YieldsList-from_range 0 n n refl (omega arith)) (λ x b q k. search (rules, tests)) ∙ position_from-zero test (range_with_len 0 n) in
    hop_found w a.s a.e c.position.result (p ∙ ap (λ (k : ℕ). position_from test 0 (range_with_len 0 k)) c.hops_at.ensures)

pub position-requires-clause-callable : goal.position-requires-clause-callable
position-requires-clause-callable c =
    let m : c.hops_at.result ≤ 8 = omega (arith, c.hops_at.ensures, hops_most c.args.t.now c.args.s) in
    serves_from_Range (λ x q e. search rules) (λ x a b. let k : x < 8 = omega arith in search rules)

pub returns-in_err-i : goal.returns-in_err-i
returns-in_err-i c =
    let n : hop_of c.args.t.now c.args.s c.args.e ≡ 0 = found c.before.before.before ∙ ap hop_given c.in_err-i.was in
    search rules

pub overflow_cast-result : goal.overflow_cast-result
overflow_cast-result c = omega (arith, c.in_ok-i.ensures.bound, c.hops_at.ensures, hops_most c.args.t.now c.args.s)

pub overflow_add-result : goal.overflow_add-result
overflow_add-result c = omega (arith, c.in_ok-i.ensures.bound, c.hops_at.ensures, hops_most c.args.t.now c.args.s)

pub returns : goal.returns
returns c = (omega arith, sym (found c.before.before ∙ ap hop_given c.in_ok-i.was))
