-- `records::paths::links_ok` meets its contract.
-- Assumes nothing.
use Rattle.std.proofs.Common.{rules, tests, arith, ◌∙◌, ℕ, ltb}
use Rattle.std.proofs.lemmas.Iterator.{YieldsList-from_slice}
use Rattle.std.proofs.lemmas.Iterator.Search.{all_from_yields_List}
use Rattle.records.specs.Format.{links_ok}
use Rattle.records.proofs.Chains.{all_of_part}
use Rattle.records.proofs.paths.links_ok.Goals as goal

pub returns : goal.returns
unfolding links_ok
returns c =
    let a = c.args in
    all_from_yields_List (λ (e : ℕ). ltb e 64) _ _ c.all.result c.all.ensures.ran (YieldsList-from_slice _ c.iter.ensures.rest) (λ x b q k. search (rules, tests))
    ∙ all_of_part a.s.now (λ (e : ℕ). ltb e 64) a.n _ a.at (omega arith) (omega arith)
