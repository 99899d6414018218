-- `records::paths::is_new` meets its contract.
-- Assumes nothing.
use Rattle.std.proofs.Common.{rules, tests, arith, ◌∙◌, ℕ, eqb, not}
use Rattle.std.proofs.lemmas.Iterator.{YieldsList-from_slice}
use Rattle.std.proofs.lemmas.Iterator.Search.{all_from_yields_List}
use Rattle.records.specs.Format.{is_new}
use Rattle.records.proofs.Chains.{all_of_part}
use Rattle.records.proofs.paths.is_new.Goals as goal

pub returns : goal.returns
unfolding is_new
returns c =
    let a = c.args in
    all_from_yields_List (λ (e : ℕ). not (eqb e a.link)) _ _ c.all.result c.all.ensures.ran (YieldsList-from_slice _ c.iter.ensures.rest)
    (λ x b q k. search (rules, tests))
    ∙ all_of_part a.s.now (λ (e : ℕ). not (eqb e a.link)) a.n _ a.at (omega arith) (omega arith)
