-- `declarations::path_declared` meets its contract.
-- Assumes nothing.
use Rattle.std.proofs.Common.{rules, arith, ◌∙◌, ℕ}
use Rattle.std.proofs.lemmas.Iterator.{YieldsList-from_slice}
use Rattle.std.proofs.lemmas.Iterator.Search.{all_from_yields_List}
use Rattle.sessions.specs.Set.{has_of}
use Rattle.records.proofs.Chains.{all_of_part}
use Rattle.declarations.specs.Declaring.{path_declared}
use Rattle.declarations.proofs.path_declared.Goals as goal

pub returns : goal.returns
unfolding path_declared
returns c =
    let a = c.args in
    all_from_yields_List (λ (e : ℕ). has_of e a.links) _ _ c.all.result c.all.ensures.ran (YieldsList-from_slice _ c.iter.ensures.rest) (λ x b q k. search rules)
    ∙ all_of_part a.s.now (λ (e : ℕ). has_of e a.links) a.n _ a.at (omega arith) (omega arith)
