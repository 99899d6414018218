-- `events::path_declared` meets its contract.
-- Assumes nothing.
use Rattle.std.proofs.Common.{rules, tests, arith, ◌&&◌, ◌∙◌, ℕ, ltb}
use Rattle.std.proofs.lemmas.Iterator.{YieldsList-from_slice}
use Rattle.std.proofs.lemmas.Iterator.Search.{all_from_yields_List}
use Rattle.records.specs.Limits.{link_limit}
use Rattle.records.proofs.Chains.{all_of_part}
use Rattle.table.specs.Words.{declared_in}
use Rattle.events.specs.Events.{path_declared_in}
use Rattle.events.proofs.path_declared.Goals as goal

pub returns : goal.returns
unfolding path_declared_in
returns c =
    let a = c.args in
    all_from_yields_List (λ (e : ℕ). ltb e link_limit && declared_in a.t.now e) _ _ c.all.result c.all.ensures.ran (YieldsList-from_slice _ c.iter.ensures.rest)
    (λ x b q k. search rules)
    ∙ all_of_part a.s.now (λ (e : ℕ). ltb e link_limit && declared_in a.t.now e) a.n _ a.at (omega arith) (omega arith)
