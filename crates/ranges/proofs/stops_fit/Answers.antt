-- `ranges::stops_fit` meets its contract.
-- Assumes nothing.
use Rattle.std.proofs.Common.{rules, tests, arith, ◌∙◌, ℕ}
use lib.Dec.{leb}
use Rattle.std.proofs.lemmas.Iterator.{YieldsList-from_slice}
use Rattle.std.proofs.lemmas.Iterator.Search.{all_from_yields_List}
use Rattle.ranges.proofs.Stops.{path_tested}
use Rattle.ranges.proofs.stops_fit.Goals as goal

pub returns : goal.returns
returns c =
    let a = c.args in
    all_from_yields_List (λ (e : ℕ). leb e 63) _ _ c.all.result c.all.ensures.ran (YieldsList-from_slice _ c.iter.ensures.rest)
    (λ x b q h. search (rules, tests))
    ∙ path_tested a.n _ a.t.now a.s (omega arith) (omega arith)
