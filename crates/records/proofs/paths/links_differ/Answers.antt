-- `records::paths::links_differ` meets its contract.
-- Assumes nothing.
use Rattle.std.proofs.Common.{rules, get_or, ◌+◌}
use Rattle.records.specs.Format.{differ, is_new}
use Rattle.records.proofs.Chains.{all_below_n}
use Rattle.records.proofs.paths.links_differ.Goals as goal

pub returns : goal.returns
unfolding differ
returns c =
    let a = c.args in
    all_below_n a.n (λ h. is_new a.s.now a.at h (get_or a.s.now (a.at + h) 0)) _ _ c.all.result c.all.ensures.ran (λ x b q k. search rules)
