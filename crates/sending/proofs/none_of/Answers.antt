-- `sending::none_of` meets its contract.
-- Assumes nothing.
use Rattle.std.proofs.Common.{rules, tests, not, eqb}
use Rattle.records.proofs.Chains.{all_below_n}
use Rattle.table.specs.Words.{packet_of}
use Rattle.sending.specs.Sending.{none_of}
use Rattle.sending.proofs.none_of.Goals as goal

pub returns : goal.returns
unfolding none_of
returns c =
    let a = c.args in
    all_below_n a.n (λ i. not (eqb (packet_of a.t.now i).session a.s)) _ _ c.all.result c.all.ensures.ran (λ x b q k. search (rules, tests))
