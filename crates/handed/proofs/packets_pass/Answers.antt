-- `handed::packets_pass` meets its contract.
-- Assumes nothing.
use Rattle.std.proofs.Common.{rules, arith, ◌≤◌, ◌<◌, ap, ◌∙◌, ℕ}
use Rattle.std.proofs.lemmas.Iterator.{serves_from_Range}
use Rattle.records.specs.Format.{all}
use Rattle.records.proofs.Chains.{all_below_n}
use Rattle.table.proofs.InRange.{count_most}
use Rattle.handed.specs.OnceOver.{packet_passes}
use Rattle.handed.proofs.packets_pass.Goals as goal

pub all-requires-clause-callable : goal.all-requires-clause-callable
all-requires-clause-callable c =
    let m : c.count.result ≤ 256 = omega (arith, c.count.ensures, count_most c.args.t.now) in
    serves_from_Range (λ x q e. search rules) (λ x a b. let k : x < 256 = omega arith in search rules)

pub returns : goal.returns
returns c =
    all_below_n c.count.result (packet_passes c.args.t.now) _ _ c.all.result c.all.ensures.ran (λ x b q k. search rules)
    ∙ ap (λ (n : ℕ). all n (packet_passes c.args.t.now)) c.count.ensures
