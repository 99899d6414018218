-- `sending::in_turn` meets its contract.
-- Assumes nothing.
use Rattle.std.proofs.Common.{rules, not, ap, ◌∙◌}
use Rattle.records.specs.Format.{all}
use Rattle.records.proofs.Chains.{all_below_n}
use Rattle.table.specs.Words.{packet_of}
use Rattle.tasks.specs.declared.Packet.{Packet}
use Rattle.sending.specs.Sending.{in_turn_of, same_lane}
use Rattle.sending.proofs.in_turn.Goals as goal

pub returns : goal.returns
unfolding in_turn_of
returns c =
    let a = c.args in
    all_below_n a.i (λ j. not (same_lane (packet_of a.t.now j) c.packet_at-p.result)) _ _ c.all.result c.all.ensures.ran (λ x b q k. search rules)
    ∙ ap (λ (p : Packet). all a.i (λ j. not (same_lane (packet_of a.t.now j) p))) c.packet_at-p.ensures
