-- `events::at_source` meets its contract: refused where there are too many packets, else written.
-- Assumes nothing.
use mathlib.Core.Path.{ap, subst, sym, ◌∙◌}
use Rattle.ends.specs.Figure3.{Ready, source_step_of}
use Rattle.events.proofs.Needs.{kind_sized, ready}
use Rattle.events.proofs.Steps.{source_done, source_many}
use Rattle.events.proofs.at_source.Goals as goal

pub source_step-d-requires : goal.source_step-d-requires
source_step-d-requires c = (kind_sized c.args.p.kind c.requires.1.kind, subst Ready (sym c.source_at-z.ensures) (ready _ _))

pub returns-then-after-gt-PACKETS : goal.returns-then-after-gt-PACKETS
returns-then-after-gt-PACKETS c = sym (source_many _ _ _ c.source_step-d.result c.count-n.result c.one_if.result (c.source_step-d.ensures ∙ ap (source_step_of c.args.p.kind) c.source_at-z.ensures) c.count-n.ensures c.one_if.ensures.0 c.if-after-gt-PACKETS.true)

pub returns : goal.returns
returns c = sym (source_done _ _ _ c.source_step-d.result c.count-n.result c.one_if.result (c.source_step-d.ensures ∙ ap (source_step_of c.args.p.kind) c.source_at-z.ensures) c.count-n.ensures c.one_if.ensures.0 c.if-after-gt-PACKETS.false _ c.write_source.ensures)
