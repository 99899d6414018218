-- 001, Figure 4: the task of a destination. Comments give the figure's lines.
-- Assumes nothing: definitions.
use Rattle.std.specs.Prelude.{cond, None, Option, Some}
use Rattle.tasks.specs.declared.Kind.{Kind}
use Rattle.tasks.specs.declared.Kind.TheVariants as kind
use Rattle.tasks.specs.declared.Tau.TheVariants as tau

-- 01: "The destination takes a Leave, or a SetBottleneck with a bottleneck, and sends nothing". The kinds that go upstream never reach it.
abbrev pub destination_step_of : Kind → Option Kind
destination_step_of (kind.Join x η) = Some (kind.Response tau.Response x η)  -- 3, 4
destination_step_of (kind.Probe x η) = Some (kind.Response tau.Response x η)  -- 6, 7
destination_step_of (kind.SetBottleneck β) = cond β None (Some kind.Update)  -- 9, 10
destination_step_of kind.Leave = None
destination_step_of (kind.Response τ x η) = None
destination_step_of kind.Update = None
destination_step_of kind.Bottleneck = None
