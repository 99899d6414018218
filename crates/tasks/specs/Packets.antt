-- The way that packets go (001, III.B): Join, Probe, SetBottleneck and Leave downstream, Response, Update and Bottleneck upstream.
-- Assumes nothing: definitions.
use Rattle.std.specs.Prelude.{Bool, cond, false, not, true}
use Rattle.tasks.specs.declared.Kind.{Kind}
use Rattle.tasks.specs.declared.Kind.TheVariants as kind

abbrev pub goes_down : Kind → Bool
goes_down (kind.Join x η) = true
goes_down (kind.Probe x η) = true
goes_down (kind.Response τ x η) = false
goes_down kind.Update = false
goes_down kind.Bottleneck = false
goes_down (kind.SetBottleneck β) = true
goes_down kind.Leave = true

-- both downstream, or both upstream
abbrev pub same_way : Bool → Bool → Bool
same_way a b = cond a b (not b)

abbrev pub is_leave : Kind → Bool
is_leave (kind.Join x η) = false
is_leave (kind.Probe x η) = false
is_leave (kind.Response τ x η) = false
is_leave kind.Update = false
is_leave kind.Bottleneck = false
is_leave (kind.SetBottleneck β) = false
is_leave kind.Leave = true
