-- A session's probe cycle (01, "The tasks"): a Join or a Probe goes down its path, and a Response comes back. At the links that the packet has
-- passed on its way down, and not yet on its way back, the session is in R and waits for a response.
-- Assumes nothing: definitions.
use Rattle.std.specs.Prelude.{Bool, false, true, ◌≡◌, ℕ, None, Option, Some}
use Rattle.links.specs.declared.Place.{Place}
use Rattle.links.specs.Links.{awaits_response, in_r, mu_at}
use Rattle.tasks.specs.declared.Kind.{Kind}
use Rattle.tasks.specs.declared.Kind.TheVariants as kind

-- r is in R and waits for a response
pub record Waiting (p : Place) (r : ℕ) : Type 0 where
  pub restricted : in_r p r ≡ true
  pub awaits : awaits_response (mu_at p r) ≡ true

-- whether a packet is a Response
abbrev pub is_response : Kind → Bool
is_response (kind.Join x η) = false
is_response (kind.Probe x η) = false
is_response (kind.Response τ x η) = true
is_response kind.Update = false
is_response kind.Bottleneck = false
is_response (kind.SetBottleneck β) = false
is_response kind.Leave = false

-- the packets of the cycle
abbrev pub in_cycle : Kind → Bool
in_cycle (kind.Join x η) = true
in_cycle (kind.Probe x η) = true
in_cycle (kind.Response τ x η) = true
in_cycle kind.Update = false
in_cycle kind.Bottleneck = false
in_cycle (kind.SetBottleneck β) = false
in_cycle kind.Leave = false

-- one of them is sent
abbrev pub sends_cycle : Option Kind → Bool
sends_cycle None = false
sends_cycle (Some k) = in_cycle k
