-- Figures 3 and 4 and the packets of a session's probe cycle: a source sends one only where it was idle or a Response came, and then it waits; a
-- destination sends one only in place of one.
-- Assumes nothing.
use Rattle.std.specs.Prelude.{None, Option, Some}
use mathlib.Core.Bool.{Bool, false, not, true, ◌&&◌}
use mathlib.Core.Logic.{◌⊎◌, inl, inr}
use mathlib.Core.Path.{◌≡◌, refl}
use Prim.Native.Nat.{ℕ}
use Rattle.ends.specs.declared.Source.{Source}
use Rattle.ends.specs.declared.SourceDid.{SourceDid}
use Rattle.ends.specs.Figure3.{again_of, announced_of, arrived_of, assigned_of, at_d, changing_of, leaving_of, request_of, source_bottleneck_of, source_response_of, source_step_of, source_update_of, with_maximum}
use Rattle.ends.specs.Figure4.{destination_step_of}
use Rattle.fractions.proofs.Cases.{cases}
use Rattle.fractions.specs.declared.Rate.{Rate}
use Rattle.links.specs.Links.{is_idle}
use Rattle.soundness.specs.LinkDid.{is_join}
use Rattle.soundness.specs.ProbeCycle.{in_cycle, is_response, sends_cycle}
use Rattle.tasks.specs.declared.Eta.{Eta}
use Rattle.tasks.specs.declared.Kind.{Kind}
use Rattle.tasks.specs.declared.Kind.TheVariants as kind
use Rattle.tasks.specs.declared.Tau.{Tau}
use Rattle.tasks.specs.declared.Tau.TheVariants as tau

abbrev pub sends_join : Option Kind → Bool
sends_join None = false
sends_join (Some k) = is_join k

-- a source z did d with a packet of kind k: it stays as idle as it was and sends none; it asks and waits, with no Join, and it was idle or a
-- Response came; or a Response came and it sends none
pub data SourceCycle (k : Kind) (z : Source) (d : SourceDid) : Type 0 where
  stays : d.source.mu ≡ z.mu → sends_cycle d.on ≡ false → SourceCycle k z d
  asks : is_idle d.source.mu ≡ false → sends_join d.on ≡ false → (is_idle z.mu ≡ true) ⊎ (is_response k ≡ true) → SourceCycle k z d
  answered : is_response k ≡ true → sends_cycle d.on ≡ false → SourceCycle k z d

-- whatever the packet
module _ (k : Kind) (z : Source) where
  request_cycle : SourceCycle k z (request_of z)
  unfolding request_of
  request_cycle = cases (SourceCycle k z) (is_idle z.mu) _ _ (λ e. asks refl refl (inl e)) (λ e. stays refl refl)

  update_cycle : SourceCycle k z (source_update_of z)
  unfolding source_update_of
  update_cycle = cases (SourceCycle k z) (is_idle z.mu) _ _ (λ e. asks refl refl (inl e)) (λ e. stays refl refl)

  bottleneck_cycle : SourceCycle k z (source_bottleneck_of z)
  unfolding source_bottleneck_of announced_of
  bottleneck_cycle = cases (SourceCycle k z) (is_idle z.mu && not z.bottlenecked) _ _ (λ e. stays refl refl) (λ e. stays refl refl)

  pub leaving_cycle : SourceCycle k z (leaving_of z)
  unfolding leaving_of
  leaving_cycle = stays refl refl

-- a Response
module _ (x : Rate) (η : Eta) (z : Source) where
  again_cycle : (τ : Tau) → SourceCycle (kind.Response τ x η) z (again_of z)
  unfolding again_of
  again_cycle τ = asks refl refl (inr refl)

  response_cycle : (τ : Tau) → SourceCycle (kind.Response τ x η) z (source_response_of z τ x)
  unfolding source_response_of announced_of assigned_of
  response_cycle tau.Update = again_cycle tau.Update
  response_cycle tau.Bottleneck =
      cases (SourceCycle (kind.Response tau.Bottleneck x η) z) z.updated _ _ (λ e. again_cycle tau.Bottleneck) (λ e. answered refl refl)
  response_cycle tau.Response =
      cases (SourceCycle (kind.Response tau.Response x η) z) z.updated _ _ (λ e. again_cycle tau.Response)
      (λ e. cases (SourceCycle (kind.Response tau.Response x η) z) (at_d z x) _ _ (λ f. answered refl refl) (λ f. answered refl refl))

arrived_cycle : (k : Kind) (z : Source) → SourceCycle k z (arrived_of k z)
unfolding arrived_of
arrived_cycle (kind.Response τ x η) z = response_cycle x η z τ
arrived_cycle kind.Update z = update_cycle kind.Update z
arrived_cycle kind.Bottleneck z = bottleneck_cycle kind.Bottleneck z
arrived_cycle (kind.Join x η) z = stays refl refl
arrived_cycle (kind.Probe x η) z = stays refl refl
arrived_cycle (kind.SetBottleneck β) z = stays refl refl
arrived_cycle kind.Leave z = stays refl refl

pub source_cycle : (k : Kind) (z : Source) → SourceCycle k z (source_step_of k z)
unfolding source_step_of
source_cycle k z = cases (SourceCycle k z) z.active _ _ (λ e. arrived_cycle k z) (λ e. stays refl refl)

pub changing_cycle : (k : Kind) (z : Source) (m : ℕ) → SourceCycle k z (changing_of z m)
changing_cycle k z m = go (request_cycle k (with_maximum z m))
  where
    go : SourceCycle k (with_maximum z m) (changing_of z m) → SourceCycle k z (changing_of z m)
    go (stays a b) = stays a b
    go (asks a b c) = asks a b c
    go (answered a b) = answered a b

-- Figure 4
pub destination_for_cycle : (k : Kind) → sends_cycle (destination_step_of k) ≡ true → in_cycle k ≡ true
destination_for_cycle (kind.Join x η) t = refl
destination_for_cycle (kind.Probe x η) t = refl
destination_for_cycle (kind.SetBottleneck true) t = t
destination_for_cycle (kind.SetBottleneck false) t = t
destination_for_cycle kind.Leave t = t
destination_for_cycle (kind.Response τ x η) t = refl
destination_for_cycle kind.Update t = t
destination_for_cycle kind.Bottleneck t = t
