-- What every rule of Figures 3 and 4 does: the source stays in range and as active as it was, and sends nothing but packets in range that are
-- neither Join nor Leave.
-- Assumes nothing.
use Rattle.std.specs.Prelude.{None, Option, Some}
use mathlib.Core.Bool.{Bool, false, not, true, ◌&&◌, ◌||◌}
use mathlib.Core.Path.{◌≡◌, refl}
use Prim.Native.Nat.{ℕ, ◌≤◌}
use native.Mathlib.Omega.{arith}
use Rattle.ends.specs.declared.Source.{Source}
use Rattle.ends.specs.declared.SourceDid.{SourceDid}
use Rattle.ends.specs.Figure3.{D, again_of, announced_of, arrived_of, assigned_of, at_d, below_d, changing_of, doing, idle_with, keeping, noted_of, probing, request_of, source_bottleneck_of, source_response_of, source_step_of, source_update_of, with_maximum}
use Rattle.ends.specs.Figure4.{destination_step_of}
use Rattle.fractions.proofs.Cases.{cases}
use Rattle.fractions.proofs.Ranges.{whole_within}
use Rattle.fractions.specs.declared.Rate.{Rate}
use Rattle.fractions.specs.Fraction.{Within, max_rate, whole_of}
use Rattle.links.specs.declared.Mu.{Mu}
use Rattle.links.specs.declared.Mu.TheVariants as mu
use Rattle.links.specs.Links.{is_idle}
use Rattle.declarations.proofs.OwnLimit.{own_limit_le}
use Rattle.soundness.specs.LinkDid.{GoesOn}
use Rattle.table.specs.Values.{KindWithin, SourceWithin, ToldWithin}
use Rattle.tasks.specs.declared.Kind.{Kind}
use Rattle.tasks.specs.declared.Kind.TheVariants as kind
use Rattle.tasks.specs.declared.Tau.{Tau}
use Rattle.tasks.specs.declared.Tau.TheVariants as tau

-- what goes down is neither Join nor Leave, as a SetBottleneck is neither; and what goes up is neither, as an Update is neither
abbrev pub down_kind : Kind
down_kind = kind.SetBottleneck true

abbrev pub up_kind : Kind
up_kind = kind.Update

pub record SourceDone (z : Source) (d : SourceDid) : Type 0 where
  pub active : d.source.active ≡ z.active
  pub within : SourceWithin d.source
  pub on : GoesOn down_kind d.on

-- D is a rate in range
pub limit_within : (z : Source) → z.access ≤ max_rate → Within max_rate (whole_of (D z))
limit_within z h = whole_within (omega (arith, own_limit_le z.access z.maximum))

module _ (z : Source) (o : SourceWithin z) where
  -- another state, rate and rate told
  kept : (f : Bool) (m : Mu) (x : Rate) (u b : Bool) (t : Option Rate) (on : Option Kind) → Within max_rate x → ToldWithin t → GoesOn down_kind on
      → SourceDone z (doing (keeping z f m x u b t) on)
  kept f m x u b t on h k g = record {
    active = refl;
    within = record { joined = o.joined; access = o.access; maximum = o.maximum; line = o.line; rate = h; told = k };
    on = g;
  }

  nothing : SourceDone z (doing z None)
  nothing = record { active = refl; within = o; on = refl }

  probe_on : GoesOn down_kind (probing z)
  probe_on = record { within = (limit_within z o.access, tt); way = refl; leave = refl; join = refl }

  set_on : (β : Bool) → GoesOn down_kind (Some (kind.SetBottleneck β))
  set_on β = record { within = tt; way = refl; leave = refl; join = refl }

  noted : SourceDone z (noted_of z)
  noted = kept z.free z.mu z.rate true z.bottlenecked z.told None o.rate o.told refl

  pub request_done : SourceDone z (request_of z)
  unfolding request_of
  request_done =
      cases (SourceDone z) (is_idle z.mu) _ _
      (λ e. kept false mu.WaitingResponse z.rate false false z.told (probing z) o.rate o.told probe_on)
      (λ e. noted)

  update_done : SourceDone z (source_update_of z)
  unfolding source_update_of
  update_done =
      cases (SourceDone z) (is_idle z.mu) _ _
      (λ e. kept false mu.WaitingResponse z.rate z.updated false z.told (probing z) o.rate o.told probe_on)
      (λ e. noted)

  again_done : SourceDone z (again_of z)
  unfolding again_of
  again_done = kept z.free mu.WaitingResponse z.rate false false z.told (probing z) o.rate o.told probe_on

  announced_done : SourceDone z (announced_of z)
  unfolding announced_of
  announced_done =
      kept (below_d z z.rate || z.free) z.mu z.rate z.updated true (Some z.rate) (Some (kind.SetBottleneck (at_d z z.rate)))
      o.rate o.rate (set_on (at_d z z.rate))

  bottleneck_done : SourceDone z (source_bottleneck_of z)
  unfolding source_bottleneck_of
  bottleneck_done = cases (SourceDone z) (is_idle z.mu && not z.bottlenecked) _ _ (λ e. announced_done) (λ e. nothing)

  assigned_done : (x : Rate) → Within max_rate x → SourceDone z (assigned_of z x)
  unfolding assigned_of
  assigned_done x h =
      cases (SourceDone z) (at_d z x) _ _
      (λ e. kept z.free mu.Idle x z.updated true (Some x) (Some (kind.SetBottleneck true)) h h (set_on true))
      (λ e. kept z.free mu.Idle x z.updated z.bottlenecked z.told None h o.told refl)

-- a rate that is taken is announced as the one that the source has
idle_announced : (z : Source) (x : Rate) → SourceWithin z → Within max_rate x → SourceDone z (announced_of (idle_with z x))
idle_announced z x o h =
    let y = idle_with z x in
    let d = announced_done y (record { joined = o.joined; access = o.access; maximum = o.maximum; line = o.line; rate = h; told = o.told }) in
    record { active = d.active; within = d.within; on = d.on }

response_done : (z : Source) (τ : Tau) (x : Rate) → SourceWithin z → Within max_rate x → SourceDone z (source_response_of z τ x)
unfolding source_response_of
response_done z tau.Update x o h = again_done z o
response_done z tau.Bottleneck x o h = cases (SourceDone z) z.updated _ _ (λ e. again_done z o) (λ e. idle_announced z x o h)
response_done z tau.Response x o h = cases (SourceDone z) z.updated _ _ (λ e. again_done z o) (λ e. assigned_done z o x h)

arrived_done : (k : Kind) (z : Source) → KindWithin k → SourceWithin z → SourceDone z (arrived_of k z)
unfolding arrived_of
arrived_done (kind.Response τ x η) z h o = response_done z τ x o h.0
arrived_done kind.Update z h o = update_done z o
arrived_done kind.Bottleneck z h o = bottleneck_done z o
arrived_done (kind.Join x η) z h o = nothing z o
arrived_done (kind.Probe x η) z h o = nothing z o
arrived_done (kind.SetBottleneck β) z h o = nothing z o
arrived_done kind.Leave z h o = nothing z o

pub source_done : (k : Kind) (z : Source) → KindWithin k → SourceWithin z → SourceDone z (source_step_of k z)
unfolding source_step_of
source_done k z h o = cases (SourceDone z) z.active _ _ (λ e. arrived_done k z h o) (λ e. nothing z o)

pub changing_done : (z : Source) (m : ℕ) → m ≤ max_rate → m ≤ z.access → SourceWithin z → SourceDone z (changing_of z m)
changing_done z m l a o =
    let d = request_done (with_maximum z m) (record { joined = o.joined; access = o.access; maximum = l; line = a; rate = o.rate; told = o.told }) in
    record { active = d.active; within = d.within; on = d.on }

-- Figure 4
pub destination_done : (k : Kind) → KindWithin k → GoesOn up_kind (destination_step_of k)
destination_done (kind.Join x η) h = record { within = h; way = refl; leave = refl; join = refl }
destination_done (kind.Probe x η) h = record { within = h; way = refl; leave = refl; join = refl }
destination_done (kind.SetBottleneck true) h = refl
destination_done (kind.SetBottleneck false) h = record { within = tt; way = refl; leave = refl; join = refl }
destination_done kind.Leave h = refl
destination_done (kind.Response τ x η) h = refl
destination_done kind.Update h = refl
destination_done kind.Bottleneck h = refl
