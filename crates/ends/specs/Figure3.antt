-- 001, Figure 3: the task of a source. z is what the source keeps of its session. Comments give the figure's lines.
-- The source's own R and F hold at most its session: `free` says that it is in F, and while it is active it is else in R. `updated` is upd_rcv, `bottlenecked` is bneck_rcv, and
-- API.Rate (s, λ) is kept as the rate last told (01).
-- Assumes nothing: definitions.
use Rattle.std.specs.Prelude.{Bool, cond, false, not, true, ◌&&◌, ◌||◌, ℕ, ◌≤◌, None, Option, Some}
use Rattle.fractions.specs.declared.Rate.{Rate}
use Rattle.fractions.specs.Fraction.{Sized, lt_of, max_rate, same_of, whole_of, zero_of}
use Rattle.declarations.specs.Declaring.{own_limit_of}
use Rattle.tasks.specs.declared.Eta.TheVariants as eta
use Rattle.tasks.specs.declared.Kind.{Kind}
use Rattle.tasks.specs.declared.Kind.TheVariants as kind
use Rattle.links.specs.declared.Mu.{Mu}
use Rattle.links.specs.declared.Mu.TheVariants as mu
use Rattle.ends.specs.declared.Source.{Source}
use Rattle.ends.specs.declared.SourceDid.{SourceDid}
use Rattle.tasks.specs.declared.Tau.{Tau}
use Rattle.tasks.specs.declared.Tau.TheVariants as tau
use Rattle.links.specs.Links.{is_idle}

-- lines 4 and 12: D ← min(r, C); by 01 the smaller of access rate and maximum, or the access rate where there is no maximum
abbrev pub D : Source → ℕ
D z = own_limit_of z.access z.maximum

-- what the task keeps: `free`, μ, λ, upd_rcv, bneck_rcv, the rate last told. The rest of the source stays
abbrev pub keeping : Source → Bool → Mu → Rate → Bool → Bool → Option Rate → Source
keeping z f m x u b t = record {
  active = z.active;
  access = z.access;
  maximum = z.maximum;
  free = f;
  mu = m;
  rate = x;
  updated = u;
  bottlenecked = b;
  told = t;
}

-- the source after it, and what it sends
abbrev pub doing : Source → Option Kind → SourceDid
doing z o = record { source = z; on = o }

-- D > λ, and D = λ
abbrev pub below_d : Source → Rate → Bool
below_d z x = lt_of x (whole_of (D z))

abbrev pub at_d : Source → Rate → Bool
at_d z x = same_of (whole_of (D z)) x

-- send downstream Probe (s, D, e): the source's own line is η
abbrev pub probing : Source → Option Kind
probing z = Some (kind.Probe (whole_of (D z)) eta.Own)

-- API.Join, lines 3 to 6. 01: no rate has been told at a join
unfoldable pub joining_of : ℕ → ℕ → SourceDid
joining_of access maximum =
    let z : Source = record {
      active = true;
      access = access;
      maximum = maximum;
      free = false;  -- 4
      mu = mu.WaitingResponse;  -- 4
      rate = zero_of;  -- ours: the figure sets none
      updated = false;  -- 5
      bottlenecked = false;  -- 5
      told = None;
    } in
    doing z (Some (kind.Join (whole_of (D z)) eta.Own))  -- 6

-- API.Leave, lines 8 and 9: the session is in neither R nor F any more
unfoldable pub leaving_of : Source → SourceDid
leaving_of z =
    doing
    (record {
      active = false;
      access = z.access;
      maximum = z.maximum;
      free = false;
      mu = z.mu;
      rate = z.rate;
      updated = z.updated;
      bottlenecked = z.bottlenecked;
      told = z.told;
    })
    (Some kind.Leave)

-- line 12
abbrev pub with_maximum : Source → ℕ → Source
with_maximum z m = record {
  active = z.active;
  access = z.access;
  maximum = m;
  free = z.free;
  mu = z.mu;
  rate = z.rate;
  updated = z.updated;
  bottlenecked = z.bottlenecked;
  told = z.told;
}

-- lines 18 and 25: upd_rcv ← TRUE
abbrev pub noted_of : Source → SourceDid
noted_of z = doing (keeping z z.free z.mu z.rate true z.bottlenecked z.told) None

-- lines 13 to 18, where D is the new one
unfoldable pub request_of : Source → SourceDid
request_of z =
    cond (is_idle z.mu)  -- 13
    (doing (keeping z false mu.WaitingResponse z.rate false false z.told) (probing z))  -- 14 to 17
    (noted_of z)  -- 18

-- API.Change, lines 11 to 18
abbrev pub changing_of : Source → ℕ → SourceDid
changing_of z m = request_of (with_maximum z m)

-- Update (s), lines 20 to 25
unfoldable pub source_update_of : Source → SourceDid
source_update_of z =
    cond (is_idle z.mu)  -- 21
    (doing (keeping z false mu.WaitingResponse z.rate z.updated false z.told) (probing z))  -- 22 to 24
    (noted_of z)  -- 25

-- lines 29 to 31, and lines 39 (its end) to 42, of the rate that the source has
unfoldable pub announced_of : Source → SourceDid
announced_of z =
    let x = z.rate in
    doing (keeping z (below_d z x || z.free) z.mu x z.updated true (Some x))  -- 29, 30; 39 to 41
    (Some (kind.SetBottleneck (at_d z x)))  -- 31; 42

-- Bottleneck (s), lines 27 to 31
unfoldable pub source_bottleneck_of : Source → SourceDid
source_bottleneck_of z =
    cond (is_idle z.mu && not z.bottlenecked)  -- 28
    (announced_of z)  -- 29 to 31
    (doing z None)

-- lines 35 to 37
unfoldable pub again_of : Source → SourceDid
again_of z = doing (keeping z z.free mu.WaitingResponse z.rate false false z.told) (probing z)

-- lines 39 and 44: λ_s ← λ; μ_s ← IDLE
abbrev pub idle_with : Source → Rate → Source
idle_with z x = keeping z z.free mu.Idle x z.updated z.bottlenecked z.told

-- lines 44 to 47
unfoldable pub assigned_of : Source → Rate → SourceDid
assigned_of z x =
    let q = idle_with z x in  -- 44
    cond (at_d q x)  -- 45
    (doing (keeping q q.free q.mu x q.updated true (Some x)) (Some (kind.SetBottleneck true)))  -- 46, 47
    (doing q None)

-- Response (s, τ, λ, η), lines 33 to 47
unfoldable pub source_response_of : Source → Tau → Rate → SourceDid
source_response_of z tau.Update x = again_of z  -- 34 to 37
source_response_of z tau.Bottleneck x = cond z.updated (again_of z) (announced_of (idle_with z x))  -- 34 to 37; 38 to 42
source_response_of z tau.Response x = cond z.updated (again_of z) (assigned_of z x)  -- 34 to 37; 43 to 47

-- what arrives at a source; the other kinds go the other way
unfoldable pub arrived_of : Kind → Source → SourceDid
arrived_of (kind.Response τ x η) z = source_response_of z τ x
arrived_of kind.Update z = source_update_of z
arrived_of kind.Bottleneck z = source_bottleneck_of z
arrived_of (kind.Join x η) z = doing z None
arrived_of (kind.Probe x η) z = doing z None
arrived_of (kind.SetBottleneck β) z = doing z None
arrived_of kind.Leave z = doing z None

-- THE TASK. 01: "any packet that reaches a source which has left, is dropped"
unfoldable pub source_step_of : Kind → Source → SourceDid
source_step_of k z = cond z.active (arrived_of k z) (doing z None)

-- WHAT THE ARITHMETIC NEEDS -------------------------------------------------------------------------------------------

-- the source's rates are within the limits
pub record Ready (z : Source) : Type 0 where
  pub access : z.access ≤ max_rate
  pub rate : Sized max_rate z.rate
