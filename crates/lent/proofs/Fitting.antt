-- What passes the test of 14 is within the limits that the arithmetic needs.
-- Assumes nothing.
use mathlib.Core.Bool.{true}
use mathlib.Core.Path.{◌≡◌}
use Prim.Native.Nat.{ℕ, ◌<◌}
use lib.Dec.{lit≤}
use lib.ListN.{length}
use borrow.Author.Tests.{leb-true, ltb-true}
use Rattle.fractions.proofs.Cases.{and_both}
use Rattle.fractions.proofs.Ranges.{is_rate_within, within_sized}
use Rattle.links.specs.declared.Place.{Place}
use Rattle.links.specs.Links.{Workable}
use Rattle.records.proofs.Alls.{all_at}
use Rattle.tasks.specs.declared.Kind.{Kind}
use Rattle.tasks.specs.declared.Kind.TheVariants as kind
use Rattle.tasks.specs.Figure2.{KindSized}
use Rattle.lent.specs.Lent.{fits, in_range, kind_fits, rates_fit, step_fits}

pub range_workable : (p : Place) → length p.entries ≡ 32 → in_range p ≡ true → Workable p
unfolding in_range rates_fit
range_workable p n h =
    let b = and_both _ _ h in
    record {
      capacity = leb-true _ _ b.0;
      rates = record { many = n; sized = λ s k. within_sized (is_rate_within (all_at 32 _ s b.1 k)) };
    }

pub fits_workable : (p : Place) → length p.entries ≡ 32 → fits p ≡ true → Workable p
unfolding fits
fits_workable p n h = range_workable p n (and_both _ _ h).0

kind_sized : (k : Kind) → kind_fits k ≡ true → KindSized k
kind_sized (kind.Join x η) h = within_sized (is_rate_within h)
kind_sized (kind.Probe x η) h = within_sized (is_rate_within h)
kind_sized (kind.Response τ x η) h = within_sized (is_rate_within h)
kind_sized kind.Update h = lit≤ tt
kind_sized kind.Bottleneck h = lit≤ tt
kind_sized (kind.SetBottleneck β) h = lit≤ tt
kind_sized kind.Leave h = lit≤ tt

-- the same of a step: its session, its packet, the link and the entries
pub step_fits_all : (s : ℕ) (k : Kind) (p : Place) → length p.entries ≡ 32 → step_fits s k p ≡ true → (s < 32) × KindSized k × Workable p
unfolding step_fits
step_fits_all s k p n h =
    let b = and_both _ _ h in
    let r = and_both _ _ b.1 in
    (ltb-true _ _ b.0, kind_sized k r.0, fits_workable p n (and_both _ _ r.1).0)
