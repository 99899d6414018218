-- Every rule of Figure 2 does what `LinkDid` says, whatever the packet: a sound link stays sound.
-- Assumes nothing.
use Rattle.std.specs.Prelude.{Some}
use mathlib.Core.Bool.{true, ◌&&◌}
use mathlib.Core.Path.{refl}
use Prim.Native.Nat.{ℕ, ◌<◌}
use native.Mathlib.Omega.{arith}
use Rattle.fractions.proofs.Cases.{and_both, cases}
use Rattle.links.specs.declared.Place.{Place}
use Rattle.links.specs.Links.{R, awaits_response, holds, in_r, mu_at}
use Rattle.table.specs.Values.{KindWithin}
use Rattle.tasks.specs.declared.Kind.{Kind}
use Rattle.tasks.specs.declared.Kind.TheVariants as kind
use Rattle.tasks.specs.Figure2.{link_step_of}
use Rattle.soundness.specs.LinkDid.{LinkDid}
use Rattle.soundness.specs.Sound.{Sound}
use Rattle.soundness.proofs.Holding.{holds_held, not_held}
use Rattle.sessions.proofs.Members.{is_in}
use Rattle.soundness.proofs.Leaving.{did_leave, did_set}
use Rattle.soundness.proofs.Restricting.{did_join, did_probe}
use Rattle.soundness.proofs.Rules.{did_bottleneck, did_drop, did_nothing, did_response, did_update}

pub did_link : (e s : ℕ) (k : Kind) (p : Place) → e < 64 → s < 32 → Sound p → KindWithin k → LinkDid s k p (link_step_of e s k p)
unfolding link_step_of
did_link e s (kind.Join x η) p le ls z w =
    cases (LinkDid s (kind.Join x η) p) (holds p s) _ _ (λ h. did_drop s (kind.Join x η) p z refl true) (λ h. did_join e s x η p le ls z w h)
did_link e s (kind.Probe x η) p le ls z w =
    cases (LinkDid s (kind.Probe x η) p) (holds p s) _ _ (λ h. did_probe e s x η p le ls z w) (λ h. did_drop s (kind.Probe x η) p z refl true)
did_link e s (kind.Response τ x η) p le ls z w =
    cases (LinkDid s (kind.Response τ x η) p) (in_r p s && awaits_response (mu_at p s)) _ _
    (λ h. did_response e s τ x η p le ls z w (omega (arith, is_in (R p) s (and_both (in_r p s) (awaits_response (mu_at p s)) h).0, z.apart s)))
    (λ h. did_drop s (kind.Response τ x η) p z refl true)
did_link e s kind.Update p le ls z w =
    cases (LinkDid s kind.Update p) (holds p s) _ _ (λ h. did_update s p z) (λ h. did_drop s kind.Update p z refl true)
did_link e s kind.Bottleneck p le ls z w =
    cases (LinkDid s kind.Bottleneck p) (holds p s) _ _ (λ h. did_bottleneck s p z) (λ h. did_drop s kind.Bottleneck p z refl true)
did_link e s (kind.SetBottleneck β) p le ls z w =
    cases (LinkDid s (kind.SetBottleneck β) p) (holds p s) _ _
    (λ h. did_set s β p ls z (holds_held p s h))
    (λ h. did_drop s (kind.SetBottleneck β) p z refl true)
did_link e s kind.Leave p le ls z w =
    cases (LinkDid s kind.Leave p) (holds p s) _ _
    (λ h. did_leave s p ls z)
    (λ h.
    did_nothing s kind.Leave p (Some kind.Leave) true z (λ t i. omega (arith, (not_held p s h).0, (not_held p s h).1, i.some))
    (record { within = tt; way = refl; leave = refl; join = refl }))
