-- The packets of a session's probe cycle at a link: the link sends one on only in place of one, and a session whose Join or Probe goes on waits at
-- the link for the response.
-- Assumes nothing.
use Rattle.std.specs.Prelude.{None}
use mathlib.Core.Bool.{Bool, cond, false, true, ◌&&◌}
use mathlib.Core.Path.{◌≡◌, refl}
use Prim.Native.Nat.{ℕ, ◌<◌}
use Rattle.fractions.proofs.Cases.{cases}
use Rattle.links.specs.declared.Place.{Place}
use Rattle.links.specs.Links.{B, all_at_b, below_b, equals_b, holds, in_r, is_idle, mu_at, rate_at}
use Rattle.records.proofs.Somes.{clash}
use Rattle.tasks.specs.declared.Did.{Did}
use Rattle.tasks.specs.declared.Kind.{Kind}
use Rattle.tasks.specs.declared.Kind.TheVariants as kind
use Rattle.tasks.specs.Figure2.{bottleneck_of, freed_of, join_of, leave_of, link_step_of, probe_of, quiet, set_bottleneck_of, update_of}
use Rattle.tasks.specs.Packets.{goes_down}
use Rattle.soundness.specs.ProbeCycle.{Waiting, in_cycle, sends_cycle}
use Rattle.soundness.specs.Sound.{Sound}
use Rattle.soundness.proofs.Waits.{starts_waiting, starts_to_wait}

abbrev NoneSent : Did → Type 0
NoneSent d = sends_cycle d.on ≡ false

-- the rules for the other kinds
module _ (s : ℕ) (p : Place) where
  update_sends : NoneSent (update_of s p)
  unfolding update_of
  update_sends = cases NoneSent (is_idle (mu_at p s)) _ _ (λ t. refl) (λ t. refl)

  bottleneck_sends : NoneSent (bottleneck_of s p)
  unfolding bottleneck_of
  bottleneck_sends = cases NoneSent (is_idle (mu_at p s) && in_r p s) _ _ (λ t. refl) (λ t. refl)

  set_sends : (β : Bool) → NoneSent (set_bottleneck_of s β p)
  unfolding set_bottleneck_of freed_of
  set_sends β =
      cases NoneSent (all_at_b (B p) p) _ _ (λ t. refl)
      (λ t.
      cases NoneSent (below_b (B p) (rate_at p s) && is_idle (mu_at p s)) _ _ (λ f. refl)
      (λ f. cases NoneSent (is_idle (mu_at p s) && equals_b (B p) (rate_at p s)) _ _ (λ g. refl) (λ g. refl)))

  leave_sends : NoneSent (leave_of s p)
  unfolding leave_of
  leave_sends = refl

pub sends_for_cycle : (e s : ℕ) (k : Kind) (p : Place) → sends_cycle (link_step_of e s k p).on ≡ true → in_cycle k ≡ true
unfolding link_step_of
sends_for_cycle e s (kind.Join x η) p t = refl
sends_for_cycle e s (kind.Probe x η) p t = refl
sends_for_cycle e s (kind.Response τ x η) p t = refl
sends_for_cycle e s kind.Update p t = absurd (clash _ t (cases NoneSent (holds p s) _ _ (λ h. update_sends s p) (λ h. refl)))
sends_for_cycle e s kind.Bottleneck p t = absurd (clash _ t (cases NoneSent (holds p s) _ _ (λ h. bottleneck_sends s p) (λ h. refl)))
sends_for_cycle e s (kind.SetBottleneck β) p t = absurd (clash _ t (cases NoneSent (holds p s) _ _ (λ h. set_sends s p β) (λ h. refl)))
sends_for_cycle e s kind.Leave p t = absurd (clash _ t (cases NoneSent (holds p s) _ _ (λ h. leave_sends s p) (λ h. refl)))

-- a Join that the link holds already, and a Probe that it does not hold, do not go on
starts_where_sent : (e s : ℕ) (k : Kind) (p : Place) → sends_cycle (link_step_of e s k p).on ≡ true → in_cycle k ≡ true → goes_down k ≡ true
    → starts_to_wait k (holds p s) ≡ true
unfolding link_step_of
starts_where_sent e s (kind.Join x η) p t c d = go (holds p s) t
  where
    go : (h : Bool) → sends_cycle (cond h (quiet p None true) (join_of e s x η p)).on ≡ true → starts_to_wait (kind.Join x η) h ≡ true
    go true u = u
    go false u = refl
starts_where_sent e s (kind.Probe x η) p t c d = go (holds p s) t
  where
    go : (h : Bool) → sends_cycle (cond h (probe_of e s x η p) (quiet p None true)).on ≡ true → starts_to_wait (kind.Probe x η) h ≡ true
    go true u = refl
    go false u = u
starts_where_sent e s (kind.Response τ x η) p t c d = d
starts_where_sent e s kind.Update p t c d = d
starts_where_sent e s kind.Bottleneck p t c d = d
starts_where_sent e s (kind.SetBottleneck β) p t c d = c
starts_where_sent e s kind.Leave p t c d = c

pub waits_where_sent : (e s : ℕ) (k : Kind) (p : Place) → s < 32 → Sound p → sends_cycle (link_step_of e s k p).on ≡ true → goes_down k ≡ true
    → Waiting (link_step_of e s k p).place s
waits_where_sent e s k p l z t d = starts_waiting e s k p l z (starts_where_sent e s k p t (sends_for_cycle e s k p t) d)
