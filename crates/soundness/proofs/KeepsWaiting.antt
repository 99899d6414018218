-- A session that is in R and waits for a response goes on waiting, until its own Response reaches the link or the link no longer holds it.
-- Assumes nothing.
use Rattle.std.specs.Prelude.{Some}
use mathlib.Core.Bool.{Bool, cond, false, true, ◌&&◌}
use mathlib.Core.Logic.{◌⊎◌, inl, inr}
use mathlib.Core.Path.{◌≡◌, refl, subst, sym}
use Prim.Native.Nat.{ℕ, ◌<◌}
use native.Mathlib.Decide.{ℕ_discrete}
use native.Mathlib.Omega.{arith}
use Rattle.fractions.specs.declared.Rate.{Rate}
use Rattle.fractions.specs.Fraction.{zero_of}
use Rattle.fractions.proofs.Cases.{and_both, cases}
use Rattle.links.specs.declared.Bound.{Bound}
use Rattle.links.specs.declared.Entry.{Entry}
use Rattle.links.specs.declared.Mu.TheVariants as mu
use Rattle.links.specs.declared.Place.{Place}
use Rattle.links.specs.Links.{B, F, R, all_at_b, awaits_response, below_b, entry, equals_b, holds, in_f, in_r, is_idle, mu_at, rate_at, with_entry, with_mu, with_words}
use Rattle.sessions.specs.Set.{cut, has, put}
use Rattle.sessions.proofs.Members.{has_cut_other, has_put_other, is_in}
use Rattle.tasks.specs.declared.Did.{Did}
use Rattle.tasks.specs.declared.Eta.{Eta}
use Rattle.tasks.specs.declared.Kind.{Kind}
use Rattle.tasks.specs.declared.Kind.TheVariants as kind
use Rattle.tasks.specs.declared.Tau.{Tau}
use Rattle.tasks.specs.declared.Tau.TheVariants as tau
use Rattle.tasks.specs.Figure2.{accepted_of, agreed_of, answered_of, bottleneck_of, freed_of, idle_at_b, join_of, leave_of, link_step_of, probe_of, quiet, response_of, restricted_of, set_bottleneck_of, staying_of, update_of, without_of}
use Rattle.soundness.specs.ProbeCycle.{Waiting, is_response}
use Rattle.soundness.specs.Sound.{Held, Sound}
use Rattle.soundness.proofs.Holding.{not_held}
use Rattle.soundness.proofs.Leaving.{did_leave}
use Rattle.soundness.proofs.Waits.{entry_still, not_at, not_idle, probe_waits, process_still, still, waiting_still}

abbrev WaitingAfter : ℕ → Did → Type 0
WaitingAfter r d = Waiting d.place r

-- the packet is of session s
module _ (e s r : ℕ) (p : Place) (l : s < 32) (z : Sound p) (w : Waiting p r) where
  -- the rules that move or update s only where it is idle
  other : is_idle (mu_at p s) ≡ true → s ≡ r → ⊥
  other i q = not_idle (mu_at p r) w.awaits (subst (λ (t : ℕ). is_idle (mu_at p t) ≡ true) q i)

  update_keeps : Waiting (update_of s p).place r
  unfolding update_of
  update_keeps =
      cases (WaitingAfter r) (is_idle (mu_at p s)) _ _ (λ i. entry_still p s r (entry mu.WaitingProbe (rate_at p s)) (other i) w) (λ i. w)

  bottleneck_keeps : Waiting (bottleneck_of s p).place r
  unfolding bottleneck_of
  bottleneck_keeps = cases (WaitingAfter r) (is_idle (mu_at p s) && in_r p s) _ _ (λ i. w) (λ i. w)

  freed_keeps : (b : Bound) (β : Bool) → is_idle (mu_at p s) ≡ true → Waiting (freed_of b s β p).place r
  unfolding freed_of
  freed_keeps b β i =
      let q = with_words p (cut s (R p)) (put s (F p)) in
      waiting_still q (idle_at_b b p (R p)) r (not_at p r (R p) w b)
      (still p q r (omega (arith, has_cut_other s r (R p) (other i))) refl w)

  set_keeps : (β : Bool) → Waiting (set_bottleneck_of s β p).place r
  unfolding set_bottleneck_of
  set_keeps β =
      cases (WaitingAfter r) (all_at_b (B p) p) _ _ (λ t. w)
      (λ t.
      cases (WaitingAfter r) (below_b (B p) (rate_at p s) && is_idle (mu_at p s)) _ _
      (λ f. freed_keeps (B p) β (and_both (below_b (B p) (rate_at p s)) (is_idle (mu_at p s)) f).1)
      (λ f. cases (WaitingAfter r) (is_idle (mu_at p s) && equals_b (B p) (rate_at p s)) _ _ (λ g. w) (λ g. w)))

  -- the rules that change the entry of s whatever its state: r is another
  module _ (n : s ≡ r → ⊥) where
    answered_keeps : (b : Bound) (τ : Tau) (x : Rate) (η : Eta) (y : Entry) → Waiting (answered_of b e s τ x η (with_entry p s y)).place r
    unfolding answered_of
    answered_keeps b τ x η y =
        let v = entry_still p s r y n w in
        cases (WaitingAfter r) (all_at_b b (with_entry p s y)) _ _ (λ t. v) (λ t. v)

    agreed_keeps : (τ : Tau) (x : Rate) (η : Eta) → Waiting (agreed_of e s τ x η p).place r
    unfolding agreed_of
    agreed_keeps τ x η =
        cases (WaitingAfter r) (accepted_of (B p) e x η) _ _
        (λ t. answered_keeps (B p) τ x η (entry mu.Idle x))
        (λ t. answered_keeps (B p) tau.Update x η (entry mu.WaitingProbe (rate_at p s)))

    response_keeps : (τ : Tau) (x : Rate) (η : Eta) → Waiting (response_of e s τ x η p).place r
    unfolding response_of
    response_keeps tau.Update x η = entry_still p s r (entry mu.WaitingProbe (rate_at p s)) n w
    response_keeps tau.Response x η = agreed_keeps tau.Response x η
    response_keeps tau.Bottleneck x η = agreed_keeps tau.Bottleneck x η

    join_keeps : (x : Rate) (η : Eta) → Waiting (join_of e s x η p).place r
    unfolding join_of
    join_keeps x η =
        let q = with_words p (put s (R p)) (F p) in
        let y = entry mu.WaitingResponse zero_of in
        process_still (with_entry q s y) r
        (entry_still q s r y n (still p q r (omega (arith, has_put_other s r (R p) n)) refl w))

    probe_keeps : (x : Rate) (η : Eta) → Waiting (probe_of e s x η p).place r
    unfolding probe_of restricted_of staying_of
    probe_keeps x η =
        let v = with_mu p s mu.WaitingResponse in
        let h = entry_still p s r (entry mu.WaitingResponse (rate_at p s)) n w in
        let q = with_words v (put s (R p)) (cut s (F p)) in
        cases (WaitingAfter r) (in_f p s) (restricted_of e s x η v) (staying_of e x η v)
        (λ f. process_still q r (still v q r (omega (arith, has_put_other s r (R p) n)) refl h))
        (λ f. h)

    leave_keeps : Waiting (leave_of s p).place r
    unfolding leave_of without_of
    leave_keeps =
        waiting_still (without_of s p) (idle_at_b (B p) p (cut s (R p))) r (not_at p r (cut s (R p)) w (B p))
        (cases (λ (v : Place). Waiting (with_entry v s (entry mu.Idle zero_of)) r) (in_f p s) (with_words p (R p) (cut s (F p))) (with_words p (cut s (R p)) (F p))
        (λ f.
        let q = with_words p (R p) (cut s (F p)) in
        entry_still q s r (entry mu.Idle zero_of) n (still p q r (omega arith) refl w))
        (λ f.
        let q = with_words p (cut s (R p)) (F p) in
        entry_still q s r (entry mu.Idle zero_of) n (still p q r (omega (arith, has_cut_other s r (R p) n)) refl w)))

-- a session that waits goes on waiting, but for its own Response
pub keeps_waiting : (e s r : ℕ) (k : Kind) (p : Place) → s < 32 → Sound p → Waiting p r → Held (link_step_of e s k p).place r
    → Waiting (link_step_of e s k p).place r ⊎ ((r ≡ s) × (is_response k ≡ true))
unfolding link_step_of
keeps_waiting e s r (kind.Join x η) p l z w h = inl (cases (WaitingAfter r) (holds p s) _ _ (λ t. w) (λ t. join_keeps e s r p l z w (apart t) x η))
  where
    apart : holds p s ≡ false → s ≡ r → ⊥
    apart t q = omega (arith, (not_held p s t).0, subst (λ (i : ℕ). has i (R p) ≡ 1) (sym q) (is_in (R p) r w.restricted))
keeps_waiting e s r (kind.Probe x η) p l z w h =
    inl (cases (WaitingAfter r) (holds p s) _ _ (λ t. go t (ℕ_discrete s r)) (λ t. w))
  where
    go : holds p s ≡ true → Dec (s ≡ r) → Waiting (probe_of e s x η p).place r
    go t (yes q) = subst (Waiting (probe_of e s x η p).place) q (probe_waits e s x η p l z t)
    go t (no n) = probe_keeps e s r p l z w n x η
keeps_waiting e s r (kind.Response τ x η) p l z w h = go (ℕ_discrete s r)
  where
    go : Dec (s ≡ r) → Waiting (link_step_of e s (kind.Response τ x η) p).place r ⊎ ((r ≡ s) × (is_response (kind.Response τ x η) ≡ true))
    go (yes q) = inr (sym q, refl)
    go (no n) =
        inl (cases (WaitingAfter r) (in_r p s && awaits_response (mu_at p s)) _ _ (λ t. response_keeps e s r p l z w n τ x η) (λ t. w))
keeps_waiting e s r kind.Update p l z w h = inl (cases (WaitingAfter r) (holds p s) _ _ (λ t. update_keeps e s r p l z w) (λ t. w))
keeps_waiting e s r kind.Bottleneck p l z w h = inl (cases (WaitingAfter r) (holds p s) _ _ (λ t. bottleneck_keeps e s r p l z w) (λ t. w))
keeps_waiting e s r (kind.SetBottleneck β) p l z w h = inl (cases (WaitingAfter r) (holds p s) _ _ (λ t. set_keeps e s r p l z w β) (λ t. w))
keeps_waiting e s r kind.Leave p l z w h = inl (go (holds p s) refl h)
  where
    go : (t : Bool) → holds p s ≡ t → Held (cond t (leave_of s p) (quiet p (Some kind.Leave) true)).place r
        → Waiting (cond t (leave_of s p) (quiet p (Some kind.Leave) true)).place r
    go false t h = w
    go true t h = at (ℕ_discrete s r)
      where
        at : Dec (s ≡ r) → Waiting (leave_of s p).place r
        at (yes q) = absurd ((did_leave s p l z).gone refl (subst (Held (leave_of s p).place) (sym q) h))
        at (no n) = leave_keeps e s r p l z w n
