-- The rules by which a session comes to R: Join and Probe. Both go on with ProcessNewRestricted, and pass the packet on with its rate lowered to B.
-- Assumes nothing.
use Rattle.std.specs.Prelude.{Some}
use mathlib.Core.Bool.{false, true}
use mathlib.Core.Logic.{◌⊎◌, inl, inr}
use mathlib.Core.Path.{◌≡◌, refl, subst, sym, ◌∙◌}
use Prim.Native.Nat.{ℕ, ◌+◌, ◌≤◌, ◌<◌}
use native.Mathlib.Decide.{ℕ_discrete}
use native.Mathlib.Omega.{arith}
use Rattle.fractions.specs.declared.Rate.{Rate}
use Rattle.fractions.specs.Fraction.{Within, lt_of, max_rate, zero_of}
use Rattle.fractions.proofs.Cases.{cases}
use Rattle.links.specs.declared.Bound.{Bound}
use Rattle.links.specs.declared.Bound.TheVariants as bound
use Rattle.links.specs.declared.Entry.{Entry}
use Rattle.links.specs.declared.Mu.TheVariants as mu
use Rattle.links.specs.declared.Place.{Place}
use Rattle.links.specs.FCheck.{check_of, over_b, process_of}
use Rattle.links.specs.Links.{B, F, R, above_b, entry, holds, in_f, is_fine, rate_at, with_entry, with_mu, with_words, idle_above}
use Rattle.sessions.specs.Set.{cut, has, put}
use Rattle.sessions.proofs.Members.{cut_le, has_cut_le, has_put_other, has_put_same, is_in, put_lt}
use Rattle.table.specs.Values.{EtaInRange, KindWithin}
use Rattle.tasks.specs.declared.Burst.TheVariants as burst
use Rattle.tasks.specs.declared.Eta.{Eta}
use Rattle.tasks.specs.declared.Eta.TheVariants as eta
use Rattle.tasks.specs.declared.Kind.{Kind}
use Rattle.tasks.specs.declared.Kind.TheVariants as kind
use Rattle.tasks.specs.Figure2.{did, join_of, lowered_of, named_of, probe_of, restricted_of, staying_of}
use Rattle.tasks.specs.Packets.{is_leave}
use Rattle.soundness.specs.LinkDid.{LinkDid, PassedOn, is_join}
use Rattle.soundness.specs.Sound.{Held, Sound}
use Rattle.soundness.proofs.Changes.{mu_sound, rate_same, sound_entry, sound_words, zero_within}
use Rattle.soundness.proofs.Chosen.{has_those_le, those_lt}
use Rattle.soundness.proofs.Holding.{move_all, not_held}
use Rattle.soundness.proofs.Moves.{check_moved, sound_moved}
use Rattle.soundness.proofs.Rules.{did_mu, did_updating, no_leave}
use Rattle.soundness.proofs.Shares.{b_within}

-- A PACKET'S RATE -----------------------------------------------------------------------------------------------------

-- B, where it is a rate, is one in range
abbrev BoundWithin : Bound → Type 0
BoundWithin b = (c : Rate) → b ≡ bound.At c → Within max_rate c

lowered_within : (b : Bound) (x : Rate) → BoundWithin b → Within max_rate x → Within max_rate (lowered_of b x)
lowered_within (bound.At c) x h w = cases (Within max_rate) (lt_of c x) c x (λ e. h c refl) (λ e. w)
lowered_within bound.Above x h w = w
lowered_within bound.TooFine x h w = w

named_in_range : (b : Bound) (x : Rate) (e : ℕ) (η : Eta) → e < 64 → EtaInRange η → EtaInRange (named_of b x e η)
named_in_range b x e η l h = cases EtaInRange (above_b b x) (eta.Link e) η (λ t. l) (λ t. h)

-- PROCESSNEWRESTRICTED ------------------------------------------------------------------------------------------------

process_within : (p : Place) → Sound p → BoundWithin (process_of p).bound
unfolding process_of
process_within p z c e = b_within (check_of 32 p) c (sound_moved p (check_of 32 p) z (check_moved 32 p z)) e

-- v is the link before it, with the session in R
did_process : (s : ℕ) (k j : Kind) (p v : Place) → Sound v → v.link.capacity ≡ p.link.capacity
    → ((r : ℕ) → Held v r → Held p r ⊎ ((r ≡ s) × (is_join k ≡ true)))
    → is_leave k ≡ false
    → PassedOn k j
    → LinkDid s k p (did (process_of v).place burst.Update (process_of v).to (Some j) (is_fine (process_of v).bound))
unfolding process_of
did_process s k j p v z c h n w =
    let q = check_of 32 v in
    let m = check_moved 32 v z in
    did_updating s k p q (over_b q) (Some j) (is_fine (B q)) (sound_moved v q z m) (m.capacity ∙ c)
    (λ r i. h r (record { some = omega (arith, m.all r, i.some) }))
    (no_leave k n)
    (those_lt (idle_above (B q)) q.entries (R q))
    (λ r i. record { some = omega (arith, i, has_those_le (idle_above (B q)) q.entries (R q) r) })
    w
    (λ t. t)

-- JOIN ----------------------------------------------------------------------------------------------------------------

abbrev joined : Entry
joined = entry mu.WaitingResponse zero_of

module _ (e s : ℕ) (x : Rate) (η : Eta) (p : Place) (le : e < 64) (ls : s < 32) (z : Sound p) (w : KindWithin (kind.Join x η)) (n : holds p s ≡ false) where
  abbrev joining : Place
  joining = with_entry (with_words p (put s (R p)) (F p)) s joined

  joining_sound : Sound joining
  joining_sound =
      let o = sound_entry p s joined z ls (not_held p s n).1 zero_within in
      sound_words (with_entry p s joined) (put s (R p)) (F p) o (put_lt 32 s (R p) ls z.r32) z.f32 (λ r. apart r (ℕ_discrete s r)) (λ r. omega arith)
      (λ r l h. rate r l h (ℕ_discrete s r))
    where
      apart : (r : ℕ) → Dec (s ≡ r) → has r (put s (R p)) + has r (F p) ≤ 1
      apart r (yes q) = rw (sym q) (omega (arith, has_put_same s (R p), (not_held p s n).1))
      apart r (no d) = omega (arith, has_put_other s r (R p) d, z.apart r)

      rate : (r : ℕ) → r < 32 → 0 < has r (put s (R p)) + has r (F p) → Dec (s ≡ r) → Within max_rate (rate_at (with_entry p s joined) r)
      rate r l h (yes q) = rw (sym q) (subst (Within max_rate) (sym (rate_same p s joined z ls)) zero_within)
      rate r l h (no d) =
          (sound_entry p s joined z ls (not_held p s n).1 zero_within).rates r l (record { some = omega (arith, has_put_other s r (R p) d) })

  joining_held : (r : ℕ) → Held joining r → Held p r ⊎ ((r ≡ s) × (is_join (kind.Join x η) ≡ true))
  joining_held r h = go (ℕ_discrete s r)
    where
      go : Dec (s ≡ r) → Held p r ⊎ ((r ≡ s) × (is_join (kind.Join x η) ≡ true))
      go (yes q) = inr (sym q, refl)
      go (no d) = inl (record { some = omega (arith, h.some, has_put_other s r (R p) d) })

  pub did_join : LinkDid s (kind.Join x η) p (join_of e s x η p)
  unfolding join_of
  did_join =
      let b = (process_of joining).bound in
      did_process s (kind.Join x η) (kind.Join (lowered_of b x) (named_of b x e η)) p joining joining_sound refl joining_held refl
      (record {
        within = (lowered_within b x (process_within joining joining_sound) w.0, named_in_range b x e η le w.1);
        way = refl;
        leave = refl;
        join = refl;
      })

-- PROBE ---------------------------------------------------------------------------------------------------------------

module _ (e s : ℕ) (x : Rate) (η : Eta) (p : Place) (le : e < 64) (ls : s < 32) (z : Sound p) (w : KindWithin (kind.Probe x η)) where
  abbrev probing : Place
  probing = with_mu p s mu.WaitingResponse

  passed : (b : Bound) → BoundWithin b → PassedOn (kind.Probe x η) (kind.Probe (lowered_of b x) (named_of b x e η))
  passed b h = record {
    within = (lowered_within b x h w.0, named_in_range b x e η le w.1);
    way = refl;
    leave = refl;
    join = refl;
  }

  -- a session of F goes to R
  did_restricted : has s (F p) ≡ 1 → LinkDid s (kind.Probe x η) p (restricted_of e s x η probing)
  unfolding restricted_of
  did_restricted f =
      let all : (r : ℕ) → has r (cut s (F p)) + has r (put s (R p)) ≡ has r (F p) + has r (R p) =
      λ r. move_all (F p) (R p) s r (omega (arith, z.apart s)) in
      let v = with_words probing (put s (R p)) (cut s (F p)) in
      let o : Sound v =
      sound_words probing (put s (R p)) (cut s (F p)) (mu_sound p s mu.WaitingResponse z) (put_lt 32 s (R p) ls z.r32)
      (omega (arith, cut_le s (F p), z.f32))
      (λ r. omega (arith, all r, z.apart r))
      (λ r. has_cut_le r s (F p))
      (λ r l h. (mu_sound p s mu.WaitingResponse z).rates r l (record { some = omega (arith, all r) })) in
      let b = (process_of v).bound in
      did_process s (kind.Probe x η) (kind.Probe (lowered_of b x) (named_of b x e η)) p v o refl
      (λ r h. inl (record { some = omega (arith, all r, h.some) }))
      refl (passed b (process_within v o))

  -- a session of R stays there
  did_staying : LinkDid s (kind.Probe x η) p (staying_of e x η probing)
  unfolding staying_of
  did_staying =
      let b = B probing in
      did_mu s (kind.Probe x η) p z refl mu.WaitingResponse (Some (kind.Probe (lowered_of b x) (named_of b x e η))) (is_fine b)
      (passed b (λ c q. b_within probing c (mu_sound p s mu.WaitingResponse z) q))

  pub did_probe : LinkDid s (kind.Probe x η) p (probe_of e s x η p)
  unfolding probe_of
  did_probe = cases (LinkDid s (kind.Probe x η) p) (in_f p s) _ _ (λ f. did_restricted (is_in (F p) s f)) (λ f. did_staying)
