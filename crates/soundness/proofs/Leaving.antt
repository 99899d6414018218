-- The rules by which a session goes out of R or out of the link: SetBottleneck and Leave.
-- Assumes nothing.
use Rattle.std.specs.Prelude.{Some}
use mathlib.Core.Bool.{Bool, true, ◌&&◌}
use mathlib.Core.Logic.{◌⊎◌, inl, inr}
use mathlib.Core.Path.{◌≡◌, refl}
use Prim.Native.Nat.{ℕ, ◌+◌, ◌≤◌, ◌<◌}
use native.Mathlib.Omega.{arith}
use Rattle.fractions.specs.Fraction.{zero_of}
use Rattle.fractions.proofs.Cases.{and_both, cases}
use Rattle.links.specs.declared.Entry.{Entry}
use Rattle.links.specs.declared.Mu.TheVariants as mu
use Rattle.links.specs.declared.Place.{Place}
use Rattle.links.specs.Links.{B, F, R, all_at_b, below_b, entry, equals_b, in_f, is_fine, is_idle, mu_at, rate_at, with_entry, with_words, idle_at}
use Rattle.sessions.specs.Set.{cut, has, put}
use Rattle.sessions.proofs.Members.{cut_le, has_cut_le, has_cut_same, has_lt, has_or_not, is_in, is_out}
use Rattle.tasks.specs.declared.Kind.{Kind}
use Rattle.tasks.specs.declared.Kind.TheVariants as kind
use Rattle.tasks.specs.Figure2.{freed_of, idle_at_b, leave_of, quiet, set_bottleneck_of, without_of}
use Rattle.soundness.specs.LinkDid.{LinkDid, PassedOn}
use Rattle.soundness.specs.Sound.{Held, Sound}
use Rattle.soundness.proofs.Changes.{sound_entry, sound_words, zero_within}
use Rattle.soundness.proofs.Chosen.{has_those_le, those_lt}
use Rattle.soundness.proofs.Holding.{cut_again, move_all, put_again}
use Rattle.soundness.proofs.Rules.{did_drop, did_nothing, did_updating, no_leave}
use Rattle.soundness.proofs.Shares.{sound_free}

-- SETBOTTLENECK -------------------------------------------------------------------------------------------------------

-- a session below B goes to F, or is there already
free_sound : (p : Place) (s : ℕ) → s < 32 → Sound p → Held p s → below_b (B p) (rate_at p s) ≡ true → Sound (with_words p (cut s (R p)) (put s (F p)))
free_sound p s l z h e = go (has_or_not s (F p))
  where
    go : (has s (F p) ≡ 0) ⊎ (has s (F p) ≡ 1) → Sound (with_words p (cut s (R p)) (put s (F p)))
    go (inl q) = sound_free p s z l (omega (arith, z.apart s, h.some)) e
    go (inr q) =
        let a : cut s (R p) ≡ R p = cut_again s (R p) z.r32 (omega (arith, z.apart s)) in
        let b : put s (F p) ≡ F p = put_again s (F p) l z.f32 q in
        rw (a, b) z

module _ (s : ℕ) (β : Bool) (p : Place) (l : s < 32) (z : Sound p) (h : Held p s) where
  abbrev setting : Kind
  setting = kind.SetBottleneck β

  passed : (γ : Bool) → PassedOn setting (kind.SetBottleneck γ)
  passed γ = record { within = tt; way = refl; leave = refl; join = refl }

  did_freed : below_b (B p) (rate_at p s) ≡ true → LinkDid s setting p (freed_of (B p) s β p)
  unfolding freed_of
  did_freed e =
      let q = with_words p (cut s (R p)) (put s (F p)) in
      let all : (r : ℕ) → has r (cut s (R p)) + has r (put s (F p)) ≡ has r (R p) + has r (F p) =
      λ r. move_all (R p) (F p) s r (omega (arith, z.apart s, h.some)) in
      did_updating s setting p q (idle_at_b (B p) p (R p)) (Some setting) (is_fine (B q)) (free_sound p s l z h e) refl
      (λ r i. inl (record { some = omega (arith, all r, i.some) }))
      (no_leave setting refl)
      (those_lt (idle_at (B p)) p.entries (R p))
      (λ r i. record { some = omega (arith, all r, has_those_le (idle_at (B p)) p.entries (R p) r, i) })
      (passed β)
      (λ t. t)

  did_stay : (γ fine : Bool) → LinkDid s setting p (quiet p (Some (kind.SetBottleneck γ)) fine)
  did_stay γ fine = did_nothing s setting p (Some (kind.SetBottleneck γ)) fine z (no_leave setting refl) (passed γ)

  pub did_set : LinkDid s setting p (set_bottleneck_of s β p)
  unfolding set_bottleneck_of
  did_set =
      cases (LinkDid s setting p) (all_at_b (B p) p) _ _ (λ e. did_stay true (is_fine (B p)))
      (λ e.
      cases (LinkDid s setting p) (below_b (B p) (rate_at p s) && is_idle (mu_at p s)) _ _
      (λ f. did_freed (and_both (below_b (B p) (rate_at p s)) (is_idle (mu_at p s)) f).0)
      (λ f.
      cases (LinkDid s setting p) (is_idle (mu_at p s) && equals_b (B p) (rate_at p s)) _ _
      (λ g. did_stay β (is_fine (B p)))
      (λ g. did_drop s setting p z refl (is_fine (B p)))))

-- LEAVE ---------------------------------------------------------------------------------------------------------------

-- q is p without s
record Without (s : ℕ) (p q : Place) : Type 0 where
  sound : Sound q
  capacity : q.link.capacity ≡ p.link.capacity
  fewer : (r : ℕ) → Held q r → Held p r
  gone : Held q s → ⊥
  stays : (r : ℕ) → has r (cut s (R p)) ≡ 1 → Held q r

fewer_sound : (p : Place) (r f : ℕ) → Sound p → ((t : ℕ) → has t r ≤ has t (R p)) → ((t : ℕ) → has t f ≤ has t (F p)) → r ≤ R p → f ≤ F p
    → Sound (with_words p r f)
fewer_sound p r f z a b c d =
    sound_words p r f z (omega (arith, z.r32)) (omega (arith, z.f32)) (λ t. omega (arith, a t, b t, z.apart t)) b
    (λ t l h. z.rates t l (record { some = omega (arith, a t, b t) }))

abbrev left : Entry
left = entry mu.Idle zero_of

without : (s : ℕ) (p : Place) → s < 32 → Sound p → Without s p (without_of s p)
unfolding without_of
without s p l z =
    cases (λ (v : Place). Without s p (with_entry v s left)) (in_f p s) (with_words p (R p) (cut s (F p))) (with_words p (cut s (R p)) (F p))
    (λ e.
    record {
      sound =
          sound_entry (with_words p (R p) (cut s (F p))) s left
          (fewer_sound p (R p) (cut s (F p)) z (λ t. omega arith) (λ t. has_cut_le t s (F p)) (omega arith) (cut_le s (F p)))
          l (has_cut_same s (F p)) zero_within;
      capacity = refl;
      fewer = λ r h. record { some = omega (arith, h.some, has_cut_le r s (F p)) };
      gone = λ h. omega (arith, h.some, has_cut_same s (F p), is_in (F p) s e, z.apart s);
      stays = λ r h. record { some = omega (arith, h, has_cut_le r s (R p)) };
    })
    (λ e.
    record {
      sound =
          sound_entry (with_words p (cut s (R p)) (F p)) s left
          (fewer_sound p (cut s (R p)) (F p) z (λ t. has_cut_le t s (R p)) (λ t. omega arith) (cut_le s (R p)) (omega arith))
          l (is_out (F p) s e) zero_within;
      capacity = refl;
      fewer = λ r h. record { some = omega (arith, h.some, has_cut_le r s (R p)) };
      gone = λ h. omega (arith, h.some, has_cut_same s (R p), is_out (F p) s e);
      stays = λ r h. record { some = omega (arith, h) };
    })

pub did_leave : (s : ℕ) (p : Place) → s < 32 → Sound p → LinkDid s kind.Leave p (leave_of s p)
unfolding leave_of
did_leave s p l z =
    let q = without_of s p in
    let w = without s p l z in
    did_updating s kind.Leave p q (idle_at_b (B p) p (cut s (R p))) (Some kind.Leave) (is_fine (B p) && is_fine (B q)) w.sound w.capacity
    (λ r h. inl (w.fewer r h))
    (λ t h. w.gone h)
    (those_lt (idle_at (B p)) p.entries (cut s (R p)))
    (λ r h. w.stays r (omega (arith, h, has_those_le (idle_at (B p)) p.entries (cut s (R p)) r, has_lt r (cut s (R p)))))
    (record { within = tt; way = refl; leave = refl; join = refl })
    (λ t. (and_both (is_fine (B p)) (is_fine (B q)) t).1)
