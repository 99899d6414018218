-- What a rule does where it keeps the words, and where it changes them and updates sessions; and the rules that keep them: Update, Bottleneck and
-- Response.
-- Assumes nothing.
use Rattle.std.specs.Prelude.{None, Option, Some}
use mathlib.Core.Bool.{Bool, false, true, ◌&&◌}
use mathlib.Core.List.{List}
use mathlib.Core.Logic.{◌⊎◌, inl}
use mathlib.Core.Path.{◌≡◌, refl, subst, sym}
use Prim.Native.Nat.{ℕ, ◌^◌, ◌<◌}
use lib.Dec.{lit≤}
use lib.ListN.{get_or}
use native.Mathlib.Omega.{arith}
use Rattle.fractions.specs.declared.Rate.{Rate}
use Rattle.fractions.proofs.Cases.{cases}
use Rattle.links.specs.declared.Bound.{Bound}
use Rattle.links.specs.declared.Entry.{Entry}
use Rattle.links.specs.declared.Mu.{Mu}
use Rattle.links.specs.declared.Mu.TheVariants as mu
use Rattle.links.specs.declared.Place.{Place}
use Rattle.links.specs.Links.{B, F, R, all_at_b, entry, in_r, is_fine, is_idle, mu_at, no_entry, rate_at, waiting_of, with_entry, with_mu}
use Rattle.records.proofs.Somes.{clash}
use Rattle.sessions.specs.Set.{has}
use Rattle.sessions.proofs.Members.{cut_le, has_cut_le, has_zero}
use Rattle.table.specs.Values.{KindWithin}
use Rattle.tasks.specs.declared.Eta.{Eta}
use Rattle.tasks.specs.declared.Kind.{Kind}
use Rattle.tasks.specs.declared.Kind.TheVariants as kind
use Rattle.tasks.specs.declared.Tau.{Tau}
use Rattle.tasks.specs.declared.Tau.TheVariants as tau
use Rattle.tasks.specs.Figure2.{accepted_of, agreed_of, answered_of, bottleneck_of, quiet, response_of, update_of, updating}
use Rattle.tasks.specs.Packets.{is_leave}
use Rattle.soundness.specs.LinkDid.{GoesOn, LinkDid, PassedOn, is_join}
use Rattle.soundness.specs.Sound.{Held, Sound}
use Rattle.soundness.proofs.Changes.{mu_alike, mu_sound, rate_other, sound_entry, sound_waiting, with_entries}
use Rattle.soundness.proofs.Shares.{b_alike, b_waiting}

-- the rates of F's members are as they were
abbrev pub SameF : Place → List Entry → Type 0
SameF p es = (s : ℕ) → s < 32 → has s (F p) ≡ 1 → (get_or es s no_entry).rate ≡ rate_at p s

-- what is said of a Leave alone holds of another packet
pub no_leave : {A : Type 0} (k : Kind) → is_leave k ≡ false → is_leave k ≡ true → A
no_leave k e f = absurd (clash (is_leave k) f e)

-- a rule that keeps the words and the rates of F
pub did_quiet : (s : ℕ) (k : Kind) (p : Place) (es : List Entry) (o : Option Kind) (fine : Bool) → Sound (with_entries p es) → SameF p es
    → (is_leave k ≡ true → Held p s → ⊥)
    → GoesOn k o
    → LinkDid s k p (quiet (with_entries p es) o fine)
did_quiet s k p es o fine z a g w = record {
  sound = z;
  capacity = refl;
  held = λ r h. inl (record { some = h.some });
  gone = λ t h. g t (record { some = h.some });
  few = lit≤ tt;
  to = λ r h. absurd (omega (arith, has_zero r));
  on = w;
  fine = λ t h. subst (λ (b : Bound). is_fine b ≡ true) (sym (b_alike p es a)) h;
}

-- one that leaves the link as it is
pub did_nothing : (s : ℕ) (k : Kind) (p : Place) (o : Option Kind) (fine : Bool) → Sound p → (is_leave k ≡ true → Held p s → ⊥) → GoesOn k o
    → LinkDid s k p (quiet p o fine)
did_nothing s k p o fine z g w = did_quiet s k p p.entries o fine z (λ r l h. refl) g w

-- a rule that changes the words, and updates sessions that it holds then
pub did_updating : (s : ℕ) (k : Kind) (p q : Place) (w : ℕ) (o : Option Kind) (fine : Bool) → Sound q → q.link.capacity ≡ p.link.capacity
    → ((r : ℕ) → Held q r → Held p r ⊎ ((r ≡ s) × (is_join k ≡ true)))
    → (is_leave k ≡ true → Held q s → ⊥)
    → w < 2 ^ 32
    → ((r : ℕ) → has r w ≡ 1 → Held q r)
    → GoesOn k o
    → (fine ≡ true → is_fine (B q) ≡ true)
    → LinkDid s k p (updating q w o fine)
unfolding waiting_of
did_updating s k p q w o fine z c h g l u v f = record {
  sound = sound_waiting q w z;
  capacity = c;
  held = λ r i. h r (record { some = i.some });
  gone = λ t i. g t (record { some = i.some });
  few = l;
  to = λ r i. record { some = (u r i).some };
  on = v;
  fine = λ t i. subst (λ (b : Bound). is_fine b ≡ true) (sym (b_waiting q w)) (f t);
}

-- UPDATE, BOTTLENECK --------------------------------------------------------------------------------------------------

-- a state changes, and no rate
module _ (s : ℕ) (k : Kind) (p : Place) (z : Sound p) (n : is_leave k ≡ false) where
  pub did_mu : (m : Mu) (o : Option Kind) (fine : Bool) → GoesOn k o → LinkDid s k p (quiet (with_mu p s m) o fine)
  did_mu m o fine w =
      did_quiet s k p (with_mu p s m).entries o fine (mu_sound p s m z) (λ r l h. (mu_alike p s m).same r) (no_leave k n) w

  pub did_drop : (fine : Bool) → LinkDid s k p (quiet p None fine)
  did_drop fine = did_nothing s k p None fine z (no_leave k n) n

pub did_update : (s : ℕ) (p : Place) → Sound p → LinkDid s kind.Update p (update_of s p)
unfolding update_of
did_update s p z =
    cases (LinkDid s kind.Update p) (is_idle (mu_at p s)) _ _
    (λ e. did_mu s kind.Update p z refl mu.WaitingProbe (Some kind.Update) true (record { within = tt; way = refl; leave = refl; join = refl }))
    (λ e. did_drop s kind.Update p z refl true)

pub did_bottleneck : (s : ℕ) (p : Place) → Sound p → LinkDid s kind.Bottleneck p (bottleneck_of s p)
unfolding bottleneck_of
did_bottleneck s p z =
    cases (LinkDid s kind.Bottleneck p) (is_idle (mu_at p s) && in_r p s) _ _
    (λ e.
    did_nothing s kind.Bottleneck p (Some kind.Bottleneck) true z (no_leave kind.Bottleneck refl)
    (record { within = tt; way = refl; leave = refl; join = refl }))
    (λ e. did_drop s kind.Bottleneck p z refl true)

-- RESPONSE ------------------------------------------------------------------------------------------------------------

-- s is not in F, so its rate may change
module _ (e s : ℕ) (τ : Tau) (x : Rate) (η : Eta) (p : Place) (le : e < 64) (ls : s < 32) (z : Sound p) (w : KindWithin (kind.Response τ x η)) (n : has s (F p) ≡ 0) where
  abbrev here : Kind
  here = kind.Response τ x η

  passed : (σ : Tau) → PassedOn here (kind.Response σ x η)
  passed σ = record { within = w; way = refl; leave = refl; join = refl }

  did_answered : (b : Bound) (σ : Tau) (es : List Entry) → Sound (with_entries p es) → SameF p es → LinkDid s here p (answered_of b e s σ x η (with_entries p es))
  unfolding answered_of
  did_answered b σ es o a =
      let q = with_entries p es in
      cases (LinkDid s here p) (all_at_b b q) _ _
      (λ t.
      record {
        sound = o;
        capacity = refl;
        held = λ r h. inl (record { some = h.some });
        gone = no_leave here refl;
        few = omega (arith, cut_le s (R p), o.r32);
        to = λ r h. record { some = omega (arith, has_cut_le r s (R p)) };
        on = record { within = (w.0, le); way = refl; leave = refl; join = refl };
        fine = λ u h. subst (λ (b : Bound). is_fine b ≡ true) (sym (b_alike p es a)) h;
      })
      (λ t. did_quiet s here p es (Some (kind.Response σ x η)) (is_fine b) o a (no_leave here refl) (passed σ))

  did_agreed : (σ : Tau) → LinkDid s here p (agreed_of e s σ x η p)
  unfolding agreed_of
  did_agreed σ =
      cases (LinkDid s here p) (accepted_of (B p) e x η) _ _
      (λ t.
      did_answered (B p) σ (with_entry p s (entry mu.Idle x)).entries (sound_entry p s (entry mu.Idle x) z ls n w.0)
      (λ r l h. rate_other p.entries s r (entry mu.Idle x) (λ q. omega (arith, subst (λ (i : ℕ). has i (F p) ≡ 1) q h))))
      (λ t. did_answered (B p) tau.Update (with_mu p s mu.WaitingProbe).entries (mu_sound p s mu.WaitingProbe z) (λ r l h. (mu_alike p s mu.WaitingProbe).same r))

pub did_response : (e s : ℕ) (τ : Tau) (x : Rate) (η : Eta) (p : Place) → e < 64 → s < 32 → Sound p → KindWithin (kind.Response τ x η) → has s (F p) ≡ 0
    → LinkDid s (kind.Response τ x η) p (response_of e s τ x η p)
unfolding response_of
did_response e s tau.Update x η p le ls z w n =
    did_mu s (kind.Response tau.Update x η) p z refl mu.WaitingProbe (Some (kind.Response tau.Update x η)) true
    (record { within = w; way = refl; leave = refl; join = refl })
did_response e s tau.Response x η p le ls z w n = did_agreed e s tau.Response x η p le ls z w n tau.Response
did_response e s tau.Bottleneck x η p le ls z w n = did_agreed e s tau.Bottleneck x η p le ls z w n tau.Bottleneck
