-- The changes that keep a link sound: other words with an F that has lost members at most, other states, and another rate at a session that is
-- not in F.
-- Assumes nothing.
use mathlib.Core.Bool.{cond}
use mathlib.Core.List.{List, [], ◌∷◌}
use mathlib.Core.Path.{◌≡◌, ap, refl, subst, sym, ◌∙◌}
use Prim.Native.Nat.{ℕ, zero, suc, ◌+◌, ◌*◌, ◌^◌, ◌≤◌, ◌<◌}
use lib.Dec.{eqb, lit≤}
use lib.ListN.{get_or, length, length-set, set}
use lib.Seq.{get_or-set_other, get_or-set_same}
use native.Mathlib.Decide.{ℕ_discrete}
use native.Mathlib.Nat.{le_of_mul-le-mul_right, mul-pos}
use native.Mathlib.Omega.{arith}
use borrow.Author.Tests.{eq-eqb, ne_eqb}
use Rattle.fractions.specs.declared.Rate.{Rate}
use Rattle.fractions.specs.Fraction.{Same, Sized, Within, frac, max_rate, zero_of}
use Rattle.fractions.proofs.Ranges.{whole_within, within_sized}
use Rattle.links.specs.declared.Entry.{Entry}
use Rattle.links.specs.declared.Mu.{Mu}
use Rattle.links.specs.declared.Mu.TheVariants as mu
use Rattle.links.specs.declared.Place.{Place}
use Rattle.links.specs.Links.{F, entry, no_entry, rate_at, wait_in, waiting_of, with_entry, with_mu, with_words}
use Rattle.links.proofs.Sizes.{workable_entry, workable_words}
use Rattle.sessions.specs.Set.{has}
use Rattle.sessions.proofs.Walks.{walk_keeps}
use Rattle.soundness.specs.Sound.{Held, Over, Sound, weight}
use Rattle.soundness.proofs.Weights.{weight_le, weight_same, weight_scale}

abbrev pub with_entries : Place → List Entry → Place
with_entries p es = record { link = p.link; entries = es }

-- the rate of an entry that starts, or is no longer there
pub zero_within : Within max_rate zero_of
zero_within = whole_within (lit≤ tt)

-- OTHER WORDS ---------------------------------------------------------------------------------------------------------

pub sound_words : (p : Place) (r f : ℕ) → Sound p → r < 2 ^ 32 → f < 2 ^ 32
    → ((s : ℕ) → has s r + has s f ≤ 1)
    → ((s : ℕ) → has s f ≤ has s (F p))
    → ((s : ℕ) → s < 32 → 0 < has s r + has s f → Within max_rate (rate_at p s))
    → Sound (with_words p r f)
sound_words p r f o hr hf a l w = record {
  workable = workable_words p r f o.workable;
  r32 = hr;
  f32 = hf;
  apart = a;
  rates = λ s k h. w s k h.some;
  fits = λ N x c. omega (arith, weight_le f (F p) x (λ s k. l s), o.fits N x c);
}

-- OTHER STATES --------------------------------------------------------------------------------------------------------

-- entries with the same rates
pub record Alike (es fs : List Entry) : Type 0 where
  pub many : length fs ≡ length es
  pub same : (s : ℕ) → (get_or fs s no_entry).rate ≡ (get_or es s no_entry).rate

pub alike_refl : (es : List Entry) → Alike es es
alike_refl es = record { many = refl; same = λ s. refl }

pub sound_alike : (p : Place) (es : List Entry) → Sound p → Alike p.entries es → Sound (with_entries p es)
sound_alike p es o a = record {
  workable =
      record {
        capacity = o.workable.capacity;
        rates =
            record {
              many = a.many ∙ o.workable.rates.many;
              sized = λ s l. subst (Sized max_rate) (sym (a.same s)) (o.workable.rates.sized s l);
            };
      };
  r32 = o.r32;
  f32 = o.f32;
  apart = o.apart;
  rates = λ s l h. subst (Within max_rate) (sym (a.same s)) (o.rates s l (record { some = h.some }));
  fits =
      λ N x c.
      o.fits N x (record { pos = c.pos; shown = λ s l. subst (λ (r : Rate). Same r (frac (x s) N)) (a.same s) (c.shown s l) });
}

rate_kept : (es : List Entry) (s r : ℕ) (m : Mu) → (get_or (set es s (entry m (get_or es s no_entry).rate)) r no_entry).rate ≡ (get_or es r no_entry).rate
rate_kept [] s r m = refl
rate_kept (y ∷ es) zero zero m = refl
rate_kept (y ∷ es) zero (suc r) m = refl
rate_kept (y ∷ es) (suc s) zero m = refl
rate_kept (y ∷ es) (suc s) (suc r) m = rate_kept es s r m

set_alike : (es fs : List Entry) (s : ℕ) (m : Mu) → Alike es fs → Alike es (set fs s (entry m (get_or fs s no_entry).rate))
set_alike es fs s m a = record { many = length-set fs s _ ∙ a.many; same = λ r. rate_kept fs s r m ∙ a.same r }

pub mu_alike : (p : Place) (s : ℕ) (m : Mu) → Alike p.entries (with_mu p s m).entries
mu_alike p s m = set_alike p.entries p.entries s m (alike_refl p.entries)

pub waiting_alike : (p : Place) (w : ℕ) → Alike p.entries (waiting_of p w).entries
unfolding waiting_of
waiting_alike p w =
    walk_keeps (Alike p.entries) wait_in 32 w (λ es s l a. set_alike p.entries es s mu.WaitingProbe a) p.entries (alike_refl p.entries)

pub mu_sound : (p : Place) (s : ℕ) (m : Mu) → Sound p → Sound (with_mu p s m)
mu_sound p s m o = sound_alike p (with_mu p s m).entries o (mu_alike p s m)

pub sound_waiting : (p : Place) (w : ℕ) → Sound p → Sound (waiting_of p w)
unfolding waiting_of
sound_waiting p w o = sound_alike p (waiting_of p w).entries o (waiting_alike p w)

-- ANOTHER RATE --------------------------------------------------------------------------------------------------------

pub rate_other : (es : List Entry) (s r : ℕ) (y : Entry) → (r ≡ s → ⊥) → (get_or (set es s y) r no_entry).rate ≡ (get_or es r no_entry).rate
rate_other es s r y n = ap (λ (w : Entry). w.rate) (get_or-set_other es s r y no_entry n)

pub rate_same : (p : Place) (s : ℕ) (y : Entry) → Sound p → s < 32 → rate_at (with_entry p s y) s ≡ y.rate
rate_same p s y o l = ap (λ (w : Entry). w.rate) (get_or-set_same p.entries s y no_entry (omega (arith, o.workable.rates.many)))

-- the rates with v in place of that of s, over a denominator that v has too
rescaled : ℕ → (ℕ → ℕ) → Rate → ℕ → ℕ → ℕ
rescaled N x v s r = cond (eqb r s) (v.num * N) (v.den * x r)

rescaled_other : (N : ℕ) (x : ℕ → ℕ) (v : Rate) (s r : ℕ) → (r ≡ s → ⊥) → rescaled N x v s r ≡ v.den * x r
unfolding rescaled
rescaled_other N x v s r n = rw (ne_eqb r s n) refl

rescale : (N : ℕ) (x : ℕ → ℕ) (es : List Entry) (s : ℕ) (y : Entry) → 0 < (get_or es s no_entry).rate.den → Over N x (set es s y)
    → Over (N * (get_or es s no_entry).rate.den) (rescaled N x (get_or es s no_entry).rate s) es
unfolding rescaled
rescale N x es s y h c = record { pos = mul-pos c.pos h; shown = λ r l. go r l (ℕ_discrete r s) }
  where
    go : (r : ℕ) → r < 32 → Dec (r ≡ s)
        → Same (get_or es r no_entry).rate (frac (cond (eqb r s) ((get_or es s no_entry).rate.num * N) ((get_or es s no_entry).rate.den * x r)) (N * (get_or es s no_entry).rate.den))
    go r l (yes e) = rw (eq-eqb r s e, e) (record { cross = omega arith })
    go r l (no n) =
        let i = subst (λ (v : Rate). Same v (frac (x r) N)) (rate_other es s r y n) (c.shown r l) in
        rw (ne_eqb r s n) (record { cross = omega (arith, ap (λ (k : ℕ). k * (get_or es s no_entry).rate.den) i.cross) })

pub sound_entry : (p : Place) (s : ℕ) (y : Entry) → Sound p → s < 32 → has s (F p) ≡ 0 → Within max_rate y.rate → Sound (with_entry p s y)
sound_entry p s y o h n w = record {
  workable = workable_entry p s y o.workable (within_sized w);
  r32 = o.r32;
  f32 = o.f32;
  apart = o.apart;
  rates = λ r l i. rate r l i (ℕ_discrete r s);
  fits = fit;
}
  where
    rate : (r : ℕ) → r < 32 → Held (with_entry p s y) r → Dec (r ≡ s) → Within max_rate (rate_at (with_entry p s y) r)
    rate r l i (yes e) = rw (e, rate_same p s y o h) w
    rate r l i (no d) = rw (rate_other p.entries s r y d) (o.rates r l (record { some = i.some }))

    fit : (N : ℕ) (x : ℕ → ℕ) → Over N x (set p.entries s y) → weight (F p) x ≤ N * p.link.capacity
    fit N x c =
        let v = rate_at p s in
        let d : 0 < v.den = (o.workable.rates.sized s h).pos in
        let k = o.fits (N * v.den) (rescaled N x v s) (rescale N x p.entries s y d c) in
        let e : weight (F p) (rescaled N x v s) ≡ v.den * weight (F p) x =
        weight_same (F p) (rescaled N x v s) (λ r. v.den * x r)
        (λ r l m. rescaled_other N x v s r (λ q. omega (arith, m, ap (λ (i : ℕ). has i (F p)) q, n)))
        ∙ weight_scale (F p) v.den x in
        le_of_mul-le-mul_right {k = v.den} (omega (arith, k, e)) d
