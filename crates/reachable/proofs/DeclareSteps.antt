-- A link without members is sound and within refusal 12; and the table after the declaration of a link, which has none.
-- Assumes nothing.
use mathlib.Core.Bool.{true}
use mathlib.Core.List.{List}
use mathlib.Core.Path.{◌≡◌, ap}
use Prim.Native.Nat.{ℕ, ◌<◌, ◌≤◌}
use native.Mathlib.Omega.{arith}
use borrow.Author.Tests.{ltb-false}
use lib.Count.{ones_in}
use lib.Dec.{ltb}
use Rattle.fractions.specs.Fraction.{max_rate}
use Rattle.events.specs.Events.{Step, declare_of, new_link}
use Rattle.fairness.proofs.Sums.{sum_none}
use Rattle.fractions.proofs.Cases.{cases}
use Rattle.links.specs.declared.Link.{Link}
use Rattle.links.specs.declared.Place.{Place}
use Rattle.links.specs.Links.{B, F, R, Workable, bound_of, is_fine, sum_of}
use Rattle.sessions.specs.Set.{has, walk}
use Rattle.sessions.proofs.Members.{has_zero}
use Rattle.sessions.proofs.Walks.{no_members}
use Rattle.soundness.proofs.Holding.{nobody_held}
use Rattle.soundness.specs.Sound.{Sound, weight}
use Rattle.table.specs.Words.{link_of, packets_of, path_of, place_of, put_link, source_of}
use Rattle.table.proofs.ReadBack.{link_back}
use Rattle.table.proofs.Unchanged.{link_other, packets_after_link, path_after_link, row_after_link, source_after_link}
use Rattle.reachable.specs.Invariant.{Fits, Safe}
use Rattle.reachable.proofs.FitsKept.{fits_link}

-- A LINK WITHOUT MEMBERS ----------------------------------------------------------------------------------------------

weight_none : (w : ℕ) (x : ℕ → ℕ) → w ≡ 0 → weight w x ≡ 0
unfolding weight
weight_none w x e = sum_none 32 _ (λ s l. rw (e, has_zero s) (omega arith))

module _ (p : Place) (r : R p ≡ 0) (f : F p ≡ 0) where
  pub empty_sound : Workable p → Sound p
  empty_sound k = record {
    workable = k;
    r32 = omega (arith, r);
    f32 = omega (arith, f);
    apart = λ s. omega (arith, ap (has s) r, ap (has s) f, has_zero s);
    rates = λ s l h. absurd (nobody_held p r f s h);
    fits = λ N x o. omega (arith, weight_none (F p) x f);
  }

  pub empty_fine : is_fine (B p) ≡ true
  unfolding B bound_of sum_of walk ones_in
  empty_fine = rw (no_members 32 (F p) f, r)

-- DECLARE -------------------------------------------------------------------------------------------------------------

-- v is the table w after link e was declared, which was not
pub record Declared (w : List ℕ) (e : ℕ) (v : List ℕ) : Type 0 where
  pub new : (link_of w e).capacity ≡ 0
  pub fits : Fits v
  pub no_r : R (place_of v e) ≡ 0
  pub no_f : F (place_of v e) ≡ 0
  pub elsewhere : (f : ℕ) → f < 64 → (f ≡ e → ⊥) → place_of v f ≡ place_of w f
  pub sources : (s : ℕ) → s < 32 → source_of v s ≡ source_of w s
  pub paths : (s : ℕ) → s < 32 → path_of v s ≡ path_of w s
  pub packets : packets_of v ≡ packets_of w

pub declare_either : (P : List ℕ → Type 0) (w : List ℕ) (e c : ℕ) → e < 64 → c ≤ max_rate → Safe w → P w → ((v : List ℕ) → Declared w e v → P v)
    → P (declare_of w e c).words
unfolding declare_of
declare_either P w e c le lc i k f =
    cases (λ (x : Step). P x.words) (ltb 0 (link_of w e).capacity) _ _ (λ t. k)
    (λ t. f (put_link w e (new_link c)) (after (omega (arith, ltb-false 0 (link_of w e).capacity t))))
  where
    after : (link_of w e).capacity ≡ 0 → Declared w e (put_link w e (new_link c))
    after new =
        let v = put_link w e (new_link c) in
        let back : link_of v e ≡ new_link c =
        link_back w e (new_link c) (omega (arith, i.fits.long)) (record { capacity = lc; r = omega arith; f = omega arith }) in
        record {
          new = new;
          fits = fits_link w e c le lc i.fits;
          no_r = ap (λ (l : Link). l.r) back;
          no_f = ap (λ (l : Link). l.f) back;
          elsewhere = λ f l n. rw (link_other w e (new_link c) f n, row_after_link w e (new_link c) f le l);
          sources = λ s l. source_after_link w e (new_link c) s le l;
          paths = λ s l. path_after_link w e (new_link c) s le l;
          packets = packets_after_link w e (new_link c) le;
        }
