-- Sessions that go from F to R: the F check does no more than that, so it keeps a link sound.
-- Assumes nothing.
use mathlib.Core.Bool.{Bool, cond, false, not, true}
use mathlib.Core.List.{List}
use mathlib.Core.Logic.{◌⊎◌, inl, inr}
use mathlib.Core.Path.{◌≡◌, refl, subst, sym, ◌∙◌}
use Prim.Native.Nat.{ℕ, zero, suc, ◌+◌, ◌^◌, ◌≤◌, ◌<◌, max}
use lib.Bits.{bit_or, or_lt}
use lib.ListN.{get_or}
use native.Mathlib.Omega.{arith}
use Rattle.fractions.specs.declared.Rate.{Rate}
use Rattle.fractions.specs.Fraction.{same_of}
use Rattle.fractions.proofs.Cases.{cases, order}
use Rattle.links.specs.declared.Entry.{Entry}
use Rattle.links.specs.declared.Place.{Place}
use Rattle.links.specs.FCheck.{check_of, highest_of, turn_of}
use Rattle.links.specs.Links.{B, F, R, no_entry, some_of, those_of, at_least, has_other_rate, has_rate}
use Rattle.sessions.specs.Set.{has}
use Rattle.sessions.proofs.Members.{has_high}
use Rattle.sessions.proofs.Operations.{has_or}
use Rattle.soundness.specs.Sound.{Sound}
use Rattle.soundness.proofs.Changes.{sound_words}
use Rattle.soundness.proofs.Chosen.{has_those, has_those_le, those_lt}

-- q is p but that sessions may have gone from F to R
pub record Moved (p q : Place) : Type 0 where
  pub entries : q.entries ≡ p.entries
  pub capacity : q.link.capacity ≡ p.link.capacity
  pub r32 : R q < 2 ^ 32
  pub f32 : F q < 2 ^ 32
  pub all : (s : ℕ) → has s (R q) + has s (F q) ≡ has s (R p) + has s (F p)
  pub less : (s : ℕ) → has s (F q) ≤ has s (F p)

pub sound_moved : (p q : Place) → Sound p → Moved p q → Sound q
sound_moved p q o m =
    let c = sym m.capacity in
    let e = sym m.entries in
    subst Sound (λ i. record { link = record { capacity = c i; r = R q; f = F q }; entries = e i })
    (sound_words p (R q) (F q) o m.r32 m.f32 (λ s. omega (arith, m.all s, o.apart s)) m.less
    (λ s l h. o.rates s l (record { some = omega (arith, m.all s) })))

moved_refl : (p : Place) → Sound p → Moved p p
moved_refl p o = record { entries = refl; capacity = refl; r32 = o.r32; f32 = o.f32; all = λ s. refl; less = λ s. omega arith }

moved_trans : {p q r : Place} → Moved p q → Moved q r → Moved p r
moved_trans a b = record {
  entries = b.entries ∙ a.entries;
  capacity = b.capacity ∙ a.capacity;
  r32 = b.r32;
  f32 = b.f32;
  all = λ s. b.all s ∙ a.all s;
  less = λ s. omega (arith, a.less s, b.less s);
}

-- the members of f with the rate m go to r, and the others stay
split : (es : List Entry) (m : Rate) (r f : ℕ) → r < 2 ^ 32 → f < 2 ^ 32 → ((s : ℕ) → has s r + has s f ≤ 1) → (s : ℕ)
    → has s (bit_or r (those_of (has_rate m) es f)) + has s (those_of (has_other_rate m) es f) ≡ has s r + has s f
split es m r f hr hf a s = go (order 32 s)
  where
    digits : (t : Bool) (x y : ℕ) → x + y ≤ 1 → max x (cond t y 0) + cond (not t) y 0 ≡ x + y
    digits true x y h = omega arith
    digits false x y h = omega arith

    go : (32 ≤ s) ⊎ (s < 32) → has s (bit_or r (those_of (has_rate m) es f)) + has s (those_of (has_other_rate m) es f) ≡ has s r + has s f
    go (inl b) =
        omega (
          arith,
          has_high 32 s (bit_or r (those_of (has_rate m) es f)) (or_lt 32 r (those_of (has_rate m) es f) hr (those_lt (has_rate m) es f)) b,
          has_high 32 s (those_of (has_other_rate m) es f) (those_lt (has_other_rate m) es f) b,
          has_high 32 s r hr b,
          has_high 32 s f hf b,
        )
    go (inr l) =
        rw (has_or s r (those_of (has_rate m) es f), has_those (has_rate m) es f s l, has_those (has_other_rate m) es f s l)
        (digits (same_of (get_or es s no_entry).rate m) (has s r) (has s f) (a s))

pub turn_moved : (p : Place) → Sound p → Moved p (turn_of p)
unfolding turn_of
turn_moved p o =
    let m = highest_of p in
    record {
      entries = refl;
      capacity = refl;
      r32 = or_lt 32 (R p) (those_of (has_rate m) p.entries (F p)) o.r32 (those_lt (has_rate m) p.entries (F p));
      f32 = those_lt (has_other_rate m) p.entries (F p);
      all = split p.entries m (R p) (F p) o.r32 o.f32 o.apart;
      less = has_those_le (has_other_rate m) p.entries (F p);
    }

pub check_moved : (k : ℕ) (p : Place) → Sound p → Moved p (check_of k p)
unfolding check_of
check_moved zero p o = moved_refl p o
check_moved (suc k) p o =
    cases (Moved p) (some_of (at_least (B p)) p.entries (F p)) (check_of k (turn_of p)) p
    (λ e. moved_trans (turn_moved p o) (check_moved k (turn_of p) (sound_moved p (turn_of p) o (turn_moved p o))))
    (λ e. moved_refl p o)
