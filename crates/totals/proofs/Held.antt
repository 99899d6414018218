-- The sessions that a link of a table holds, as one word, and a link that holds nobody.
-- Assumes nothing.
use Rattle.std.specs.Prelude.{Ok}
use mathlib.Core.Bool.{false}
use mathlib.Core.List.{List}
use mathlib.Core.Path.{ap, sym, ◌∙◌, ◌≡◌}
use Prim.Native.Nat.{ℕ}
use lib.Bits.{bit_or}
use lib.Dec.{eqb}
use Rattle.fractions.specs.Fraction.{zero_of}
use Rattle.fractions.proofs.Cases.{or_false}
use Rattle.links.specs.Links.{holds, in_f, in_r, sum_of}
use Rattle.links.proofs.Bounds.{sum_none}
use Rattle.sessions.specs.Set.{has, has_of}
use Rattle.sessions.proofs.Members.{has_zero, nobody}
use Rattle.sessions.proofs.Operations.{in_either}
use Rattle.table.specs.Words.{link_of, place_of}
use Rattle.table.proofs.InRange.{f_below}

abbrev pub held_word : List ℕ → ℕ → ℕ
held_word w e = bit_or (link_of w e).r (link_of w e).f

module _ (w : List ℕ) (e : ℕ) where
  pub held_is : (s : ℕ) → has_of s (held_word w e) ≡ holds (place_of w e) s
  held_is s = in_either s (link_of w e).r (link_of w e).f

  -- a session that is no member is in neither R nor F
  pub out_of_both : (s : ℕ) → has s (held_word w e) ≡ 0 → (in_r (place_of w e) s ≡ false) × (in_f (place_of w e) s ≡ false)
  out_of_both s o =
      or_false (has_of s (link_of w e).r) (has_of s (link_of w e).f) (sym (held_is s) ∙ ap (λ (d : ℕ). eqb d 1) o)

  module _ (z : held_word w e ≡ 0) where
    pub nobody_held : (s : ℕ) → (in_r (place_of w e) s ≡ false) × (in_f (place_of w e) s ≡ false)
    nobody_held s = out_of_both s (ap (has s) z ∙ has_zero s)

    pub none_summed : sum_of (place_of w e) ≡ Ok zero_of
    none_summed = sum_none (place_of w e) (nobody 32 (link_of w e).f (f_below w e) (λ s l. (nobody_held s).1))
