-- Loops that write an array at the members of a set: the places that were visited have their new values, the others their old ones.
-- Assumes nothing.
use mathlib.Core.List.{List}
use mathlib.Core.Path.{◌≡◌, refl, sym, ap, ◌∙◌}
use Prim.Native.Nat.{ℕ, ◌<◌}
use native.Mathlib.Decide.{ℕ_discrete}
use native.Mathlib.Omega.{arith}
use lib.ListN.{get_or, length, length-set, set}
use lib.Seq.{get_or-set_other}
use Rattle.sessions.specs.Set.{cut, has}
use Rattle.sessions.proofs.Members.{has_cut_other, has_cut_same, has_zero}
use Rattle.sessions.proofs.Writes.{written_turn}

-- the places that are not in `left` have f's values, those in it their old ones
pub record Visited (f : ℕ → ℕ) (old : List ℕ) (left : ℕ) (now : List ℕ) : Type 0 where
  pub long : length now ≡ length old
  pub done : (j : ℕ) → j < length old → has j left ≡ 0 → get_or now j 0 ≡ f j
  pub rest : (j : ℕ) → has j left ≡ 1 → get_or now j 0 ≡ get_or old j 0

module _ (f : ℕ → ℕ) (old : List ℕ) where
  -- the places that are never visited keep what they have
  pub visited_none : (left : ℕ) → ((j : ℕ) → j < length old → has j left ≡ 0 → get_or old j 0 ≡ f j) → Visited f old left old
  visited_none left h = record { long = refl; done = h; rest = λ j q. refl }

  pub visited_turn : (left i v : ℕ) (now : List ℕ) (more : ℕ) → i < length old → more ≡ f i → v ≡ cut i left → Visited f old left now
      → Visited f old v (set now i more)
  visited_turn left i v now more hi e q h =
      record {
        long = length-set now i more ∙ h.long;
        done = written_turn (λ j. j < length old) f left i v now more (omega (arith, h.long)) e q h.done;
        rest = λ j z. rest j z (ℕ_discrete i j);
      }
    where
      same : (j : ℕ) → (i ≡ j → ⊥) → has j v ≡ has j left
      same j n = ap (has j) q ∙ has_cut_other i j left n

      rest : (j : ℕ) → has j v ≡ 1 → Dec (i ≡ j) → get_or (set now i more) j 0 ≡ get_or old j 0
      rest j z (yes w) = absurd (omega (arith, z, ap (λ (y : ℕ). has y v) (sym w), ap (has i) q, has_cut_same i left))
      rest j z (no n) = get_or-set_other now i j more 0 (λ w. n (sym w)) ∙ h.rest j (sym (same j n) ∙ z)

  pub visited_all : (left : ℕ) (now : List ℕ) → left ≡ 0 → Visited f old left now → (j : ℕ) → j < length old → get_or now j 0 ≡ f j
  visited_all left now z h j k = h.done j k (ap (has j) z ∙ has_zero j)
