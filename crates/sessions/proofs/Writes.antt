-- A list written at the members of a set, one member a turn.
-- Assumes nothing.
use mathlib.Core.List.{List}
use mathlib.Core.Path.{◌≡◌, sym, ap, subst, ◌∙◌}
use Prim.Native.Nat.{ℕ, ◌<◌}
use native.Mathlib.Decide.{ℕ_discrete}
use lib.ListN.{get_or, length, set}
use lib.Seq.{get_or-set_other, get_or-set_same}
use Rattle.sessions.specs.Set.{cut, has}
use Rattle.sessions.proofs.Members.{has_cut_other}

-- the places of Q that are no longer left have f's values: still so when i is written and cut
pub written_turn : (Q : ℕ → Type 0) (f : ℕ → ℕ) (left i v : ℕ) (now : List ℕ) (more : ℕ) → i < length now → more ≡ f i → v ≡ cut i left
    → ((j : ℕ) → Q j → has j left ≡ 0 → get_or now j 0 ≡ f j)
    → (j : ℕ) → Q j → has j v ≡ 0 → get_or (set now i more) j 0 ≡ f j
written_turn Q f left i v now more h e q done j k z = go (ℕ_discrete i j)
  where
    go : Dec (i ≡ j) → get_or (set now i more) j 0 ≡ f j
    go (yes w) = subst (λ (y : ℕ). get_or (set now i more) y 0 ≡ f y) w (get_or-set_same now i more 0 h ∙ e)
    go (no n) = get_or-set_other now i j more 0 (λ w. n (sym w)) ∙ done j k (sym (ap (has j) q ∙ has_cut_other i j left n) ∙ z)
