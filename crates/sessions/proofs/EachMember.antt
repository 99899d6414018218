-- What is shown of the members of a word one by one, in any order, holds of all of them once none is left.
-- Assumes nothing.
use mathlib.Core.Path.{◌≡◌, ap, subst, sym, ◌∙◌}
use Prim.Native.Nat.{ℕ, ◌<◌}
use native.Mathlib.Decide.{ℕ_discrete}
use native.Mathlib.Omega.{arith}
use Rattle.sessions.specs.Set.{cut, has}
use Rattle.sessions.proofs.Members.{has_cut_other, has_zero}

-- P holds of every member of w below k that is no longer left
abbrev pub Shown : (ℕ → Type 0) → ℕ → ℕ → ℕ → Type 0
Shown P k w left = (s : ℕ) → s < k → has s w ≡ 1 → has s left ≡ 0 → P s

module _ (P : ℕ → Type 0) (k w : ℕ) where
  pub shown_none : Shown P k w w
  shown_none s l i o = absurd (omega (arith, i, o))

  pub shown_next : (left s v : ℕ) → v ≡ cut s left → P s → Shown P k w left → Shown P k w v
  shown_next left s v e p h t l i o = go (ℕ_discrete s t)
    where
      go : Dec (s ≡ t) → P t
      go (yes q) = subst P q p
      go (no n) = h t l i (sym (ap (has t) e ∙ has_cut_other s t left n) ∙ o)

  pub shown_all : (left : ℕ) → left ≡ 0 → Shown P k w left → (s : ℕ) → s < k → has s w ≡ 1 → P s
  shown_all left e h s l i = h s l i (ap (has s) e ∙ has_zero s)
