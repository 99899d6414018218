-- A list of 32 written session by session: the sessions of w that are no longer left have f's value.
-- Assumes nothing.
use mathlib.Core.List.{List}
use mathlib.Core.Path.{◌≡◌, ap, ◌∙◌}
use Prim.Native.Nat.{ℕ, ◌<◌}
use native.Mathlib.Omega.{arith}
use lib.ListN.{get_or, length, length-set, set}
use Rattle.sessions.specs.Set.{cut, has}
use Rattle.sessions.proofs.Members.{has_zero}
use Rattle.sessions.proofs.Writes.{written_turn}

pub record Upto (f : ℕ → ℕ) (w left : ℕ) (l : List ℕ) : Type 0 where
  pub long : length l ≡ 32
  pub at : (t : ℕ) → t < 32 → has t w ≡ 1 → has t left ≡ 0 → get_or l t 0 ≡ f t

-- all are left
pub upto_none : (f : ℕ → ℕ) (w : ℕ) (l : List ℕ) → length l ≡ 32 → Upto f w w l
upto_none f w l h = record { long = h; at = λ t k a b. absurd (omega arith) }

-- one more is written
pub upto_turn : (f : ℕ → ℕ) (w left : ℕ) (l : List ℕ) (t v next : ℕ) → t < 32 → v ≡ f t → next ≡ cut t left → Upto f w left l → Upto f w next (set l t v)
upto_turn f w left l t v next h e q u = record { long = length-set l t v ∙ u.long; at = λ s k a. at s (k, a) }
  where
    at : (s : ℕ) → (s < 32) × (has s w ≡ 1) → has s next ≡ 0 → get_or (set l t v) s 0 ≡ f s
    at = written_turn (λ s. (s < 32) × (has s w ≡ 1)) f left t next l v (omega (arith, u.long)) e q (λ s p. u.at s p.0 p.1)

-- none is left
pub upto_all : (f : ℕ → ℕ) (w left : ℕ) (l : List ℕ) → left ≡ 0 → Upto f w left l → (t : ℕ) → t < 32 → has t w ≡ 1 → get_or l t 0 ≡ f t
upto_all f w left l e u t h a = u.at t h a (ap (has t) e ∙ has_zero t)
