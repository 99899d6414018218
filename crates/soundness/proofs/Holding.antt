-- Whether a link holds a session: the tests as facts, and who is held where a session goes from one word to the other, or is there already.
-- Assumes nothing.
use mathlib.Core.Bool.{Bool, false, true}
use mathlib.Core.Logic.{◌⊎◌, inl, inr}
use mathlib.Core.Path.{◌≡◌, ap, refl, sym, ◌∙◌}
use Prim.Native.Nat.{ℕ, ◌+◌, ◌^◌, ◌<◌}
use native.Mathlib.Decide.{ℕ_discrete}
use native.Mathlib.Omega.{arith}
use Rattle.fractions.proofs.Cases.{or_either, or_false}
use Rattle.links.specs.declared.Place.{Place}
use Rattle.links.specs.Links.{F, R, holds, in_f, in_r}
use Rattle.sessions.specs.Set.{cut, has, put}
use Rattle.sessions.proofs.Members.{cut_le, has_cut_other, has_cut_same, has_put_other, has_put_same, has_zero, is_in, is_out, put_lt, same_members}
use Rattle.soundness.specs.Sound.{Held}

pub holds_held : (p : Place) (s : ℕ) → holds p s ≡ true → Held p s
holds_held p s e = go (or_either (in_r p s) (in_f p s) e)
  where
    go : (in_r p s ≡ true) ⊎ (in_f p s ≡ true) → Held p s
    go (inl h) = record { some = omega (arith, is_in (R p) s h) }
    go (inr h) = record { some = omega (arith, is_in (F p) s h) }

pub not_held : (p : Place) (s : ℕ) → holds p s ≡ false → (has s (R p) ≡ 0) × (has s (F p) ≡ 0)
not_held p s e =
    let h = or_false (in_r p s) (in_f p s) e in
    (is_out (R p) s h.0, is_out (F p) s h.1)

pub held_holds : (p : Place) (s : ℕ) → Held p s → holds p s ≡ true
held_holds p s h = go (holds p s) refl
  where
    go : (b : Bool) → holds p s ≡ b → b ≡ true
    go true e = refl
    go false e = let n = not_held p s e in absurd (omega (arith, h.some, n.0, n.1))

-- a link whose R and F are empty holds nobody
pub nobody_held : (p : Place) → R p ≡ 0 → F p ≡ 0 → (s : ℕ) → Held p s → ⊥
nobody_held p r f s h = omega (arith, h.some, ap (has s) r, ap (has s) f, has_zero s)

-- a session that is in one of two words goes to the second: who is in one of them stays so
pub move_all : (r f s t : ℕ) → has s r + has s f ≡ 1 → has t (cut s r) + has t (put s f) ≡ has t r + has t f
move_all r f s t h = go (ℕ_discrete s t)
  where
    go : Dec (s ≡ t) → has t (cut s r) + has t (put s f) ≡ has t r + has t f
    go (yes q) = rw (sym q) (omega (arith, has_cut_same s r, has_put_same s f))
    go (no n) = omega (arith, has_cut_other s t r n, has_put_other s t f n)

-- put where it is already, and cut where it is not
pub put_again : (s w : ℕ) → s < 32 → w < 2 ^ 32 → has s w ≡ 1 → put s w ≡ w
put_again s w l h e = same_members 32 (put s w) w (put_lt 32 s w l h) h (λ t i. go t (ℕ_discrete s t))
  where
    go : (t : ℕ) → Dec (s ≡ t) → has t (put s w) ≡ has t w
    go t (yes q) = rw (sym q) (has_put_same s w ∙ sym e)
    go t (no n) = has_put_other s t w n

pub cut_again : (s w : ℕ) → w < 2 ^ 32 → has s w ≡ 0 → cut s w ≡ w
cut_again s w h e = same_members 32 (cut s w) w (omega (arith, cut_le s w)) h (λ t i. go t (ℕ_discrete s t))
  where
    go : (t : ℕ) → Dec (s ≡ t) → has t (cut s w) ≡ has t w
    go t (yes q) = rw (sym q) (has_cut_same s w ∙ sym e)
    go t (no n) = has_cut_other s t w n
