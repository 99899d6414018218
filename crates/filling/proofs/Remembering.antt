-- The session that a link remembers as the one that was fixed last there: where nobody leaves, where more sessions may have left than did, and where
-- some leave after others.
-- Assumes nothing.
use mathlib.Core.Logic.{inl, inr}
use mathlib.Core.Path.{◌≡◌, refl, subst, sym, ◌∙◌}
use Prim.Native.Nat.{ℕ, ◌<◌, ◌≤◌}
use native.Mathlib.Omega.{arith}
use lib.ListN.{get_or}
use Rattle.sessions.specs.Set.{has}
use Rattle.sessions.proofs.Members.{has_lt}
use Rattle.filling.specs.OneRound.{Remembered, Remembers}
use Rattle.filling.specs.declared.Links.{Links}

pub remembers_none : (These : ℕ → Type 0) (k : Links) → Remembers These k k
remembers_none These k e h = inl (refl, λ q. q)

module _ (These Those : ℕ → Type 0) (f : (t : ℕ) → These t → Those t) where
  more : (w l v m : ℕ) → Remembered These w l v m → Remembered Those w l v m
  more w l v m (inl q) = inl q
  more w l v m (inr q) = inr (f m q.0, q.1)

  pub remembers_more : (k r : Links) → Remembers These k r → Remembers Those k r
  remembers_more k r a e h = more _ _ _ _ (a e h)

module _ (These : ℕ → Type 0) where
  then : (w l v m u n : ℕ) → ((t : ℕ) → has t v ≤ has t w) → Remembered These w l v m → Remembered These v m u n → Remembered These w l u n
  then w l v m u n fewer (inl x) (inl y) = inl (y.0 ∙ x.0, λ q. x.1 (y.1 q))
  then w l v m u n fewer (inr x) (inl y) = inr (subst (λ (t : ℕ). These t × (has t w ≡ 1)) (sym y.0) x)
  then w l v m u n fewer x (inr y) = inr (y.0, omega (arith, y.1, fewer n, has_lt n w))

  pub remembers_then : (k m r : Links) → ((e : ℕ) → e < 64 → (t : ℕ) → has t (get_or m.at e 0) ≤ has t (get_or k.at e 0))
      → Remembers These k m → Remembers These m r → Remembers These k r
  remembers_then k m r fewer a b e h = then _ _ _ _ _ _ (fewer e h) (a e h) (b e h)
