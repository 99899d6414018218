-- Each statement of the search has one answer.
-- Assumes nothing.
use Rattle.std.specs.Prelude.{Option, None, Some}
use mathlib.Core.Logic.{◌⊎◌, inl, inr}
use mathlib.Core.List.{List}
use mathlib.Core.Path.{◌≡◌, refl, sym, ap, ◌∙◌}
use Prim.Native.Nat.{ℕ, ◌<◌}
use native.Mathlib.Decide.{dec_lt}
use native.Mathlib.Omega.{arith}
use Rattle.sessions.specs.Set.{has}
use Rattle.sessions.proofs.Members.{has_or_not, same_members}
use Rattle.search.specs.Crossing.{AllAt, FirstAt, IsFirst}

first_unique : (path : List ℕ) (left links q r : ℕ) → IsFirst path left links q → IsFirst path left links r → q ≡ r
first_unique path left links q r f g = go (dec_lt q r) (dec_lt r q)
  where
    go : Dec (q < r) → Dec (r < q) → q ≡ r
    go (yes l) k = absurd (g.none_before q l f.member f.hit)
    go (no n) (yes l) = absurd (f.none_before r l g.member g.hit)
    go (no n) (no m) = omega arith

pub first_at_unique : (path : List ℕ) (left links : ℕ) (q r : Option ℕ) → FirstAt path left links q → FirstAt path left links r → q ≡ r
first_at_unique path left links None None f g = refl
first_at_unique path left links None (Some r) f g = absurd (f r g.below g.member g.hit)
first_at_unique path left links (Some q) None f g = absurd (g q f.below f.member f.hit)
first_at_unique path left links (Some q) (Some r) f g = ap Some (first_unique path left links q r f g)

pub all_at_unique : (path : List ℕ) (opens links q r : ℕ) → AllAt path opens links q → AllAt path opens links r → q ≡ r
all_at_unique path opens links q r f g =
    same_members 32 q r (omega (arith, f.small)) (omega (arith, g.small)) (λ s h. go s h (has_or_not s q) (has_or_not s r))
  where
    there : (a b s : ℕ) → AllAt path opens links a → AllAt path opens links b → s < 32 → has s a ≡ 1 → has s b ≡ 1
    there a b s x y h p = let w = x.only s h p in y.every s h w.0 w.1

    go : (s : ℕ) → s < 32 → (has s q ≡ 0) ⊎ (has s q ≡ 1) → (has s r ≡ 0) ⊎ (has s r ≡ 1) → has s q ≡ has s r
    go s h (inl a) (inl b) = a ∙ sym b
    go s h (inr a) b = a ∙ sym (there q r s f g h a)
    go s h (inl a) (inr b) = there r q s g f h b ∙ sym b
