-- Who is chosen of a set by what is asked of an entry: the members whose entries meet it, and nobody else.
-- Assumes nothing.
use mathlib.Core.Bool.{Bool, cond, true}
use mathlib.Core.List.{List}
use mathlib.Core.Logic.{◌⊎◌, inl, inr}
use mathlib.Core.Path.{◌≡◌, refl, subst, sym, ◌∙◌}
use Prim.Native.Nat.{ℕ, ◌+◌, ◌^◌, ◌≤◌, ◌<◌}
use lib.Dec.{eqb, lit≤}
use lib.ListN.{get_or}
use native.Mathlib.Decide.{ℕ_discrete}
use native.Mathlib.Omega.{arith}
use borrow.Author.Tests.{eq-eqb, ne_eqb}
use Rattle.fairness.specs.Sum.{part}
use Rattle.fractions.proofs.Cases.{cases}
use Rattle.links.specs.declared.Entry.{Entry}
use Rattle.links.specs.Links.{add_if, no_entry, those_of}
use Rattle.records.proofs.Somes.{clash}
use Rattle.sessions.specs.Set.{has, put}
use Rattle.sessions.proofs.Members.{has_lt, has_or_not, has_put_other, has_put_same, has_zero, put_lt}
use Rattle.sessions.proofs.Walks.{walk_keeps}
use Rattle.soundness.proofs.Weights.{walk_adds, weight_at}

module _ (a : Entry → Bool) (es : List Entry) where
  abbrev meets : ℕ → Bool
  meets s = a (get_or es s no_entry)

  -- one member asked: what becomes of another, and of itself
  add_other : (w s j : ℕ) → (j ≡ s → ⊥) → has s (add_if a es w j) ≡ has s w
  add_other w s j n = cases (λ (v : ℕ). has s v ≡ has s w) (meets j) (put j w) w (λ e. has_put_other j s w n) (λ e. refl)

  pub those_lt : (w : ℕ) → those_of a es w < 2 ^ 32
  unfolding those_of
  those_lt w =
      walk_keeps (λ v. v < 2 ^ 32) (add_if a es) 32 w
      (λ v s l h. cases (λ (u : ℕ). u < 2 ^ 32) (meets s) (put s v) v (λ e. put_lt 32 s v l h) (λ e. h))
      0 (lit≤ tt)

  -- nobody who is no member, or whose entry does not meet it
  pub those_out : (w s : ℕ) → (has s w ≡ 1 → meets s ≡ true → ⊥) → has s (those_of a es w) ≡ 0
  unfolding those_of
  those_out w s n = walk_adds (λ v m. has s v ≡ 0) (add_if a es) (λ j. 0) w (λ j l h v m e. go j h v e (ℕ_discrete j s)) 0 0 (has_zero s)
    where
      go : (j : ℕ) → has j w ≡ 1 → (v : ℕ) → has s v ≡ 0 → Dec (j ≡ s) → has s (add_if a es v j) ≡ 0
      go j h v e (yes q) =
          rw q
          (cases (λ (u : ℕ). has s u ≡ 0) (meets s) (put s v) v (λ f. absurd (n (subst (λ (i : ℕ). has i w ≡ 1) q h) f)) (λ f. e))
      go j h v e (no q) = add_other v s j q ∙ e

  -- every member whose entry meets it
  those_in : (w s : ℕ) → s < 32 → has s w ≡ 1 → meets s ≡ true → has s (those_of a es w) ≡ 1
  unfolding those_of
  those_in w s l h f =
      walk_adds (λ v m. 0 < m → has s v ≡ 1) (add_if a es) times w (λ j k i v m e. go j v m e (ℕ_discrete j s)) 0 0 (λ k. absurd (omega arith))
      (omega (arith, weight_at w s times l h, once))
    where
      times : ℕ → ℕ
      times j = part (eqb j s) 1

      once : times s ≡ 1
      once = rw (eq-eqb s s refl) refl

      go : (j v m : ℕ) → (0 < m → has s v ≡ 1) → Dec (j ≡ s) → 0 < m + times j → has s (add_if a es v j) ≡ 1
      go j v m e (yes q) k = rw (q, f) (has_put_same s v)
      go j v m e (no q) k =
          let z : times j ≡ 0 = rw (ne_eqb j s q) refl in
          add_other v s j q ∙ e (omega (arith, z))

  pub has_those : (w s : ℕ) → s < 32 → has s (those_of a es w) ≡ cond (meets s) (has s w) 0
  has_those w s l =
      cases (λ (d : ℕ). has s (those_of a es w) ≡ d) (meets s) (has s w) 0
      (λ e. go e (has_or_not s w))
      (λ e. those_out w s (λ h f. clash (meets s) f e))
    where
      go : meets s ≡ true → (has s w ≡ 0) ⊎ (has s w ≡ 1) → has s (those_of a es w) ≡ has s w
      go e (inl h) = those_out w s (λ k f. omega arith) ∙ sym h
      go e (inr h) = those_in w s l h e ∙ sym h

  pub has_those_le : (w s : ℕ) → has s (those_of a es w) ≤ has s w
  has_those_le w s = go (has_or_not s w)
    where
      go : (has s w ≡ 0) ⊎ (has s w ≡ 1) → has s (those_of a es w) ≤ has s w
      go (inl h) = omega (arith, those_out w s (λ k f. omega arith))
      go (inr h) = omega (arith, has_lt s (those_of a es w))
