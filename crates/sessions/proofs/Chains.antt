-- What `all` of the members of a word, `sessions::each(w).all(..)`, answers: true where the closure says true of each, and false where it says false of one.
-- Assumes nothing.
use denote.Param.Members.{Mut, Called}
use mathlib.Core.Bool.{Bool, false, true}
use mathlib.Core.List.{List, [], ◌∷◌}
use mathlib.Core.Path.{◌≡◌, sym, ap, subst, ◌∙◌}
use Prim.Native.Nat.{ℕ, ◌≤◌, ◌<◌}
use native.Mathlib.Decide.{ℕ_discrete}
use native.Mathlib.Omega.{arith}
use Rattle.std.specs.Bool.{MatchBool}
use Rattle.std.specs.Iterator.{ChecksAll, Yields}
use Rattle.std.specs.List.{FoldsTo}
use Rattle.std.specs.Prelude.{Option, Some, None, MatchOption}
use Rattle.sessions.specs.declared.Rising.{Rising}
use Rattle.sessions.specs.Set.{has}
use Rattle.sessions.proofs.Loops.{Turn}
use Rattle.sessions.proofs.Members.{has_cut_le, has_cut_other, has_lt}
use Rattle.sessions.proofs.Walks.{nobody_has}

-- all members pass, or one fails
abbrev pub AllPass : ℕ → ℕ → (ℕ → Bool) → Bool → Type 0
AllPass k w P r = MatchBool r ((y : ℕ) → y < k → has y w ≡ 1 → P y ≡ true) ((y : ℕ) × (y < k) × (has y w ≡ 1) × (P y ≡ false))

-- a closure that is f at every call and answers as P
module _ {F : Type 0} (g : Mut F (ℕ × Unit {0}) Bool) (k : ℕ) (f : F) (P : ℕ → Bool)
    (acts : (x : ℕ) (b : Bool) (q : F) → Called g f (x, tt) b q → (q ≡ f) × (b ≡ P x)) where
  abbrev Yes : F → ℕ → F → Type 0
  Yes p x q = Called g p (x, tt) true q

  -- those that were taken pass, and those that are left were members
  taken_pass : (s t : Rising ℕ) (xs : List ℕ) (q : F) → Yields (Turn k) s xs t → FoldsTo Yes f xs q
      → (q ≡ f) × ((y : ℕ) → has y s.left ≡ 1 → has y t.left ≡ 0 → P y ≡ true) × ((y : ℕ) → has y t.left ≤ has y s.left)
  taken_pass s t [] q e h = (
    sym h,
    λ y i o. absurd (omega (arith, i, o, ap (λ (r : Rising ℕ). has y r.left) e)),
    λ y. omega (arith, ap (λ (r : Rising ℕ). has y r.left) e),
  )
  taken_pass s t (x ∷ xs) q (j, n, m) (p, c, r) =
      let a = acts x true p c in
      let rest = taken_pass j t xs q m (subst (λ (z : F). FoldsTo Yes z xs q) a.0 r) in
      (rest.0, λ y i o. go y i o a.1 rest.1 (ℕ_discrete x y), λ y. omega (arith, rest.2 y, ap (has y) n.3, has_cut_le y x s.left))
    where
      go : (y : ℕ) → has y s.left ≡ 1 → has y t.left ≡ 0 → true ≡ P x
          → ((z : ℕ) → has z j.left ≡ 1 → has z t.left ≡ 0 → P z ≡ true) → Dec (x ≡ y) → P y ≡ true
      go y i o b later (yes e) = subst (λ (z : ℕ). P z ≡ true) e (sym b)
      go y i o b later (no d) = later y (ap (has y) n.3 ∙ has_cut_other x y s.left d ∙ i) o

  checks : (s t u : Rising ℕ) (xs : List ℕ) (o : Option ℕ) (q : F) (r : Bool) → Yields (Turn k) s xs t → Turn k t o u → FoldsTo Yes f xs q
      → MatchOption o (r ≡ true) (λ x. (r ≡ false) × ((h : F) × Called g q (x, tt) false h)) → AllPass k s.left P r
  checks s t u xs None q r y n c m =
      subst (AllPass k s.left P) (sym m) (λ x l i. (taken_pass s t xs q y c).1 x i (nobody_has k 0 t.left x n.0 l))
  checks s t u xs (Some x) q r y n c (m, (h, b)) =
      let before = taken_pass s t xs q y c in
      subst (AllPass k s.left P) (sym m) (
        x,
        n.1,
        omega (arith, n.2, before.2 x, has_lt x s.left),
        sym (acts x false h (subst (λ (z : F). Called g z (x, tt) false h) before.0 b)).1,
      )

  pub all_members : (w : ℕ) (s u : Rising ℕ) (r : Bool) → s.left ≡ w → ChecksAll (Turn k) g s f r u → AllPass k w P r
  all_members w s u r e (xs, o, q, (t, y, n), c, m) = subst (λ (v : ℕ). AllPass k v P r) e (checks s t u xs o q r y n c m)
