-- A loop over the members of a word, `for s in sessions::each(w)`: what it makes of the members taken so far, and that at its end it has taken all.
-- Assumes nothing.
use mathlib.Core.List.{List, [], ◌∷◌, ◌++◌}
use mathlib.Core.Path.{◌≡◌, refl, sym, ap, ◌∙◌}
use Prim.Native.Nat.{ℕ}
use Rattle.std.specs.Iterator.{Yields}
use Rattle.std.specs.Prelude.{Option}
use Rattle.std.proofs.lemmas.List.{append-nil}
use Rattle.sessions.specs.declared.Rising.{Rising}
use Rattle.sessions.specs.Set.{GivesMember, members_from, walk}

module _ {S : Type 0} (step : S → ℕ → S) where
  -- one turn: s came, the step made x of a, and ys are left
  pub walk_next : (a : S) {x : S} {s : ℕ} {xs ys : List ℕ} → xs ≡ s ∷ ys → x ≡ step a s → walk step x ys ≡ walk step a xs
  unfolding walk
  walk_next a e f = rw (e, f)

  -- the end: nobody is left
  pub walk_last : (a : S) {xs : List ℕ} → xs ≡ [] → a ≡ walk step a xs
  unfolding walk
  walk_last a e = rw e

  -- the same as rules, and what was made of those taken: before the first
  pub walk_none : (a : S) → walk step a [] ≡ a
  unfolding walk
  walk_none a = refl

  -- of the first and the others
  pub walk_first : (a : S) (s : ℕ) (l : List ℕ) → walk step a (s ∷ l) ≡ walk step (step a s) l
  unfolding walk
  walk_first a s l = refl

  -- and with one more
  pub walk_more : (a : S) (xs : List ℕ) (s : ℕ) → walk step a (xs ++ s ∷ []) ≡ step (walk step a xs) s
  unfolding walk
  walk_more a [] s = refl
  walk_more a (x ∷ xs) s = walk_more (step a x) xs s

module _ (k : ℕ) where
  -- a turn of such a loop, on words of k digits
  abbrev pub Turn : Rising ℕ → Option ℕ → Rising ℕ → Type 0
  Turn s r t = GivesMember k s.left r t.left

  -- what was taken and what is left are the members
  pub taken : (s : Rising ℕ) (xs : List ℕ) (t : Rising ℕ) → Yields Turn s xs t → members_from k 0 s.left ≡ xs ++ members_from k 0 t.left
  taken s [] t e = ap (λ (x : Rising ℕ). members_from k 0 x.left) e
  taken s (x ∷ xs) t (j, h, m) = h.0 ∙ ap (λ (l : List ℕ). x ∷ l) (taken j xs t m)

  -- where none is left, the members were taken
  pub all_taken : (w : ℕ) (s : Rising ℕ) (xs : List ℕ) (t : Rising ℕ) → s.left ≡ w → Yields Turn s xs t → members_from k 0 t.left ≡ []
      → xs ≡ members_from k 0 w
  all_taken w s xs t e m h =
      sym (append-nil xs) ∙ ap (λ (l : List ℕ). xs ++ l) (sym h) ∙ sym (taken s xs t m) ∙ ap (members_from k 0) e

-- what the goals of a loop rest on whose invariant says that what is left comes to the whole: `walk step l.x (members l.s-iterator.left) ≡ ..`
pub ruleset over_members = (walk_none, walk_first)
