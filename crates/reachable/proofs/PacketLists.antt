-- Some and every packet of a list: parts of lists, and lists put together.
-- Assumes nothing.
use mathlib.Core.List.{List, [], ◌∷◌, ◌++◌}
use mathlib.Core.Logic.{◌⊎◌, inl, inr}
use mathlib.Core.Path.{◌≡◌}
use Prim.Native.Nat.{ℕ, zero, suc, ◌<◌}
use native.Mathlib.Omega.{arith}
use lib.ListN.{get_or, length}
use Rattle.tasks.specs.declared.Packet.{Packet}
use Rattle.reachable.specs.Invariant.{Every, Some, also, here, later, none}

module _ {P : Packet → Type 0} where
  pub some_left : (xs ys : List Packet) → Some P xs → Some P (xs ++ ys)
  some_left [] ys u = elim u [ ]
  some_left (x ∷ xs) ys (here p) = here p
  some_left (x ∷ xs) ys (later u) = later (some_left xs ys u)

  pub some_right : (xs ys : List Packet) → Some P ys → Some P (xs ++ ys)
  some_right [] ys u = u
  some_right (x ∷ xs) ys u = later (some_right xs ys u)

  pub some_split : (xs ys : List Packet) → Some P (xs ++ ys) → Some P xs ⊎ Some P ys
  some_split [] ys u = inr u
  some_split (x ∷ xs) ys (here p) = inl (here p)
  some_split (x ∷ xs) ys (later u) = go (some_split xs ys u)
    where
      go : Some P xs ⊎ Some P ys → Some P (x ∷ xs) ⊎ Some P ys
      go (inl v) = inl (later v)
      go (inr v) = inr v

  pub some_first : (x : Packet) (xs : List Packet) → Some P (x ∷ xs) → P x ⊎ Some P xs
  some_first x xs (here p) = inl p
  some_first x xs (later u) = inr u

  pub every_append : (xs ys : List Packet) → Every P xs → Every P ys → Every P (xs ++ ys)
  every_append [] ys none v = v
  every_append (x ∷ xs) ys (also p u) v = also p (every_append xs ys u v)

  pub every_left : (xs ys : List Packet) → Every P (xs ++ ys) → Every P xs
  every_left [] ys v = none
  every_left (x ∷ xs) ys (also p u) = also p (every_left xs ys u)

  pub every_right : (xs ys : List Packet) → Every P (xs ++ ys) → Every P ys
  every_right [] ys v = v
  every_right (x ∷ xs) ys (also p u) = every_right xs ys u

  pub every_rest : {x : Packet} {xs : List Packet} → Every P (x ∷ xs) → Every P xs
  every_rest (also p u) = u

  -- all but one
  pub every_without : (xs : List Packet) (x : Packet) (ys : List Packet) → Every P (xs ++ x ∷ ys) → Every P (xs ++ ys)
  every_without [] x ys (also p u) = u
  every_without (y ∷ xs) x ys (also p u) = also p (every_without xs x ys u)

  pub no_packet : (xs : List Packet) → length xs ≡ 0 → Some P xs → ⊥
  no_packet [] e u = elim u [ ]
  no_packet (x ∷ xs) e (here p) = omega arith
  no_packet (x ∷ xs) e (later u) = omega arith

  -- what no packet is, none of them is
  pub none_some : (xs : List Packet) → Every (λ q. P q → ⊥) xs → Some P xs → ⊥
  none_some [] v u = elim u [ ]
  none_some (x ∷ xs) (also n u) (here p) = n p
  none_some (x ∷ xs) (also n u) (later v) = none_some xs u v

-- packets by their places
module _ {P : Packet → Type 0} (z : Packet) where
  pub every_index : (xs : List Packet) → ((j : ℕ) → j < length xs → P (get_or xs j z)) → Every P xs
  every_index [] f = none
  every_index (x ∷ xs) f = also (f 0 (omega arith)) (every_index xs (λ j l. f (suc j) (omega arith)))

  pub every_at : (xs : List Packet) (j : ℕ) → j < length xs → Every P xs → P (get_or xs j z)
  every_at [] j l none = absurd (omega arith)
  every_at (x ∷ xs) zero l (also p u) = p
  every_at (x ∷ xs) (suc j) l (also p u) = every_at xs j (omega arith) u

  pub some_index : (xs : List Packet) (j : ℕ) → j < length xs → P (get_or xs j z) → Some P xs
  some_index [] j l p = absurd (omega arith)
  some_index (x ∷ xs) zero l p = here p
  some_index (x ∷ xs) (suc j) l p = later (some_index xs j (omega arith) p)

  pub some_at : (xs : List Packet) → Some P xs → (j : ℕ) × (j < length xs) × P (get_or xs j z)
  some_at [] u = elim u [ ]
  some_at (x ∷ xs) (here p) = (0, omega arith, p)
  some_at (x ∷ xs) (later u) = let r = some_at xs u in (suc r.0, omega (arith, r.1), r.2)

module _ {P Q : Packet → Type 0} where
  pub every_both : (xs : List Packet) → Every P xs → Every Q xs → Every (λ q. P q × Q q) xs
  every_both [] none none = none
  every_both (x ∷ xs) (also a b) (also c d) = also (a, c) (every_both xs b d)

  pub every_map : (xs : List Packet) → ((q : Packet) → P q → Q q) → Every P xs → Every Q xs
  every_map [] f none = none
  every_map (x ∷ xs) f (also p u) = also (f x p) (every_map xs f u)

  pub some_map : (xs : List Packet) → ((q : Packet) → P q → Q q) → Some P xs → Some Q xs
  some_map [] f u = elim u [ ]
  some_map (x ∷ xs) f (here p) = here (f x p)
  some_map (x ∷ xs) f (later u) = later (some_map xs f u)
