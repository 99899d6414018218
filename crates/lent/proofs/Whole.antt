-- What is worked out on the first 32 places of a slice, put back into the slice, and where it is refused, the slice again.
-- Assumes nothing.
use Rattle.std.proofs.Common.{◌≡◌, ◌∙◌, ◌≤◌, ◌++◌, Err, List, Ok, Result, ap, drop, length, refl, sym, take}
use lib.ListN.{take-append-drop}
use borrow.Author.Tests.{le-ltb}
use Rattle.links.specs.declared.Entry.{Entry}
use Rattle.links.specs.declared.Link.{Link}
use Rattle.links.specs.declared.Place.{Place}
use Rattle.records.specs.declared.Refusal.{Refusal}
use Rattle.lent.specs.Lent.{lent_of, place_of}

module _ {A : Type 0} (of : Place → Result (Place × A) Refusal) (l : Link) (own es : List Entry) (y : Result (Place × A) Refusal) where
  pub refused_back : (answer : Result A Refusal) (r : Refusal)
      → 32 ≤ length es
      → own ≡ take 32 es
      → y ≡ of (place_of l own)
      → y ≡ Err r
      → answer ≡ Err r
      → (answer ≡ (lent_of of l es).answer) × (l ≡ (lent_of of l es).link) × (own ++ drop 32 es ≡ (lent_of of l es).entries)
  unfolding lent_of
  refused_back answer r n o d t e =
      let z : of (place_of l (take 32 es)) ≡ Err r = ap (λ (xs : List Entry). of (place_of l xs)) (sym o) ∙ sym d ∙ t in
      rw (e, o, le-ltb _ _ n, z) (refl, refl, take-append-drop 32 es)

  pub given_back : (next : Place) (x : A) (new : List Entry)
      → 32 ≤ length es
      → own ≡ take 32 es
      → y ≡ of (place_of l own)
      → y ≡ Ok (next, x)
      → new ≡ next.entries
      → (Ok x ≡ (lent_of of l es).answer) × (next.link ≡ (lent_of of l es).link) × (new ++ drop 32 es ≡ (lent_of of l es).entries)
  unfolding lent_of
  given_back next x new n o d t e =
      let z : of (place_of l (take 32 es)) ≡ Ok (next, x) = ap (λ (xs : List Entry). of (place_of l xs)) (sym o) ∙ sym d ∙ t in
      rw (e, le-ltb _ _ n, z) (refl, refl, refl)
