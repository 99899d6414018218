-- An array that `from_fn` makes by a closure that computes h of the place.
-- Assumes nothing.
use mathlib.Core.List.{List, map}
use mathlib.Core.Path.{◌≡◌, ap, subst, sym, ◌∙◌}
use Prim.Native.Nat.{ℕ, zero, suc, ◌+◌, ◌<◌}
use native.Mathlib.Omega.{arith}
use denote.Param.Members.{Mut, Called}
use lib.ListN.{get_or}
use Rattle.std.specs.Array.{IsFromFnResult, IsFromFnResultFrom}
use Rattle.std.specs.List.{range_with_len}
use Rattle.std.proofs.lemmas.List.{same_lists}
use Rattle.std.proofs.lemmas.List.FromFn.{get_or-map-range_with_len, length-map-range_with_len}

module _ {F B : Type 0} {g : Mut F (ℕ × Unit {0}) B} (h : ℕ → B) (f : F) (ys : List B) where
  from : (n i : ℕ) (p : F)
      → ((k : ℕ) (y : B) (q : F) → Called g f (k, tt) y q → (q ≡ f) × (y ≡ h k))
      → p ≡ f
      → IsFromFnResultFrom g p ys i n
      → (k : ℕ) (d : B) → k < n → get_or ys (i + k) d ≡ h (i + k)
  from zero i p calls e r k d l = absurd (omega arith)
  from (suc n) i p calls e r zero d l =
      let q : i + 0 ≡ i = omega arith in
      let t = calls i r.1 r.0 (subst (λ (z : F). Called g z (i, tt) r.1 r.0) e r.3) in
      ap (λ (k : ℕ). get_or ys k d) q ∙ r.2.1 d ∙ t.1 ∙ ap h (sym q)
  from (suc n) i p calls e r (suc k) d l =
      let q : i + suc k ≡ i + 1 + k = omega arith in
      let t = calls i r.1 r.0 (subst (λ (z : F). Called g z (i, tt) r.1 r.0) e r.3) in
      ap (λ (j : ℕ). get_or ys j d) q ∙ from n (i + 1) r.0 calls t.0 r.4 k d (omega arith) ∙ ap h (sym q)

  pub made_at : (n : ℕ) → IsFromFnResult g f ys n → ((k : ℕ) (y : B) (q : F) → Called g f (k, tt) y q → (q ≡ f) × (y ≡ h k)) → (k : ℕ) (d : B) → k < n → get_or ys k d ≡ h k
  made_at n r calls k d l =
      let q : 0 + k ≡ k = omega arith in
      ap (λ (j : ℕ). get_or ys j d) (sym q) ∙ from n 0 f calls (λ i. f) r.each k d l ∙ ap h q

  pub made : (n : ℕ) → IsFromFnResult g f ys n → ((k : ℕ) (y : B) (q : F) → Called g f (k, tt) y q → (q ≡ f) × (y ≡ h k)) → ys ≡ map h (range_with_len 0 n)
  made n r calls =
      same_lists ys (map h (range_with_len 0 n)) (r.long ∙ sym (length-map-range_with_len h 0 n))
      (λ k d l. made_at n r calls k d (omega (arith, r.long)) ∙ sym (get_or-map-range_with_len h 0 n k k d (omega (arith, r.long)) (omega arith)))
