-- What refusal 6 asks of a path, byte by byte: n links, none twice, and 255 behind them; that such a path passes its test, and that paths of the same
-- bytes pass it alike.
-- Assumes nothing.
use mathlib.Core.Bool.{◌||◌, not, true}
use mathlib.Core.List.{List}
use mathlib.Core.Logic.{◌⊎◌, inl, inr}
use mathlib.Core.Path.{◌≡◌, ap, refl, subst, sym, ◌∙◌}
use Prim.Native.Nat.{ℕ, ◌+◌, ◌<◌, ◌≤◌}
use native.Mathlib.Omega.{arith}
use borrow.Author.Tests.{eq-eqb, eqb-false, eqb-true, le-leb, leb-true, lt-ltb, ltb-true, ne_eqb}
use lib.Dec.{T, eqb, leb, ltb}
use lib.ListN.{get_or}
use Rattle.fractions.proofs.Cases.{and_both, not_true, or_either, or_hit, order}
use Rattle.records.specs.Format.{differ, is_new, links_ok, path_ok, rest_ok}
use Rattle.records.proofs.Alls.{all_at, all_below, all_eq}

-- n links from a place of the bytes on: 1 to 8 of them, below 64, none twice; behind them 255
pub record Path (bytes : List ℕ) (at n : ℕ) : Type 0 where
  pub some : 0 < n
  pub most : n ≤ 8
  pub link : (i : ℕ) → i < n → get_or bytes (at + i) 0 < 64
  pub once : (i j : ℕ) → i < n → j < i → get_or bytes (at + j) 0 ≡ get_or bytes (at + i) 0 → ⊥
  pub rest : (i : ℕ) → i < 8 → n ≤ i → get_or bytes (at + i) 0 ≡ 255

pub path_is : (bytes : List ℕ) (at n : ℕ) → path_ok bytes at n ≡ true → Path bytes at n
unfolding path_ok links_ok differ is_new rest_ok
path_is bytes at n h =
    let a = and_both (ltb 0 n) _ h in
    let b = and_both (leb n 8) _ a.1 in
    let c = and_both (links_ok bytes at n) _ b.1 in
    let d = and_both (differ bytes at n) _ c.1 in
    record {
      some = ltb-true 0 n a.0;
      most = leb-true n 8 b.0;
      link = λ i l. ltb-true (get_or bytes (at + i) 0) 64 (all_at n (λ h. ltb (get_or bytes (at + h) 0) 64) i c.0 l);
      once = λ i j l k.
          eqb-false (get_or bytes (at + j) 0) (get_or bytes (at + i) 0)
          (not_true (eqb (get_or bytes (at + j) 0) (get_or bytes (at + i) 0))
          (all_at i (λ g. not (eqb (get_or bytes (at + g) 0) (get_or bytes (at + i) 0))) j (all_at n (λ h. is_new bytes at h (get_or bytes (at + h) 0)) i d.0 l) k));
      rest = λ i l k. rest i k (or_either _ _ (all_at 8 (λ h. ltb h n || eqb (get_or bytes (at + h) 0) 255) i d.1 l));
    }
  where
    rest : (i : ℕ) → n ≤ i → (ltb i n ≡ true) ⊎ (eqb (get_or bytes (at + i) 0) 255 ≡ true) → get_or bytes (at + i) 0 ≡ 255
    rest i k (inl q) = absurd (omega (arith, ltb-true i n q))
    rest i k (inr q) = eqb-true _ _ q

-- such a path passes
pub path_passes_lem : (bytes : List ℕ) (at n : ℕ) → Path bytes at n → path_ok bytes at n ≡ true
unfolding path_ok links_ok differ is_new rest_ok
path_passes_lem bytes at n p =
    rw (
      lt-ltb 0 n p.some,
      le-leb n 8 p.most,
      all_below n (λ h. ltb (get_or bytes (at + h) 0) 64) (λ h i. lt-ltb _ 64 (p.link h i)),
      all_below n (λ h. is_new bytes at h (get_or bytes (at + h) 0)) (λ h i. all_below h _ (λ g j. ap not (ne_eqb _ _ (p.once h g i j)))),
      all_below 8 (λ h. ltb h n || eqb (get_or bytes (at + h) 0) 255) (λ h i. behind h i (order n h)),
    )
    refl
  where
    behind : (h : ℕ) → h < 8 → (n ≤ h) ⊎ (h < n) → (ltb h n || eqb (get_or bytes (at + h) 0) 255) ≡ true
    behind h i (inr k) = rw (lt-ltb h n k) refl
    behind h i (inl k) = or_hit (ltb h n) _ (subst T (sym (eq-eqb _ 255 (p.rest h i k))) tt)

-- the test says the same of the same bytes at another place
pub path_same : (s : List ℕ) (at : ℕ) (l : List ℕ) (from : ℕ) → ((h : ℕ) → h < 8 → get_or s (at + h) 0 ≡ get_or l (from + h) 0)
    → (n : ℕ) → n ≤ 8 → path_ok s at n ≡ path_ok l from n
unfolding path_ok links_ok differ is_new rest_ok
path_same s at l from same n k =
    rw (
      all_eq n (λ h. ltb (get_or s (at + h) 0) 64) (λ h. ltb (get_or l (from + h) 0) 64) (λ h i. ap (λ (v : ℕ). ltb v 64) (same h (omega arith))),
      all_eq n (λ h. is_new s at h (get_or s (at + h) 0)) (λ h. is_new l from h (get_or l (from + h) 0)) (λ h i. new h (omega arith)),
      all_eq 8 (λ h. ltb h n || eqb (get_or s (at + h) 0) 255) (λ h. ltb h n || eqb (get_or l (from + h) 0) 255)
          (λ h i. ap (λ (v : ℕ). ltb h n || eqb v 255) (same h i)),
    )
    refl
  where
    new : (h : ℕ) → h < 8 → is_new s at h (get_or s (at + h) 0) ≡ is_new l from h (get_or l (from + h) 0)
    new h i =
        ap (is_new s at h) (same h i)
        ∙ all_eq h (λ g. not (eqb (get_or s (at + g) 0) (get_or l (from + h) 0))) (λ g. not (eqb (get_or l (from + g) 0) (get_or l (from + h) 0)))
        (λ g j. ap (λ (v : ℕ). not (eqb v (get_or l (from + h) 0))) (same g (omega arith)))
