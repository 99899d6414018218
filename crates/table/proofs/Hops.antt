-- The hop of a link on a path: the place that it counts to, and that there is none where it is 0.
-- Assumes nothing.
use mathlib.Core.List.{List, [], ◌∷◌}
use mathlib.Core.Logic.{◌⊎◌, inl, inr, ⊎_elim}
use mathlib.Core.Path.{◌≡◌, refl, sym, ◌∙◌}
use Prim.Native.Nat.{ℕ, zero, suc, ◌+◌, ◌≤◌, ◌<◌}
use native.Mathlib.Omega.{arith}
use borrow.Author.Tests.{eq-eqb, eqb-false, eqb-true, ne_eqb}
use lib.Dec.{eqb}
use lib.ListN.{get_or, length}
use Rattle.fractions.proofs.Cases.{cases}
use Rattle.table.specs.Words.{hop_from, hop_of, hops_of, path_of, stop_of}
use Rattle.table.proofs.InRange.{hops_most, path_length, path_stop}

-- ON A LIST -----------------------------------------------------------------------------------------------------------

pub hop_from_below : (h : ℕ) (l : List ℕ) (e : ℕ) → 0 < h → hop_from h l e < h + length l
unfolding hop_from
hop_from_below h [] e g = omega arith
hop_from_below h (x ∷ l) e g =
    cases
    (λ (n : ℕ). n < h + suc (length l))
    (eqb x e)
    h
    (hop_from (suc h) l e)
    (λ q. omega arith)
    (λ q. omega (arith, hop_from_below (suc h) l e (omega arith)))

-- 0, or counted from h on
hop_from_or : (h : ℕ) (l : List ℕ) (e : ℕ) → (hop_from h l e ≡ 0) ⊎ (h ≤ hop_from h l e)
unfolding hop_from
hop_from_or h [] e = inl refl
hop_from_or h (x ∷ l) e =
    cases
    (λ (n : ℕ). (n ≡ 0) ⊎ (h ≤ n))
    (eqb x e)
    h
    (hop_from (suc h) l e)
    (λ q. inr (omega arith))
    (λ q. ⊎_elim (λ a. inl a) (λ a. inr (omega arith)) (hop_from_or (suc h) l e))

pub hop_from_at : (h : ℕ) (l : List ℕ) (e k z : ℕ)
    → 0 < h
    → hop_from h l e ≡ h + k
    → (k < length l) × (get_or l k z ≡ e)
unfolding hop_from
hop_from_at h [] e k z g q = absurd (omega arith)
hop_from_at h (x ∷ l) e zero z g q =
    cases
    (λ (n : ℕ). n ≡ h + 0 → (0 < suc (length l)) × (x ≡ e))
    (eqb x e)
    h
    (hop_from (suc h) l e)
    (λ t r. (omega arith, eqb-true x e t))
    (λ t r. ⊎_elim (λ a. absurd (omega arith)) (λ a. absurd (omega arith)) (hop_from_or (suc h) l e))
    q
hop_from_at h (x ∷ l) e (suc k) z g q =
    cases
    (λ (n : ℕ). n ≡ h + suc k → (suc k < suc (length l)) × (get_or l k z ≡ e))
    (eqb x e)
    h
    (hop_from (suc h) l e)
    (λ t r. absurd (omega arith))
    (λ t r.
    let a : suc h + k ≡ h + suc k = omega arith in
    let p = hop_from_at (suc h) l e k z (omega arith) (r ∙ sym a) in
    (omega (arith, p.0), p.1))
    q

pub hop_from_none : (h : ℕ) (l : List ℕ) (e i z : ℕ) → 0 < h → hop_from h l e ≡ 0 → i < length l → get_or l i z ≡ e → ⊥
unfolding hop_from
hop_from_none h [] e i z g q m = absurd (omega arith)
hop_from_none h (x ∷ l) e zero z g q m =
    cases
    (λ (n : ℕ). n ≡ 0 → x ≡ e → ⊥)
    (eqb x e)
    h
    (hop_from (suc h) l e)
    (λ t r. absurd (omega arith))
    (λ t r. eqb-false x e t)
    q
hop_from_none h (x ∷ l) e (suc i) z g q m =
    cases
    (λ (n : ℕ). n ≡ 0 → get_or l i z ≡ e → ⊥)
    (eqb x e)
    h
    (hop_from (suc h) l e)
    (λ t r. absurd (omega arith))
    (λ t r. hop_from_none (suc h) l e i z (omega arith) r (omega arith))
    q

-- where none before it is the same, the place of a link is the one counted
pub hop_from_first : (h : ℕ) (l : List ℕ) (i z : ℕ)
    → i < length l
    → ((j : ℕ) → j < i → get_or l j z ≡ get_or l i z → ⊥)
    → hop_from h l (get_or l i z) ≡ h + i
unfolding hop_from
hop_from_first h [] i z m n = absurd (omega arith)
hop_from_first h (x ∷ l) zero z m n = rw (eq-eqb x x refl) (omega arith)
hop_from_first h (x ∷ l) (suc i) z m n =
    let a : suc h + i ≡ h + suc i = omega arith in
    rw
    (ne_eqb x (get_or l i z) (n 0 (omega arith)))
    (hop_from_first (suc h) l i z (omega arith) (λ j k. n (suc j) (omega arith)) ∙ a)

-- ON A PATH -----------------------------------------------------------------------------------------------------------

pub hop_of_most : (w : List ℕ) (s e : ℕ) → hop_of w s e ≤ 8
hop_of_most w s e = omega (arith, hop_from_below 1 (path_of w s) e (omega arith), path_length w s, hops_most w s)

pub hop_of_stop : (w : List ℕ) (s e i : ℕ) → hop_of w s e ≡ suc i → (i < hops_of w s) × (stop_of w s i ≡ e)
hop_of_stop w s e i q =
    let a : suc i ≡ 1 + i = omega arith in
    let p = hop_from_at 1 (path_of w s) e i 0 (omega arith) (q ∙ a) in
    let l : i < hops_of w s = omega (arith, p.0, path_length w s) in
    (l, sym (path_stop w s i 0 l) ∙ p.1)

pub hop_of_none : (w : List ℕ) (s e i : ℕ) → hop_of w s e ≡ 0 → i < hops_of w s → stop_of w s i ≡ e → ⊥
hop_of_none w s e i q l r =
    hop_from_none 1 (path_of w s) e i 0 (omega arith) q (omega (arith, path_length w s)) (path_stop w s i 0 l ∙ r)
