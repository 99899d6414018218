-- A link's share: k shares and what is taken come to the capacity; its denominator divides k times a common denominator; when it is too fine.
-- Assumes nothing.
use mathlib.Core.Path.{◌≡◌, ap, subst, ◌∙◌}
use borrow.Author.Tests.{leb-true, leb-false}
use Prim.Native.Nat.{ℕ, ◌+◌, ◌-◌, ◌*◌, ◌≤◌, ◌<◌, ◌∣◌}
use native.Mathlib.Nat.{dvd_trans, le_of_mul-le-mul_right, mul-dvd-mul_right, mul-le-mul_left, mul-le-mul_right, mul-pos}
use native.Mathlib.Omega.{arith}
use Rattle.fractions.specs.Fraction.{Lowest, Within, max_den, frac, whole_of, fine_of, lowest_of, add_of, times_of, each_of, share_of, too_fine}
use Rattle.std.specs.Prelude.{Ok, Err}
use Rattle.fractions.specs.declared.Rate.{Rate}
use Rattle.fractions.proofs.Cases.{chose_first, chose_second}
use Rattle.fractions.proofs.Order.{same_trans}
use Rattle.fractions.proofs.LowestTerms.{lowest_den, lowest_same, lowest_pos, lowest_lowest, lowest_cong, lowest_id, den_divides, whole_lowest}
use Rattle.fractions.proofs.Additions.{add_comm, add_cong}

room : (c d n k : ℕ) → 0 < k → c * d - n ≤ c * d * k
room c d n k h = omega (arith, mul-le-mul_left (c * d) h)

pub share_lowest : (c : ℕ) (t : Rate) (k : ℕ) → 0 < t.den → 0 < k → Lowest (each_of c t k)
unfolding each_of
share_lowest c t k ht hk = lowest_lowest (c * t.den - t.num) (t.den * k) (mul-pos ht hk)

-- k shares come to what is left
times_share : (c : ℕ) (t : Rate) (k : ℕ) → 0 < t.den → 0 < k
    → times_of k (each_of c t k) ≡ lowest_of (c * t.den - t.num) t.den
unfolding times_of each_of
times_share c t k ht hk =
    let N = c * t.den - t.num in
    let D = t.den * k in
    let p = each_of c t k in
    lowest_cong (lowest_pos N D (mul-pos ht hk)) ht
    (same_trans {a = frac (k * p.num) p.den} {b = frac (k * N) D} {c = frac N t.den} (mul-pos ht hk)
    (record { cross = omega (arith, ap (λ (x : ℕ). x * k) (lowest_same N D).cross) })
    (record { cross = omega arith }))

-- k shares and what is taken come to the capacity
pub share_back : (c : ℕ) (t : Rate) (k : ℕ) → 0 < t.den → 0 < k → t.num ≤ c * t.den
    → add_of t (times_of k (each_of c t k)) ≡ whole_of c
unfolding add_of
share_back c t k ht hk h =
    let N = c * t.den - t.num in
    let e : N + t.num ≡ c * t.den = omega arith in
    ap (add_of t) (times_share c t k ht hk)
    ∙ (add_comm t (lowest_of N t.den)
    ∙ (add_cong t (lowest_pos N t.den ht) ht ht (lowest_same N t.den)
    ∙ (lowest_cong (mul-pos ht ht) (omega arith) (record { cross = omega (arith, ap (λ (x : ℕ). x * t.den) e) })
    ∙ lowest_id (whole_lowest c))))

-- a share's denominator divides the common denominator times the count
pub share_den : (c : ℕ) (t : Rate) (k N : ℕ) → 0 < t.den → 0 < k → t.den ∣ N → (each_of c t k).den ∣ N * k
unfolding each_of
share_den c t k N ht hk p =
    dvd_trans _
    (den_divides (c * t.den - t.num) (t.den * k) (share_lowest c t k ht hk) (lowest_same _ _))
    (mul-dvd-mul_right _ p k)

-- and is no greater than before it was put into lowest terms
pub share_den_most : (c : ℕ) (t : Rate) (k : ℕ) → 0 < t.den → 0 < k → (each_of c t k).den ≤ t.den * k
unfolding each_of
share_den_most c t k ht hk =
    let N = c * t.den - t.num in
    lowest_den N (t.den * k) (mul-pos ht hk) (share_lowest c t k ht hk) (lowest_same N (t.den * k))

-- a share that comes back as a rate is the share, no more than the capacity
pub share_within : (c : ℕ) (t : Rate) (k : ℕ) {s : Rate} → 0 < t.den → 0 < k → share_of c t k ≡ Ok s
    → (each_of c t k ≡ s) × Within c s
unfolding share_of each_of
share_within c t k {s} ht hk e =
    let p = chose_first (fine_of (each_of c t k)) e (λ q. let z : ◌≡◌ {A = ℕ} 0 1 = cc in omega arith) in
    let q : each_of c t k ≡ s = cc in
    let N = c * t.den - t.num in
    let hD = mul-pos ht hk in
    let le : (each_of c t k).num * (t.den * k) ≤ c * (each_of c t k).den * (t.den * k) =
    omega (arith, (lowest_same N (t.den * k)).cross, mul-le-mul_right (each_of c t k).den (room c t.den t.num k hk)) in
    (q, subst (Within c) q (record { lowest = share_lowest c t k ht hk; den = leb-true _ _ p.0; num = le_of_mul-le-mul_right {k = t.den * k} le hD }))

-- and one that does not is too fine
pub share_too_fine : (c : ℕ) (t : Rate) (k : ℕ) → share_of c t k ≡ Err too_fine → max_den < (each_of c t k).den
unfolding share_of
share_too_fine c t k e =
    leb-false _ _ (chose_second (Err too_fine) (fine_of (each_of c t k)) e (λ q. let z : ◌≡◌ {A = ℕ} 0 1 = cc in omega arith))

-- over a denominator that is not reduced
pub share_over : (c l N k : ℕ) → 0 < N → 0 < k → l ≤ N * c → each_of c (lowest_of l N) k ≡ lowest_of (N * c - l) (N * k)
unfolding each_of
share_over c l N k hN hk h =
    let t = lowest_of l N in
    let same = (lowest_same l N).cross in
    let ht = lowest_pos l N hN in
    let le : t.num ≤ c * t.den = le_of_mul-le-mul_right {k = N} (omega (arith, same, mul-le-mul_right t.den h)) hN in
    let a : c * t.den - t.num + t.num ≡ c * t.den = omega arith in
    let b : N * c - l + l ≡ N * c = omega arith in
    lowest_cong (mul-pos ht hk) (mul-pos hN hk)
    (record { cross = omega (arith, same, ap (λ (x : ℕ). x * (N * k)) a, ap (λ (x : ℕ). x * (t.den * k)) b, ap (λ (x : ℕ). x * k) same) })
