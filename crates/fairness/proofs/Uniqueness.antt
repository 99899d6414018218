-- Uniqueness: two max-min fair allocations give every session the same rate. By induction on x s * M + y s * N: they agree where both have little,
-- and so neither has more than the other where they have a little more. It needs nothing but the definition of max-min fair.
-- Assumes nothing.
use mathlib.Core.Logic.{◌⊎◌, inl, inr}
use mathlib.Core.Path.{◌≡◌, ap, refl, sym}
use Prim.Native.Nat.{ℕ, zero, suc, ◌*◌, ◌+◌, ◌≤◌, ◌<◌}
use native.Mathlib.Nat.{eq_of_mul-eq-mul_right, le_of_mul-le-mul_right, lt_of_mul-lt-mul_right, mul-le-mul_right, mul-lt-mul_of_pos_right}
use native.Mathlib.Omega.{arith}
use Rattle.fairness.specs.MaxMin.{Active, Lowered, MaxMinFair, Problem}
use Rattle.fairness.proofs.Nets.{Takes}
use Rattle.fractions.proofs.Cases.{order, pos_left}

-- over any set S of sessions: below k they agree, so at k nobody gains
climb : (S : ℕ → Type 0) (N : ℕ) (x : ℕ → ℕ) (M : ℕ) (y : ℕ → ℕ) → ((s : ℕ) → S s → x s * M < y s * N → Takes S (λ s. 1) N x M y s)
    → (k : ℕ) → ((t : ℕ) → S t → x t * M + y t * N < k → x t * M ≡ y t * N)
    → (s : ℕ) → S s → x s * M + y s * N ≤ k → x s * M < y s * N → ⊥
climb S N x M y fair k known s hs h l =
    let t = fair s hs l in
    let le : x t.from * M ≤ x s * M = mul-le-mul_right M (omega (arith, t.small)) in
    omega (arith, known t.from t.here (omega arith))

unique₁ : (S : ℕ → Type 0) (N : ℕ) (x : ℕ → ℕ) (M : ℕ) (y : ℕ → ℕ)
    → ((s : ℕ) → S s → x s * M < y s * N → Takes S (λ s. 1) N x M y s)
    → ((s : ℕ) → S s → y s * N < x s * M → Takes S (λ s. 1) M y N x s)
    → (s : ℕ) → S s → x s * M ≡ y s * N
unique₁ S N x M y fx fy s hs = below (suc (x s * M + y s * N)) s hs (omega arith)
  where
    step : (k : ℕ) → ((t : ℕ) → S t → x t * M + y t * N < k → x t * M ≡ y t * N)
        → (s : ℕ) → S s → x s * M + y s * N ≤ k
        → (x s * M ≤ y s * N) ⊎ (y s * N < x s * M) → (y s * N ≤ x s * M) ⊎ (x s * M < y s * N) → x s * M ≡ y s * N
    step k known s hs h (inl a) (inl b) = omega arith
    step k known s hs h (inl a) (inr b) = absurd (climb S N x M y fx k known s hs h b)
    step k known s hs h (inr a) c =
        absurd (climb S M y N x fy k (λ t ht l. sym (known t ht (omega arith))) s hs (omega arith) a)

    below : (k : ℕ) (s : ℕ) → S s → x s * M + y s * N < k → x s * M ≡ y s * N
    below zero s hs h = absurd (omega arith)
    below (suc k) s hs h = step k (below k) s hs (omega arith) (order (x s * M) (y s * N)) (order (y s * N) (x s * M))

-- a common multiple of the weights
pub record Common (S : ℕ → Type 0) (weight : ℕ → ℕ) : Type 0 where
  pub of : ℕ
  pub times : ℕ → ℕ
  pub pos : 0 < of
  pub is : (s : ℕ) → S s → times s * weight s ≡ of

module _ (S : ℕ → Type 0) (weight : ℕ → ℕ) (c : Common S weight) where
  times_pos : (s : ℕ) → S s → 0 < c.times s
  times_pos s h = pos_left (c.times s) (weight s) (omega (arith, c.is s h, c.pos))

  -- rates per weight, on the common multiple
  per : (a b s t : ℕ) → S s → S t → a * weight s ≤ b * weight t → a * c.times t ≤ b * c.times s
  per a b s t hs ht h =
      le_of_mul-le-mul_right {k = c.of}
      (omega (
        arith,
        mul-le-mul_right (c.times s * c.times t) h,
        ap (λ v. a * c.times t * v) (c.is s hs),
        ap (λ v. b * c.times s * v) (c.is t ht),
      ))
      c.pos

  scaled : (N : ℕ) (x : ℕ → ℕ) (M : ℕ) (y : ℕ → ℕ)
      → ((s : ℕ) → S s → x s * M < y s * N → Takes S weight N x M y s)
      → (s : ℕ) → S s → x s * c.times s * M < y s * c.times s * N → Takes S (λ s. 1) N (λ s. x s * c.times s) M (λ s. y s * c.times s) s
  scaled N x M y f s hs l =
      let t = f s hs (lt_of_mul-lt-mul_right (c.times s) {m = x s * M} {n = y s * N} (omega arith)) in
      let p = per (x t.from) (x s) s t.from hs t.here t.small in
      record {
        from = t.from;
        here = t.here;
        less = omega (arith, mul-lt-mul_of_pos_right {k = c.times t.from} t.less (times_pos t.from t.here));
        small = omega arith;
      }

  pub unique : (N : ℕ) (x : ℕ → ℕ) (M : ℕ) (y : ℕ → ℕ)
      → ((s : ℕ) → S s → x s * M < y s * N → Takes S weight N x M y s)
      → ((s : ℕ) → S s → y s * N < x s * M → Takes S weight M y N x s)
      → (s : ℕ) → S s → x s * M ≡ y s * N
  unique N x M y fx fy s hs =
      eq_of_mul-eq-mul_right (c.times s) (times_pos s hs) (x s * M) (y s * N)
      (omega (arith, unique₁ S N (λ s. x s * c.times s) M (λ s. y s * c.times s) (scaled N x M y fx) (scaled M y N x fy) s hs))

takes : (p : Problem) (N : ℕ) (x : ℕ → ℕ) (M : ℕ) (y : ℕ → ℕ) (s : ℕ)
    → Lowered p N x M y s → Takes (Active p) (λ t. 1) N x M y s
takes p N x M y s k = record { from = k.session; here = k.active; less = omega (arith, k.less); small = omega (arith, k.no_higher) }

-- no second allocation is max-min fair
pub max_min_unique : (p : Problem) (N : ℕ) (x : ℕ → ℕ) (M : ℕ) (y : ℕ → ℕ) → MaxMinFair p N x → MaxMinFair p M y
    → (s : ℕ) → Active p s → x s * M ≡ y s * N
max_min_unique p N x M y fx fy =
    unique (Active p) (λ t. 1) (record { of = 1; times = λ t. 1; pos = omega arith; is = λ s h. refl }) N x M y
    (λ s h l. takes p N x M y s (fx.fair M y fy.feasible s h l))
    (λ s h l. takes p M y N x s (fy.fair N x fx.feasible s h l))
