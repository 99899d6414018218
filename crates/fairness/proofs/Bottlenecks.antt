-- Whether a link is a bottleneck of a session is decided by computing: each part of 001, Definition 1, is a comparison of numbers.
-- Assumes nothing.
use mathlib.Core.Bool.{Bool, false, true}
use mathlib.Core.Path.{◌≡◌}
use Prim.Native.Nat.{ℕ, zero, suc, ◌*◌, ◌≤◌, ◌<◌}
use native.Mathlib.Omega.{arith}
use lib.Dec.{T, eqb, eqb→eq, le→leb, leb, leb→le, lt→ltb, ltb, ltb→lt}
use Rattle.fractions.proofs.Cases.{eqb-T, extend}
use Rattle.fairness.specs.MaxMin.{Bottleneck, Problem, used}

-- by a test that passes exactly where A holds
unfoldable pub by_test : {A : Type 0} → (t : Bool) → (T t → A) → (A → T t) → Dec A
by_test true f g = yes (f tt)
by_test false f g = no (λ a. absurd (g a))

-- A where the test passes
unfoldable pub where_passes : {A : Type 0} → (t : Bool) → Dec A → Dec (T t → A)
where_passes false a = yes (λ t. absurd t)
where_passes true (yes a) = yes (λ t. a)
where_passes true (no n) = no (λ f. n (f tt))

-- A of all below n
unfoldable pub all_below : (A : ℕ → Type 0) → ((t : ℕ) → Dec (A t)) → (n : ℕ) → Dec ((t : ℕ) → t < n → A t)
all_below A f zero = yes (λ t h. absurd (omega arith))
all_below A f (suc n) = both (f n) (all_below A f n)
  where
    both : Dec (A n) → Dec ((t : ℕ) → t < n → A t) → Dec ((t : ℕ) → t < suc n → A t)
    both (yes a) (yes b) = yes (extend A n b a)
    both (yes a) (no b) = no (λ g. b (λ t h. g t (omega arith)))
    both (no a) b = no (λ g. a (g n (omega arith)))

module _ (p : Problem) (N : ℕ) (x : ℕ → ℕ) (s e : ℕ) where
  -- "no session on it has more"
  unfoldable pub none_has_more : Dec ((t : ℕ) → t < p.sessions → T (p.active t) → T (p.crosses e t) → x t ≤ x s)
  none_has_more =
      all_below (λ t. T (p.active t) → T (p.crosses e t) → x t ≤ x s)
      (λ t.
      where_passes (p.active t)
      (where_passes (p.crosses e t)
      (by_test (leb (x t) (x s)) (leb→le (x t) (x s)) (le→leb (x t) (x s)))))
      p.sessions

  unfoldable pub bottleneck_or_not : Dec (Bottleneck p N x s e)
  bottleneck_or_not =
      parts
      (by_test (ltb e p.links) (ltb→lt e p.links) (lt→ltb e p.links))
      (by_test (p.crosses e s) (λ q. q) (λ q. q))
      (by_test (eqb (used p x e) (N * p.capacity e)) (eqb→eq _ _) (eqb-T _ _))
      none_has_more
    where
      parts : Dec (e < p.links) → Dec (T (p.crosses e s)) → Dec (used p x e ≡ N * p.capacity e)
          → Dec ((t : ℕ) → t < p.sessions → T (p.active t) → T (p.crosses e t) → x t ≤ x s) → Dec (Bottleneck p N x s e)
      parts (yes l) (yes c) (yes f) (yes m) = yes (record { is_a_link = l; crosses = c; full = f; most = λ t a. m t a.0 a.1 })
      parts (no l) c f m = no (λ b. l b.is_a_link)
      parts (yes l) (no c) f m = no (λ b. c b.crosses)
      parts (yes l) (yes c) (no f) m = no (λ b. f b.full)
      parts (yes l) (yes c) (yes f) (no m) = no (λ b. m (λ t h a. b.most t (h, a)))
