-- 01, "Settled", conditions (c) and (d), over rates x s / N and the sets R of the links. F is the rest of S_e: in a table that passes the test of
-- refusal 14, with no packet in flight and every active session at every link of its path, a link holds the sessions of S_e and no others.
-- Assumes nothing: definitions.
use Rattle.std.specs.Prelude.{Bool, not, ◌⊎◌, ◌≡◌, ℕ, ◌+◌, ◌*◌, ◌≤◌, ◌<◌, T}
use Rattle.fairness.specs.MaxMin.{Active, Problem, of_link}
use Rattle.fairness.specs.Sum.{part, sum}

-- how many sessions are in R at e
unfoldable pub size_r : Problem → (ℕ → Bool) → ℕ → ℕ
size_r p R e = sum p.sessions (λ s. part (of_link p e s) (part (R s) 1))

-- N times the sum of the rates in F at e
unfoldable pub sum_f : Problem → (ℕ → ℕ) → (ℕ → Bool) → ℕ → ℕ
sum_f p x R e = sum p.sessions (λ s. part (of_link p e s) (part (not (R s)) (x s)))

-- (c) "every member of R has rate B, every member of F has less than B, and if R is empty the sum of F is at most C",
-- where B is (C - sum of F) / |R|, so x s / N is B where x s * |R| + (N times the sum of F) is N * C
pub record SettledLink (p : Problem) (N : ℕ) (x : ℕ → ℕ) (e : ℕ) (R : ℕ → Bool) : Type 0 where
  pub equal : (s : ℕ) → Active p s → T (p.crosses e s) → T (R s) → x s * size_r p R e + sum_f p x R e ≡ N * p.capacity e
  pub below : (s : ℕ) → Active p s → T (p.crosses e s) → T (not (R s)) → 0 < size_r p R e
      → x s * size_r p R e + sum_f p x R e < N * p.capacity e
  pub empty : size_r p R e ≡ 0 → sum_f p x R e ≤ N * p.capacity e

-- (c) at each link, and (d) "each session is in R at some link or its rate equals D, and no rate exceeds D"
pub record SettledRates (p : Problem) (N : ℕ) (x : ℕ → ℕ) (R : ℕ → ℕ → Bool) : Type 0 where
  pub pos : 0 < N
  pub links : (e : ℕ) → e < p.links → SettledLink p N x e (R e)
  pub restricted : (s : ℕ) → Active p s → (x s ≡ N * p.D s) ⊎ ((e : ℕ) × (e < p.links) × T (p.crosses e s) × T (R e s))
  pub own : (s : ℕ) → Active p s → x s ≤ N * p.D s
