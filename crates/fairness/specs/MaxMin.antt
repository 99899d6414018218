-- Links and sessions, and what it means that rates are feasible, max-min fair, or restricted by a bottleneck. Follows demand 2 of the order (00) and
-- Definition 1 of 001. An allocation gives session s the rate x s / N, all over one denominator N: any finitely many fractions can be written so
-- (`together` in proofs/CommonDenominator).
-- Assumes nothing: definitions.
use Rattle.std.specs.Prelude.{Bool, ◌&&◌, ◌⊎◌, ◌≡◌, ℕ, ◌*◌, ◌≤◌, ◌<◌, T}
use Rattle.fairness.specs.Sum.{part, sum}

-- links 0 .. links-1 with their capacities C; sessions 0 .. sessions-1, which of them are active, each one's own limit D (01: the smaller of its
-- access rate and its maximum, or the access rate where there is no maximum), and by `crosses e s` whether link e lies on the path of session s
pub record Problem : Type 0 where
  pub links : ℕ
  pub sessions : ℕ
  pub capacity : ℕ → ℕ
  pub active : ℕ → Bool
  pub D : ℕ → ℕ
  pub crosses : ℕ → ℕ → Bool

-- s is one of the sessions, and active
abbrev pub Active : Problem → ℕ → Type 0
Active p s = (s < p.sessions) × T (p.active s)

-- 001: s is in S_e, the active sessions that cross link e
abbrev pub of_link : Problem → ℕ → ℕ → Bool
of_link p e s = p.active s && p.crosses e s

-- N times what link e carries: the sum over S_e
unfoldable pub used : Problem → (ℕ → ℕ) → ℕ → ℕ
used p x e = sum p.sessions (λ s. part (of_link p e s) (x s))

-- "no line carries more than its capacity, no session exceeds its own line or maximum"
pub record Feasible (p : Problem) (N : ℕ) (x : ℕ → ℕ) : Type 0 where
  pub pos : 0 < N
  pub fits : (e : ℕ) → e < p.links → used p x e ≤ N * p.capacity e
  pub own : (s : ℕ) → Active p s → x s ≤ N * p.D s

-- a session that the change from the rates x / N to y / M lowers, and whose rate was no higher than that of s
pub record Lowered (p : Problem) (N : ℕ) (x : ℕ → ℕ) (M : ℕ) (y : ℕ → ℕ) (s : ℕ) : Type 0 where
  pub session : ℕ
  pub active : Active p session
  pub less : y session * N < x session * M
  pub no_higher : x session ≤ x s

-- "and any other allocation within those bounds that raises one session lowers another whose rate was no higher"
pub record MaxMinFair (p : Problem) (N : ℕ) (x : ℕ → ℕ) : Type 0 where
  pub feasible : Feasible p N x
  pub fair : (M : ℕ) (y : ℕ → ℕ) → Feasible p M y → (s : ℕ) → Active p s → x s * M < y s * N → Lowered p N x M y s

-- 001, Definition 1: e is a bottleneck of an active session s: it lies on the path of s, is fully used, and no session on it has more than s
pub record Bottleneck (p : Problem) (N : ℕ) (x : ℕ → ℕ) (s e : ℕ) : Type 0 where
  pub is_a_link : e < p.links
  pub crosses : T (p.crosses e s)
  pub full : used p x e ≡ N * p.capacity e
  pub most : (t : ℕ) → Active p t → T (p.crosses e t) → x t ≤ x s

-- s has its own limit D, or a bottleneck
abbrev pub Restricted : Problem → ℕ → (ℕ → ℕ) → ℕ → Type 0
Restricted p N x s = (x s ≡ N * p.D s) ⊎ ((e : ℕ) × Bottleneck p N x s e)
