-- The declared lines as a problem of max-min fair rates, the ranges that declarations keep to, and what the calculation answers (01, "The direct
-- calculation").
-- Assumes nothing: definitions.
use Rattle.std.specs.Prelude.{Bool, List, ◌≡◌, ℕ, ◌*◌, ◌<◌, ◌≤◌, T, eqb, get_or, length}
use Rattle.fractions.specs.Fraction.{max_rate}
use Rattle.sessions.specs.Set.{has}
use Rattle.fairness.specs.Figure1.{any}
use Rattle.fairness.specs.MaxMin.{Active, MaxMinFair, Problem, used}
use Rattle.search.specs.Crossing.{byte_at}
use Rattle.declarations.specs.Declaring.{own_limit_of}
use Rattle.declarations.specs.declared.Declared.{Declared}
use Rattle.filling.specs.declared.Fixed.{Fixed}

-- the path of session s has link e: one of its eight bytes is e
abbrev pub crosses_of : List ℕ → ℕ → ℕ → Bool
crosses_of path e s = any 8 (λ h. eqb (byte_at path s h) e)

-- 64 links and 32 sessions, of which the declared ones are active; a session's own limit D is the smaller of its access rate and its maximum, or the
-- access rate where there is no maximum (0)
unfoldable pub problem_of : Declared → Problem
problem_of d =
    record {
      links = 64;
      sessions = 32;
      capacity = λ e. get_or d.capacity e 0;
      active = λ s. eqb (has s d.sessions) 1;
      D = λ s. own_limit_of (get_or d.access s 0) (get_or d.maximum s 0);
      crosses = λ e s. crosses_of d.path e s;
    }

-- 01, refusal 5: capacities and access rates are at most 1,000,000
pub record Ranges (d : Declared) : Type 0 where
  pub capacity : (e : ℕ) → e < 64 → get_or d.capacity e 0 ≤ max_rate
  pub access : (s : ℕ) → s < 32 → get_or d.access s 0 ≤ max_rate

-- for each link a session number
abbrev pub SessionNumbers : List ℕ → Type 0
SessionNumbers last = (e : ℕ) → e < 64 → get_or last e 0 < 32

-- u is a session on link e, and no session there has more
pub record Highest (p : Problem) (x : ℕ → ℕ) (e u : ℕ) : Type 0 where
  pub active : Active p u
  pub crosses : T (p.crosses e u)
  pub most : (t : ℕ) → Active p t → T (p.crosses e t) → x t ≤ x u

-- the answer: session s gets rate s / den, max-min fair; 01, "Fractions": den is at most 118,098; a link has no room left
-- exactly where its capacity is fully used; and of the sessions on a link, where there are any, the one that was fixed last has the highest rate
pub record Filled (d : Declared) (r : Fixed) : Type 0 where
  pub fair : MaxMinFair (problem_of d) r.den (λ s. get_or r.rate s 0)
  pub small : r.den ≤ 118098
  pub full : (e : ℕ) → e < 64 → get_or r.room e 0 ≡ 0 → used (problem_of d) (λ s. get_or r.rate s 0) e ≡ r.den * get_or d.capacity e 0
  pub spent : (e : ℕ) → e < 64 → used (problem_of d) (λ s. get_or r.rate s 0) e ≡ r.den * get_or d.capacity e 0 → get_or r.room e 0 ≡ 0
  pub last : (e : ℕ) → e < 64 → (t : ℕ) → Active (problem_of d) t → T ((problem_of d).crosses e t)
      → Highest (problem_of d) (λ s. get_or r.rate s 0) e (get_or r.last e 0)
  pub low : SessionNumbers r.last
  pub rates : length r.rate ≡ 32
  pub rooms : length r.room ≡ 64
