-- What holds of each link at all times: its words and rates are in range, R and F are apart, and the rates in F sum to at most C. It speaks of the
-- values of rates and not of partial sums, so it holds of a link in the midst of a rule too, where a partial sum may be too fine.
-- Assumes nothing: definitions.
use Rattle.std.specs.Prelude.{List, ℕ, ◌+◌, ◌*◌, ◌^◌, ◌≤◌, ◌<◌, get_or}
use Rattle.fairness.specs.Sum.{sum}
use Rattle.fractions.specs.Fraction.{Same, Within, frac, max_rate}
use Rattle.links.specs.declared.Entry.{Entry}
use Rattle.links.specs.declared.Place.{Place}
use Rattle.links.specs.Links.{F, R, Workable, no_entry, rate_at}
use Rattle.sessions.specs.Set.{has}

-- the sum of x over the members of w
unfoldable pub weight : ℕ → (ℕ → ℕ) → ℕ
weight w x = sum 32 (λ s. has s w * x s)

-- the rates of a link's 32 entries over one denominator: x s / N
pub record Over (N : ℕ) (x : ℕ → ℕ) (es : List Entry) : Type 0 where
  pub pos : 0 < N
  pub shown : (s : ℕ) → s < 32 → Same (get_or es s no_entry).rate (frac (x s) N)

-- the link holds session s, in R or in F
pub record Held (p : Place) (s : ℕ) : Type 0 where
  pub some : 0 < has s (R p) + has s (F p)

pub record Sound (p : Place) : Type 0 where
  pub workable : Workable p
  pub r32 : R p < 2 ^ 32
  pub f32 : F p < 2 ^ 32
  pub apart : (s : ℕ) → has s (R p) + has s (F p) ≤ 1
  pub rates : (s : ℕ) → s < 32 → Held p s → Within max_rate (rate_at p s)
  pub fits : (N : ℕ) (x : ℕ → ℕ) → Over N x p.entries → weight (F p) x ≤ N * p.link.capacity
