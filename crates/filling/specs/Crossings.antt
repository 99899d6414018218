-- The words of the sessions that cross each link, built from the paths (01, "Fractions": the sessions at a link are kept as a 32-bit word).
-- Assumes nothing: definitions.
use Rattle.std.specs.Prelude.{Bool, cond, List, ◌≡◌, ℕ, ◌<◌, get_or, length}
use Rattle.sessions.specs.Set.{has, put}
use Rattle.fairness.specs.Sum.{part}
use Rattle.filling.specs.Lines.{crosses_of}
use Rattle.filling.specs.SmallestShare.{Busy}
use Rattle.filling.specs.declared.Links.{Links}

-- the two keep the same of each link beside the sessions there
abbrev pub Beside : Links → Links → Type 0
Beside k r = (r.room ≡ k.room) × (r.count ≡ k.count) × (r.last ≡ k.last)

-- r is k with session s at the links of `there`
pub record Joins (there : ℕ → Bool) (s : ℕ) (k r : Links) : Type 0 where
  pub long : length r.at ≡ 64
  pub word : (e : ℕ) → e < 64 → get_or r.at e 0 ≡ cond (there e) (put s (get_or k.at e 0)) (get_or k.at e 0)
  pub busy : Busy k.busy k.at → Busy r.busy r.at
  pub beside : Beside k r

-- r has each of the sessions at the links of its path
pub record Crossing (path : List ℕ) (sessions : ℕ) (r : Links) : Type 0 where
  pub long : length r.at ≡ 64
  pub small : (e : ℕ) → e < 64 → get_or r.at e 0 < 4294967296
  pub word : (e : ℕ) → e < 64 → (s : ℕ) → s < 32 → has s (get_or r.at e 0) ≡ part (crosses_of path e s) (has s sessions)
  pub busy : Busy r.busy r.at
