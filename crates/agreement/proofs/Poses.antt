-- A problem of max-min fair rates that is the one a table poses: its links, and its active sessions with their own limits and paths.
-- Assumes nothing.
use mathlib.Core.List.{List}
use mathlib.Core.Path.{◌≡◌}
use Prim.Native.Nat.{ℕ, ◌<◌}
use lib.Dec.{T}
use Rattle.conditions.specs.Conditions as conditions
use Rattle.conditions.specs.Conditions.{OnPath}
use Rattle.ends.specs.Figure3 as figure3
use Rattle.fairness.specs.MaxMin.{Problem}
use Rattle.table.specs.Words.{link_of, source_of}

pub record Poses (w : List ℕ) (p : Problem) : Type 0 where
  pub links : p.links ≡ 64
  pub sessions : p.sessions ≡ 32
  pub capacity : (e : ℕ) → e < 64 → p.capacity e ≡ (link_of w e).capacity
  pub active : (s : ℕ) → s < 32 → p.active s ≡ (source_of w s).active
  pub D : (s : ℕ) → s < 32 → conditions.Active w s → p.D s ≡ figure3.D (source_of w s)
  pub on_path : (e s : ℕ) → e < 64 → s < 32 → conditions.Active w s → T (p.crosses e s) → OnPath w s e
  pub crosses : (e s : ℕ) → e < 64 → s < 32 → conditions.Active w s → OnPath w s e → T (p.crosses e s)
