-- What the agreement takes from the five conditions (01, "Settled"). It takes something of every one, but not all that they say: not that a session is
-- idle and has noted no update (b), and not that F sums to at most C where R is empty (c), which the test of refusal 14 asks of every link.
-- Assumes nothing: definitions.
use Rattle.std.specs.Prelude.{true, List, ◌≡◌, ℕ, ◌<◌}
use Rattle.conditions.specs.Conditions.{Active, Limited, OnPath, ToldItsRate}
use Rattle.fractions.specs.declared.Rate.{Rate}
use Rattle.fractions.specs.Fraction.{Same}
use Rattle.links.specs.declared.Place.{Place}
use Rattle.links.specs.Links.{B, below_b, equals_b, holds, in_f, in_r, rate_at}
use Rattle.table.specs.Words.{count_of, place_of, source_of}

-- of (b): the link holds session s, with the rate x
pub record HoldsAt (x : Rate) (p : Place) (s : ℕ) : Type 0 where
  pub held : holds p s ≡ true
  pub rate : Same (rate_at p s) x

-- of (c): every member of R has rate B, and every member of F has less
pub record Shared (p : Place) : Type 0 where
  pub restricted : (s : ℕ) → s < 32 → in_r p s ≡ true → equals_b (B p) (rate_at p s) ≡ true
  pub free : (s : ℕ) → s < 32 → in_f p s ≡ true → below_b (B p) (rate_at p s) ≡ true

pub record Needed (w : List ℕ) : Type 0 where
  pub a : count_of w ≡ 0
  pub b : (s : ℕ) → s < 32 → Active w s → (e : ℕ) → OnPath w s e → HoldsAt (source_of w s).rate (place_of w e) s
  pub c : (e : ℕ) → e < 64 → Shared (place_of w e)
  pub d : (s : ℕ) → s < 32 → Active w s → Limited w s
  pub e : (s : ℕ) → s < 32 → Active w s → ToldItsRate w s
