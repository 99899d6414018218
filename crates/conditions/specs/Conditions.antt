-- 01, "Settled: five conditions", as statements about links, sessions and rates: what the test of Settled.antt comes to.
-- Assumes nothing: definitions.
use Rattle.std.specs.Prelude.{false, true, List, ◌⊎◌, ◌≡◌, ℕ, ◌<◌, Ok, Some}
use Rattle.ends.specs.Figure3.{D}
use Rattle.fractions.specs.declared.Rate.{Rate}
use Rattle.fractions.specs.Fraction.{Le, Same, whole_of}
use Rattle.links.specs.declared.Place.{Place}
use Rattle.links.specs.Links.{B, below_b, equals_b, holds, in_f, in_r, is_idle, mu_at, rate_at, sum_of}
use Rattle.table.specs.Words.{count_of, hops_of, place_of, source_of, stop_of}

-- an active session
abbrev pub Active : List ℕ → ℕ → Type 0
Active w s = (source_of w s).active ≡ true

-- link e is on the path of session s
pub record OnPath (w : List ℕ) (s e : ℕ) : Type 0 where
  pub place : ℕ
  pub within : place < hops_of w s
  pub stop : stop_of w s place ≡ e

-- a link holds session s, idle, with rate x
pub record AgreesAt (x : Rate) (p : Place) (s : ℕ) : Type 0 where
  pub held : holds p s ≡ true
  pub idle : is_idle (mu_at p s) ≡ true
  pub rate : Same (rate_at p s) x

-- (b) of a session: "idle, with one same rate, at its source and at every link of its path, and its source has noted no update"
pub record Rests (w : List ℕ) (s : ℕ) : Type 0 where
  pub idle : is_idle (source_of w s).mu ≡ true
  pub quiet : (source_of w s).updated ≡ false
  pub links : (e : ℕ) → OnPath w s e → AgreesAt (source_of w s).rate (place_of w e) s

-- "the sum of F is at most C"
pub record SumAtMostC (p : Place) : Type 0 where
  pub sum : Rate
  pub sums : sum_of p ≡ Ok sum
  pub most : Le sum (whole_of p.link.capacity)

-- (c) of a link: "every member of R has rate B, every member of F has less than B, and if R is empty the sum of F is at most C"
pub record Rated (p : Place) : Type 0 where
  pub restricted : (s : ℕ) → s < 32 → in_r p s ≡ true → equals_b (B p) (rate_at p s) ≡ true
  pub free : (s : ℕ) → s < 32 → in_f p s ≡ true → below_b (B p) (rate_at p s) ≡ true
  pub unrestricted : ((s : ℕ) → s < 32 → in_r p s ≡ false) → SumAtMostC p

-- "in R at some link"
pub record Restricted (w : List ℕ) (s : ℕ) : Type 0 where
  pub link : ℕ
  pub below : link < 64
  pub there : in_r (place_of w link) s ≡ true

-- (d) of a session: "in R at some link or its rate equals D, and no rate exceeds D"
pub record Limited (w : List ℕ) (s : ℕ) : Type 0 where
  pub limited : Restricted w s ⊎ Same (source_of w s).rate (whole_of (D (source_of w s)))
  pub most : Le (source_of w s).rate (whole_of (D (source_of w s)))

-- (e) of a session: "the rate each source last told its session is this one"
pub record ToldItsRate (w : List ℕ) (s : ℕ) : Type 0 where
  pub last : Rate
  pub told : (source_of w s).told ≡ Some last
  pub same : Same last (source_of w s).rate

pub record FiveConditions (w : List ℕ) : Type 0 where
  pub a : count_of w ≡ 0
  pub b : (s : ℕ) → s < 32 → Active w s → Rests w s
  pub c : (e : ℕ) → e < 64 → Rated (place_of w e)
  pub d : (s : ℕ) → s < 32 → Active w s → Limited w s
  pub e : (s : ℕ) → s < 32 → Active w s → ToldItsRate w s
