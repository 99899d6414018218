-- Rates: when a fraction is one, how two compare, and what sums and shares come to, also in 01's number and values. Follows 01, "Fractions" and "The direct calculation".
-- Answers are in lowest terms, so two answers of one value are equal; `Same`, `Le` and `Lt` speak of the values.
-- Assumes nothing: definitions.
use Rattle.std.specs.Prelude.{◌≡◌, Bool, ◌&&◌, cond, codes, decimal, List, ◌++◌, Result, Ok, Err, ℕ, ◌+◌, ◌-◌, ◌*◌, ◌/◌, ◌≤◌, ◌<◌, leb, ltb, eqb}
use Rattle.fractions.specs.Divisor.{IsGcd, gcd_of}
use Rattle.fractions.specs.declared.Rate.{Rate}
use Rattle.fractions.specs.declared.Part.{Part}
use Rattle.fractions.specs.declared.TooFine.{TooFine}

-- 01, "Fractions": denominators are limited to 1,048,576
abbrev pub max_den : ℕ
max_den = 1048576

-- 01, refusal 14: rates are 0 to 1,000,000
abbrev pub max_rate : ℕ
max_rate = 1000000

-- n / d as it stands
abbrev pub frac : ℕ → ℕ → Rate
frac n d = record { num = n; den = d }

-- 01, "Examples": how the programs print it
abbrev pub rate_text : Rate → List ℕ
rate_text x = decimal x.num ++ (codes "/" ++ decimal x.den)

-- 01: zero is 0/1
abbrev pub zero_of : Rate
zero_of = frac 0 1

-- a whole number
abbrev pub whole_of : ℕ → Rate
whole_of n = frac n 1

-- WHAT A RATE IS ------------------------------------------------------------------------------------------------------

-- in lowest terms: no divisor in common but 1
pub record Lowest (a : Rate) : Type 0 where
  pub pos : 0 < a.den
  pub coprime : IsGcd a.num a.den 1

-- a rate of at most m: in lowest terms, with a denominator within the limit
pub record Within (m : ℕ) (a : Rate) : Type 0 where
  pub lowest : Lowest a
  pub den : a.den ≤ max_den
  pub num : a.num ≤ m * a.den

-- what comparisons and sums need of a number pair: a value of at most m, over a denominator within the limit
pub record Sized (m : ℕ) (a : Rate) : Type 0 where
  pub pos : 0 < a.den
  pub den : a.den ≤ max_den
  pub num : a.num ≤ m * a.den

-- the largest value that comparisons and sums take: room for some rates together, and their products still fit 64 bits
abbrev pub limit : ℕ
limit = 4000000

-- 01, refusal 14: the test of a rate that is handed in, "0 to 1,000,000, denominator to 1,048,576", and in lowest terms
unfoldable pub is_rate_of : Rate → Bool
is_rate_of a = ltb 0 a.den && (leb a.den max_den && (leb a.num (max_rate * a.den) && eqb (gcd_of a.num a.den) 1))

-- the same but for lowest terms: what n and d stand for where a rate is kept as two numbers
unfoldable pub sized_of : ℕ → ℕ → Bool
sized_of n d = ltb 0 d && (leb d max_den && leb n (max_rate * d))

unfoldable pub kept_of : ℕ → ℕ → Rate
kept_of n d = cond (sized_of n d) (frac n d) zero_of

-- THE VALUES COMPARED -------------------------------------------------------------------------------------------------

-- the same value: the cross products are equal
pub record Same (a b : Rate) : Type 0 where
  pub cross : a.num * b.den ≡ b.num * a.den

-- the value of a is no greater than that of b
pub record Le (a b : Rate) : Type 0 where
  pub cross : a.num * b.den ≤ b.num * a.den

-- the value of a is less than that of b
pub record Lt (a b : Rate) : Type 0 where
  pub cross : a.num * b.den < b.num * a.den

-- the same, as tests: 01, "Rates are compared exactly"
abbrev pub le_of : Rate → Rate → Bool
le_of a b = leb (a.num * b.den) (b.num * a.den)

abbrev pub lt_of : Rate → Rate → Bool
lt_of a b = ltb (a.num * b.den) (b.num * a.den)

abbrev pub same_of : Rate → Rate → Bool
same_of a b = eqb (a.num * b.den) (b.num * a.den)

-- LOWEST TERMS, SUMS AND SHARES ---------------------------------------------------------------------------------------

-- n / d in lowest terms
unfoldable pub lowest_of : ℕ → ℕ → Rate
lowest_of n d = record { num = n / gcd_of n d; den = d / gcd_of n d }

-- the denominator is within the limit
abbrev pub fine_of : Rate → Bool
fine_of a = leb a.den max_den

-- why a sum or a share is no rate (01, refusal 12)
abbrev pub too_fine : TooFine
too_fine = record {}

-- a, or that its denominator is over the limit
abbrev pub within_limit : Rate → Result Rate TooFine
within_limit a = cond (fine_of a) (Ok a) (Err too_fine)

-- a + b in lowest terms
unfoldable pub add_of : Rate → Rate → Rate
add_of a b = lowest_of (a.num * b.den + b.num * a.den) (a.den * b.den)

-- a + b, or that its denominator is over the limit (01, refusal 12)
unfoldable pub plus_of : Rate → Rate → Result Rate TooFine
plus_of a b = within_limit (add_of a b)

-- k times a, in lowest terms
unfoldable pub times_of : ℕ → Rate → Rate
times_of k a = lowest_of (k * a.num) a.den

-- what a link has left: its capacity c minus what is taken, over the denominator of what is taken
abbrev pub left_of : ℕ → Rate → Part
left_of c t = record { num = c * t.den - t.num; den = t.den }

-- what each of k sessions gets of a part
abbrev pub among_of : Part → ℕ → Part
among_of p k = record { num = p.num; den = p.den * k }

-- 01, "The direct calculation": a link's share is (capacity minus the rates already fixed there) / (sessions there not yet fixed)
unfoldable pub each_of : ℕ → Rate → ℕ → Rate
each_of c t k = lowest_of (c * t.den - t.num) (t.den * k)

-- a link's share, or that its denominator is over the limit
unfoldable pub share_of : ℕ → Rate → ℕ → Result Rate TooFine
share_of c t k = within_limit (each_of c t k)

-- 01'S NUMBER AND VALUES ----------------------------------------------------------------------------------------------

-- of an answer that is a rate: 0 with its numerator and denominator, or the number of the refusal that stands in its way
pub record RateSaid : Type 0 where
  pub number : ℕ
  pub num : ℕ
  pub den : ℕ

abbrev pub rate_said : Rate → RateSaid
rate_said x = record { number = 0; num = x.num; den = x.den }

abbrev pub no_rate : ℕ → RateSaid
no_rate n = record { number = n; num = 0; den = 0 }

-- of a sum or a share: too fine is refusal 12
abbrev pub answer_said : Result Rate TooFine → RateSaid
answer_said (Ok y) = rate_said y
answer_said (Err _) = no_rate 12
