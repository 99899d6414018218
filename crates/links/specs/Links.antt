-- A link with its entries: its words R and F, the sum of F, its rate B (also in 01's number and values), comparisons with B, and sets of its sessions.
-- Follows 001, section III, and 01, "The tasks".
-- Assumes nothing: definitions.
use Rattle.std.specs.Prelude.{Bool, cond, false, not, true, ◌&&◌, ◌||◌, List, ◌≡◌, ℕ, zero, suc, ◌≤◌, ◌<◌, eqb, get_or, length, set, Result, Ok, Err, IfOk}
use Rattle.fractions.specs.declared.Rate.{Rate}
use Rattle.fractions.specs.declared.TooFine.{TooFine}
use Rattle.fractions.specs.Fraction.{Sized, frac, le_of, lt_of, max_rate, no_rate, plus_of, RateSaid, rate_said, same_of, share_of, whole_of, zero_of}
use Rattle.sessions.specs.Set.{has_of, members, put, size_of, walk}
use Rattle.links.specs.declared.Bound.{Bound}
use Rattle.links.specs.declared.Bound.TheVariants as bound
use Rattle.links.specs.declared.Entry.{Entry}
use Rattle.links.specs.declared.Mu.{Mu}
use Rattle.links.specs.declared.Mu.TheVariants as mu
use Rattle.links.specs.declared.NoTotal.{NoTotal}
use Rattle.links.specs.declared.NoTotal.TheVariants as no_total
use Rattle.links.specs.declared.Place.{Place}

-- what an index past the end reads: no session has it
abbrev pub no_entry : Entry
no_entry = record { mu = mu.Idle; rate = frac 0 0 }

-- an entry of state m and rate x
abbrev pub entry : Mu → Rate → Entry
entry m x = record { mu = m; rate = x }

-- the words R and F, and the entry of session s
abbrev pub R : Place → ℕ
R p = p.link.r

abbrev pub F : Place → ℕ
F p = p.link.f

abbrev pub entry_at : Place → ℕ → Entry
entry_at p s = get_or p.entries s no_entry

-- λ and μ of session s at the link
abbrev pub rate_at : Place → ℕ → Rate
rate_at p s = (entry_at p s).rate

abbrev pub mu_at : Place → ℕ → Mu
mu_at p s = (entry_at p s).mu

-- μ = IDLE, μ = WAITING_RESPONSE
abbrev pub is_idle : Mu → Bool
is_idle mu.Idle = true
is_idle mu.WaitingProbe = false
is_idle mu.WaitingResponse = false

abbrev pub awaits_response : Mu → Bool
awaits_response mu.Idle = false
awaits_response mu.WaitingProbe = false
awaits_response mu.WaitingResponse = true

-- s ∈ R, s ∈ F
abbrev pub in_r : Place → ℕ → Bool
in_r p s = has_of s (R p)

abbrev pub in_f : Place → ℕ → Bool
in_f p s = has_of s (F p)

-- the link holds the session
abbrev pub holds : Place → ℕ → Bool
holds p s = in_r p s || in_f p s

-- THE SUM OF F --------------------------------------------------------------------------------------------------------

-- a sum of rates at a link of capacity c: 01's refusal 14 turns a link away "whose F sums past C", so such a sum is followed no further
unfoldable pub upto_of : ℕ → Result Rate TooFine → Result Rate NoTotal
upto_of c (Ok y) = cond (le_of y (whole_of c)) (Ok y) (Err no_total.PastC)
upto_of c (Err _) = Err no_total.TooFine

-- one rate more
unfoldable pub more_of : ℕ → Result Rate NoTotal → Rate → Result Rate NoTotal
more_of c (Ok y) x = upto_of c (plus_of y x)
more_of c (Err e) x = Err e

-- 01: "F is summed by rising session number, each partial sum in lowest terms"
unfoldable pub sum_of : Place → Result Rate NoTotal
sum_of p = walk (λ a s. more_of p.link.capacity a (rate_at p s)) (Ok zero_of) (members (F p))

-- refusal 14: "a link whose F sums past C"
abbrev pub is_past_c : Result Rate NoTotal → Bool
is_past_c (Ok y) = false
is_past_c (Err no_total.TooFine) = false
is_past_c (Err no_total.PastC) = true

-- B -------------------------------------------------------------------------------------------------------------------

abbrev pub as_bound : Result Rate TooFine → Bound
as_bound (Ok b) = bound.At b
as_bound (Err _) = bound.TooFine

-- B of a link of capacity c whose F sums to a total and whose R has k members: (C - sum of F) / |R| (001, III.C). 01: "where R is empty, B counts
-- as above every rate". Where F sums past C nothing is left; no table that passes the test of refusal 14 has such a link.
unfoldable pub bound_of : ℕ → ℕ → Result Rate NoTotal → Bound
bound_of c k (Err no_total.TooFine) = bound.TooFine
bound_of c zero (Ok y) = bound.Above
bound_of c (suc k) (Ok y) = as_bound (share_of c y (suc k))
bound_of c zero (Err no_total.PastC) = bound.Above
bound_of c (suc k) (Err no_total.PastC) = bound.At zero_of

-- 01, expected form: the count of ones of R's word is the divisor
unfoldable pub B : Place → Bound
B p = bound_of p.link.capacity (size_of (R p)) (sum_of p)

-- 01's number and values of a sum of F and of a B: too fine is refusal 12, and F past C is refusal 14; above every rate are the values 1 and 0
abbrev pub total_said : Result Rate NoTotal → RateSaid
total_said (Ok y) = rate_said y
total_said (Err no_total.TooFine) = no_rate 12
total_said (Err no_total.PastC) = no_rate 14

abbrev pub bound_said : Bound → RateSaid
bound_said (bound.At b) = rate_said b
bound_said bound.Above = record { number = 0; num = 1; den = 0 }
bound_said bound.TooFine = no_rate 12

-- refusal 12: no partial sum that was formed, nor B, has a denominator over the limit. That F sums past C is a question of its own
abbrev pub is_fine : Bound → Bool
is_fine (bound.At b) = true
is_fine bound.Above = true
is_fine bound.TooFine = false

-- x > B, x ≥ B, x = B, x < B, x ≤ B. None holds where B is too fine: that step is refused
abbrev pub above_b : Bound → Rate → Bool
above_b (bound.At b) x = lt_of b x
above_b bound.Above x = false
above_b bound.TooFine x = false

abbrev pub at_least_b : Bound → Rate → Bool
at_least_b (bound.At b) x = le_of b x
at_least_b bound.Above x = false
at_least_b bound.TooFine x = false

abbrev pub equals_b : Bound → Rate → Bool
equals_b (bound.At b) x = same_of x b
equals_b bound.Above x = false
equals_b bound.TooFine x = false

abbrev pub below_b : Bound → Rate → Bool
below_b (bound.At b) x = lt_of x b
below_b bound.Above x = true
below_b bound.TooFine x = false

abbrev pub at_most_b : Bound → Rate → Bool
at_most_b (bound.At b) x = le_of x b
at_most_b bound.Above x = true
at_most_b bound.TooFine x = false

-- SETS OF SESSIONS ----------------------------------------------------------------------------------------------------

-- what Figure 2 asks of an entry: λ = m, λ ≠ m; λ ≥ B; μ = IDLE ∧ λ > B, μ = IDLE ∧ λ = B
abbrev pub has_rate : Rate → Entry → Bool
has_rate m x = same_of x.rate m

abbrev pub has_other_rate : Rate → Entry → Bool
has_other_rate m x = not (same_of x.rate m)

abbrev pub at_least : Bound → Entry → Bool
at_least b x = at_least_b b x.rate

abbrev pub idle_above : Bound → Entry → Bool
idle_above b x = is_idle x.mu && above_b b x.rate

abbrev pub idle_at : Bound → Entry → Bool
idle_at b x = is_idle x.mu && equals_b b x.rate

-- the members of w whose entries meet a test: {s ∈ w : ..}
abbrev pub add_if : (Entry → Bool) → List Entry → ℕ → ℕ → ℕ
add_if meets es w s = cond (meets (get_or es s no_entry)) (put s w) w

unfoldable pub those_of : (Entry → Bool) → List Entry → ℕ → ℕ
those_of meets es w = walk (add_if meets es) 0 (members w)

-- "for all r ∈ R" and "there is an s ∈ F"
abbrev pub all_of : (Entry → Bool) → List Entry → ℕ → Bool
all_of meets es w = eqb (those_of meets es w) w

abbrev pub some_of : (Entry → Bool) → List Entry → ℕ → Bool
some_of meets es w = not (eqb (those_of meets es w) 0)

-- Figure 2, lines 25 and 46: ∀ r ∈ R, λ_r = B ∧ μ_r = IDLE
abbrev pub all_at_b : Bound → Place → Bool
all_at_b b p = all_of (idle_at b) p.entries (R p)

-- CHANGES -------------------------------------------------------------------------------------------------------------

abbrev pub with_entry : Place → ℕ → Entry → Place
with_entry p s x = record { link = p.link; entries = set p.entries s x }

-- μ_s ← m
abbrev pub with_mu : Place → ℕ → Mu → Place
with_mu p s m = with_entry p s (entry m (rate_at p s))

-- the words R and F
abbrev pub with_words : Place → ℕ → ℕ → Place
with_words p r f = record { link = record { capacity = p.link.capacity; r = r; f = f }; entries = p.entries }

-- μ_r ← WAITING_PROBE for each r of w
abbrev pub wait_in : List Entry → ℕ → List Entry
wait_in es r = set es r (entry mu.WaitingProbe (get_or es r no_entry).rate)

unfoldable pub waiting_of : Place → ℕ → Place
waiting_of p w = record { link = p.link; entries = walk wait_in p.entries (members w) }

-- WHAT THE ARITHMETIC NEEDS -------------------------------------------------------------------------------------------

-- the rates of all 32 entries are within the limits
pub record Rates (es : List Entry) : Type 0 where
  pub many : length es ≡ 32
  pub sized : (s : ℕ) → s < 32 → Sized max_rate (get_or es s no_entry).rate

-- a link with such entries, whose capacity is within its limit
pub record Workable (p : Place) : Type 0 where
  pub capacity : p.link.capacity ≤ max_rate
  pub rates : Rates p.entries

-- a sum or a total that is a rate of at most m, and a B, likewise
abbrev pub TotalSized : {E : Type 0} → ℕ → Result Rate E → Type 0
TotalSized m t = IfOk t (Sized m)

abbrev pub BoundSized : Bound → Type 0
BoundSized (bound.At b) = Sized max_rate b
BoundSized bound.Above = 0 ≤ 0
BoundSized bound.TooFine = 0 ≤ 0

-- WHAT A CLOSURE ANSWERS ----------------------------------------------------------------------------------------------

-- it may be asked of every entry whose rate is within the limits
abbrev pub AsksRates : (Entry → Type 0) → Type 0
AsksRates pre = (x : Entry) → Sized max_rate x.rate → pre x

-- and there it answers as the test does
abbrev pub Tests : (Entry → Bool → Type 0) → (Entry → Bool) → Type 0
Tests post meets = (x : Entry) (b : Bool) → Sized max_rate x.rate → post x b → b ≡ meets x
