-- 001, Figure 2, lines 4 to 10: the procedure ProcessNewRestricted, and the F check in it. p is the link with its entries.
-- Assumes nothing: definitions.
use Rattle.std.specs.Prelude.{cond, ℕ, zero, suc}
use Rattle.std.specs.Int.Bits.{bit_or}
use Rattle.fractions.specs.declared.Rate.{Rate}
use Rattle.fractions.specs.Fraction.{le_of, zero_of}
use Rattle.sessions.specs.Set.{members, walk}
use Rattle.links.specs.declared.Checked.{Checked}
use Rattle.links.specs.declared.Place.{Place}
use Rattle.links.specs.declared.Processed.{Processed}
use Rattle.links.specs.Links.{B, F, R, rate_at, some_of, those_of, waiting_of, with_words, at_least, has_other_rate, has_rate, idle_above}

abbrev pub higher_of : Rate → Rate → Rate
higher_of a b = cond (le_of a b) b a

-- line 6: λ_m ← max over F
unfoldable pub highest_of : Place → Rate
highest_of p = walk (λ m s. higher_of m (rate_at p s)) zero_of (members (F p))

-- lines 7 and 8: R' ← {r ∈ F : λ_r = λ_m}; F ← F \ R'; R ← R ∪ R'
unfoldable pub turn_of : Place → Place
turn_of p =
    let m = highest_of p in
    with_words p (bit_or (R p) (those_of (has_rate m) p.entries (F p))) (those_of (has_other_rate m) p.entries (F p))

-- line 5: while ∃ s ∈ F : λ_s ≥ B. Each turn makes F smaller, so 32 turns are enough
unfoldable pub check_of : ℕ → Place → Place
check_of zero p = p
check_of (suc k) p = cond (some_of (at_least (B p)) p.entries (F p)) (check_of k (turn_of p)) p

-- a link that the check leaves, with its B
abbrev pub checked_of : Place → Checked
checked_of q = record { place = q; bound = B q }

-- line 9: {s ∈ R : μ_s = IDLE ∧ λ_s > B}
abbrev pub over_b : Place → ℕ
over_b p = those_of (idle_above (B p)) p.entries (R p)

-- ProcessNewRestricted, lines 5 to 10: the link after it, the sessions that are sent an Update, and its B, which lines 9 and 10 do not change
unfoldable pub process_of : Place → Processed
process_of p =
    let q = check_of 32 p in  -- 5 to 8
    record { place = waiting_of q (over_b q); to = over_b q; bound = B q }  -- 9, 10
