-- A word as a set of sessions (01, "Fractions") or of links: s is a member of w where w's digit s is 1. Digits are taken lowest first, by `% 2` and
-- `/ 2`, so that the definitions compute on a word that is written out, also on the one of all 32 sessions.
-- Assumes nothing: definitions.
use Rattle.std.specs.Prelude.{◌≡◌, List, [], ◌∷◌, Bool, ℕ, zero, suc, ◌+◌, ◌*◌, ◌/◌, ◌%◌, ◌^◌, ◌<◌, eqb, Option, MatchOption}
use Rattle.std.specs.Int.Count.{ones_in, count_trailing_zeros}

-- 1 where s is a member of w, else 0
unfoldable pub has : ℕ → ℕ → ℕ
has zero w = w % 2
has (suc s) w = has s (w / 2)

-- the same as a test
abbrev pub has_of : ℕ → ℕ → Bool
has_of s w = eqb (has s w) 1

-- the set of s alone
abbrev pub only_of : ℕ → ℕ
only_of s = 2 ^ s

-- w with s
unfoldable pub put : ℕ → ℕ → ℕ
put zero w = w / 2 * 2 + 1
put (suc s) w = put s (w / 2) * 2 + w % 2

-- w without s
unfoldable pub cut : ℕ → ℕ → ℕ
cut zero w = w / 2 * 2
cut (suc s) w = cut s (w / 2) * 2 + w % 2

-- 01: "how many there are is the count of its ones"
abbrev pub size_of : ℕ → ℕ
size_of w = ones_in 32 w

-- 01: "the next session to visit is its lowest set bit"; of the empty set, 32
abbrev pub next_of : ℕ → ℕ
next_of w = count_trailing_zeros 32 w

-- the same of a set of links; of the empty set, 64
abbrev pub next_link_of : ℕ → ℕ
next_link_of w = count_trailing_zeros 64 w

-- l with b before it, where the digit is 1
abbrev pub cons_if : ℕ → ℕ → List ℕ → List ℕ
cons_if zero b l = l
cons_if (suc d) b l = b ∷ l

-- the members of w among k digits, by rising number, the lowest digit numbered b
unfoldable pub members_from : ℕ → ℕ → ℕ → List ℕ
members_from zero b w = []
members_from (suc k) b w = cons_if (w % 2) b (members_from k (suc b) (w / 2))

-- the members of w, by rising number
abbrev pub members : ℕ → List ℕ
members w = members_from 32 0 w

-- of a word of k digits whose members are given by rising number, w is left: s comes, the lowest, and v is left without it; or none is left
abbrev pub GivesMember : ℕ → ℕ → Option ℕ → ℕ → Type 0
GivesMember k w r v =
    MatchOption r ((members_from k 0 w ≡ []) × (members_from k 0 v ≡ []))
    (λ s. (members_from k 0 w ≡ s ∷ members_from k 0 v) × (s < k) × (has s w ≡ 1) × (v ≡ cut s w))

-- a state taken through the sessions of a list, one after the other
unfoldable pub walk : {S : Type 0} → (S → ℕ → S) → S → List ℕ → S
walk step a [] = a
walk step a (s ∷ l) = walk step (step a s) l
