-- One round: what it makes of the links and the rates, and what holds before and after it (01, "The direct calculation"; 001, Figure 1).
-- Assumes nothing: definitions.
use Rattle.std.specs.Prelude.{Bool, not, cond, List, ◌⊎◌, ◌≡◌, ℕ, ◌*◌, ◌+◌, ◌-◌, ◌<◌, ◌≤◌, min, T, eqb, get_or, length}
use Rattle.std.specs.Int.Bits.{bit_and}
use Rattle.std.specs.Int.Count.{ones}
use Rattle.sessions.specs.Set.{cut, has}
use Rattle.fairness.specs.Figure1.{left_at, load_at, net}
use Rattle.fairness.proofs.Rounds.{Filling}
use Rattle.fairness.proofs.Denominators.{SmallDenominator}
use Rattle.declarations.specs.declared.Declared.{Declared}
use Rattle.filling.specs.Lines.{Ranges, SessionNumbers, crosses_of, problem_of}
use Rattle.filling.specs.SmallestShare.{Busy, Counted, LinksFit, parts_limit}
use Rattle.filling.specs.State.{Fill}
use Rattle.filling.specs.declared.Given.{Given}
use Rattle.filling.specs.declared.Links.{Links}

-- the rooms of the busy links over a denominator that is so many times as large
pub record Grown (busy by : ℕ) (room r : List ℕ) : Type 0 where
  pub long : length r ≡ length room
  pub at : (e : ℕ) → e < 64 → has e busy ≡ 1 → get_or r e 0 ≡ get_or room e 0 * by
  pub other : (e : ℕ) → e < 64 → has e busy ≡ 0 → get_or r e 0 ≡ get_or room e 0

-- the arrays have a place for each link, and those that were fixed last are session numbers
pub record Whole (k : Links) : Type 0 where
  pub rooms : length k.room ≡ 64
  pub words : length k.at ≡ 64
  pub counts : length k.count ≡ 64
  pub lasts : length k.last ≡ 64
  pub low : SessionNumbers k.last

-- sessions of `These` leave a link whose open sessions are the word w, and v after that. It remembers l before and m after: the same one, which is
-- allowed only where it has not lost its last open session, or one of those that left
abbrev pub Remembered : (ℕ → Type 0) → ℕ → ℕ → ℕ → ℕ → Type 0
Remembered These w l v m = ((m ≡ l) × (v ≡ 0 → w ≡ 0)) ⊎ (These m × (has m w ≡ 1))

-- so it is at every link
abbrev pub Remembers : (ℕ → Type 0) → Links → Links → Type 0
Remembers These k r = (e : ℕ) → e < 64 → Remembered These (get_or k.at e 0) (get_or k.last e 0) (get_or r.at e 0) (get_or r.last e 0)

-- r is k without session s at the links of `there`, where a share goes out for each session that leaves a link
pub record Leaves (there : ℕ → Bool) (s share : ℕ) (k r : Links) : Type 0 where
  pub at : (e : ℕ) → e < 64 → get_or r.at e 0 ≡ cond (there e) (cut s (get_or k.at e 0)) (get_or k.at e 0)
  pub room : (e : ℕ) → e < 64 → get_or r.room e 0 + share * ones (get_or k.at e 0) ≡ get_or k.room e 0 + share * ones (get_or r.at e 0)
  pub count : (e : ℕ) → e < 64 → get_or r.count e 0 + ones (get_or k.at e 0) ≡ get_or k.count e 0 + ones (get_or r.at e 0)
  pub last : Remembers (◌≡◌ s) k r
  pub busy : Busy k.busy k.at → Busy r.busy r.at
  pub long : Whole k → Whole r

-- each link of `there` where session s is open has a share left for it
abbrev pub Leavable : (ℕ → Bool) → ℕ → ℕ → Links → Type 0
Leavable there s share k =
    (e : ℕ) → e < 64 → T (there e) → has s (get_or k.at e 0) ≡ 1 → (share ≤ get_or k.room e 0) × (0 < get_or k.count e 0)

-- r is k without the chosen sessions at the links of their paths
pub record Without (path : List ℕ) (chosen share : ℕ) (k r : Links) : Type 0 where
  pub stays : (e : ℕ) → e < 64 → (t : ℕ) → has t chosen ≡ 0 → has t (get_or r.at e 0) ≡ has t (get_or k.at e 0)
  pub gone : (e : ℕ) → e < 64 → (t : ℕ) → t < 32 → has t chosen ≡ 1 → T (crosses_of path e t) → has t (get_or r.at e 0) ≡ 0
  pub fewer : (e : ℕ) → e < 64 → (t : ℕ) → has t (get_or r.at e 0) ≤ has t (get_or k.at e 0)
  pub small : (e : ℕ) → e < 64 → get_or r.at e 0 ≤ get_or k.at e 0
  pub room : (e : ℕ) → e < 64 → get_or r.room e 0 + share * ones (get_or k.at e 0) ≡ get_or k.room e 0 + share * ones (get_or r.at e 0)
  pub count : (e : ℕ) → e < 64 → get_or r.count e 0 + ones (get_or k.at e 0) ≡ get_or k.count e 0 + ones (get_or r.at e 0)
  pub last : Remembers (λ t. has t chosen ≡ 1) k r
  pub busy : Busy k.busy k.at → Busy r.busy r.at
  pub long : Whole k → Whole r

-- every link has enough left to give the share to all its open sessions, and they are counted
pub record Enough (share : ℕ) (k : Links) : Type 0 where
  pub whole : Whole k
  pub room : (e : ℕ) → e < 64 → 0 < get_or k.at e 0 → share * ones (get_or k.at e 0) ≤ get_or k.room e 0
  pub count : Counted k.at k.count

-- the links after a round: the share goes out once for each session that gets it, and these are no longer open; a link with nobody open stays as it is,
-- or is written over the new denominator
pub record LinksAfter (k : Links) (l : Given) (r : Links) : Type 0 where
  pub at : (e : ℕ) → e < 64 → (s : ℕ) → s < 32 → has s (get_or r.at e 0) ≡ min (has s (get_or k.at e 0)) (1 - has s l.chosen)
  pub small : (e : ℕ) → e < 64 → get_or r.at e 0 ≤ get_or k.at e 0
  pub room : (e : ℕ) → e < 64 → 0 < get_or k.at e 0
      → get_or r.room e 0 + l.room * ones (bit_and (get_or k.at e 0) l.chosen) ≡ get_or k.room e 0 * l.count
  pub still : (e : ℕ) → e < 64 → get_or k.at e 0 ≡ 0
      → (get_or r.room e 0 ≡ get_or k.room e 0) ⊎ (get_or r.room e 0 ≡ get_or k.room e 0 * l.count)
  pub last : Remembers (λ t. has t l.chosen ≡ 1) k r
  pub count : Counted r.at r.count
  pub busy : Busy r.busy r.at
  pub long : Whole r

-- the chosen get the share; the other rates are written over the new denominator
unfoldable pub rate_after : Given → ℕ → ℕ → ℕ
rate_after l x s = cond (eqb (has s l.chosen) 1) l.room (x * l.count)

-- rates whose products fit; and a session that is not one of these has none and gets none
pub record RatesFit (x : List ℕ) (these : ℕ) (l : Given) : Type 0 where
  pub long : length x ≡ 32
  pub small : (s : ℕ) → s < 32 → get_or x s 0 ≤ parts_limit
  pub others : (s : ℕ) → s < 32 → has s these ≡ 0 → (get_or x s 0 ≡ 0) × (has s l.chosen ≡ 0)

pub record RatesAfter (x : List ℕ) (l : Given) (r : List ℕ) : Type 0 where
  pub rate : (s : ℕ) → s < 32 → get_or r s 0 ≡ rate_after l (get_or x s 0) s
  pub long : length r ≡ 32

-- fixed: no longer open
abbrev pub fixed_in : ℕ → ℕ → Bool
fixed_in opens s = eqb (has s opens) 0

-- what holds before and after each round
pub record Running (d : Declared) (z : Fill) : Type 0 where
  pub ranges : Ranges d
  pub word : z.opens < 4294967296
  pub links : LinksFit z.links
  pub whole : Whole z.links
  pub rates : length z.rate ≡ 32
  -- what holds in Figure 1, and its bound on the denominator
  pub filling : Filling (net (problem_of d)) z.den (λ s. get_or z.rate s 0) (fixed_in z.opens)
  pub small : SmallDenominator (net (problem_of d)) z.den (fixed_in z.opens)
  pub declared : (s : ℕ) → s < 32 → has s z.opens ≤ has s d.sessions
  -- a link's word has the open sessions that cross it
  pub at : (e : ℕ) → e < 64 → (s : ℕ) → s < 32
      → (T ((net (problem_of d)).on e s) → has s (get_or z.links.at e 0) ≡ has s z.opens)
      × (T (not ((net (problem_of d)).on e s)) → has s (get_or z.links.at e 0) ≡ 0)
  -- where all are fixed, the one that was fixed last has the highest rate: no round gives less than one before it
  pub last : (e : ℕ) → e < 64 → get_or z.links.at e 0 ≡ 0 → (t : ℕ) → t < 32 → T ((net (problem_of d)).on e t)
      → T ((net (problem_of d)).on e (get_or z.links.last e 0)) × (get_or z.rate t 0 ≤ get_or z.rate (get_or z.links.last e 0) 0)
  -- a busy link's room is what is left of it
  pub room : (e : ℕ) → e < 64 → 0 < get_or z.links.at e 0
      → get_or z.links.room e 0 + load_at (net (problem_of d)) (λ s. get_or z.rate s 0) e ≡ z.den * get_or d.capacity e 0
  -- a link with nobody open keeps its room over the denominator of the round in which that came about, a divisor of this one
  pub kept : (e : ℕ) → e < 64
      → (c : ℕ) × (0 < c) × (left_at (net (problem_of d)) z.den (λ s. get_or z.rate s 0) e ≡ c * get_or z.links.room e 0)
