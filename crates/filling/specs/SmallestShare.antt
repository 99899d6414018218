-- The smallest share, found link by link: links 0 to 63, and the own limit of session s as link 64 + s. What is left of the links is counted in parts
-- of the common denominator, so shares are compared as room / count (01, "The direct calculation").
-- Assumes nothing: definitions.
use Rattle.std.specs.Prelude.{cond, List, ◌⊎◌, ◌≡◌, ℕ, ◌*◌, ◌-◌, ◌<◌, ◌≤◌, ◌^◌, eqb, ltb, get_or}
use Rattle.std.specs.Int.Bits.{bit_or}
use Rattle.std.specs.Int.Count.{ones}
use Rattle.sessions.specs.Set.{has}
use Rattle.declarations.specs.Declaring.{own_limit_of}
use Rattle.filling.specs.declared.Given.{Given}
use Rattle.filling.specs.declared.Links.{Links}
use Rattle.filling.specs.declared.Smallest.{Smallest}

-- the share l with the links of two equal shares
abbrev pub both_of : Smallest → ℕ → ℕ → Smallest
both_of l own link = record { room = l.room; count = l.count; own = bit_or l.own own; links = bit_or l.links link }

-- l, or the share of a link with so much room and so many open sessions, where that is smaller; of two equal ones the links of both.
-- A link with nobody open has no share.
unfoldable pub smaller_of : Smallest → ℕ → ℕ → ℕ → ℕ → Smallest
smaller_of l room count own link =
    cond (eqb count 0) l
    (cond (ltb (room * l.count) (l.room * count)) (record { room = room; count = count; own = own; links = link })
    (cond (eqb (room * l.count) (l.room * count)) (both_of l own link) l))

-- the own limits D
abbrev pub limits_of : List ℕ → List ℕ → ℕ → ℕ
limits_of access maximum s = own_limit_of (get_or access s 0) (get_or maximum s 0)

-- what is left of each link, how many sessions are open there, and which
abbrev pub room_of : List ℕ → ℕ → (ℕ → ℕ) → ℕ → ℕ
room_of room den D e = cond (ltb e 64) (get_or room e 0) (den * D (e - 64))

abbrev pub count_of : List ℕ → ℕ → ℕ → ℕ
count_of count opens e = cond (ltb e 64) (get_or count e 0) (has (e - 64) opens)

abbrev pub word_of : Links → ℕ → ℕ → ℕ
word_of k opens e = cond (ltb e 64) (get_or k.at e 0) (has (e - 64) opens * 2 ^ (e - 64))

-- 1 where link e is among the links, or the session of its own limit among the sessions
abbrev pub bit_of : ℕ → ℕ → ℕ → ℕ
bit_of own links e = cond (ltb e 64) (has e links) (has (e - 64) own)

-- every link with a session in its word, or in its count, is a member of the set
abbrev pub Busy : ℕ → List ℕ → Type 0
Busy busy at = (e : ℕ) → e < 64 → has e busy ≡ 0 → get_or at e 0 ≡ 0

-- how many sessions are in each word
abbrev pub Counted : List ℕ → List ℕ → Type 0
Counted at count = (e : ℕ) → e < 64 → get_or count e 0 ≡ ones (get_or at e 0)

abbrev pub below : ℕ → ℕ → Type 0
below n e = e < n

-- l is the smallest of the shares R e / K e of the links in S, or 1/0, and has exactly those of the links that have it
pub record SmallestAmong (S : ℕ → Type 0) (R K : ℕ → ℕ) (l : Smallest) : Type 0 where
  pub low : (e : ℕ) → S e → l.room * K e ≤ R e * l.count
  pub from : ((l.room ≡ 1) × (l.count ≡ 0)) ⊎ ((b : ℕ) × (b < 96) × (l.room ≡ R b) × (l.count ≡ K b) × (0 < K b))
  pub ok : (e : ℕ) → e < 96 → bit_of l.own l.links e ≡ 1 → (0 < K e) × (R e * l.count ≡ l.room * K e)
  pub all : (e : ℕ) → e < 96 → S e → 0 < K e → R e * l.count ≡ l.room * K e → bit_of l.own l.links e ≡ 1

-- l is the smallest of all shares R e / (count of W e), and has exactly the open sessions at the links that have it
pub record GivenAmong (R W : ℕ → ℕ) (l : Given) : Type 0 where
  pub low : (e : ℕ) → e < 96 → l.room * ones (W e) ≤ R e * l.count
  pub from : ((l.room ≡ 1) × (l.count ≡ 0)) ⊎ ((b : ℕ) × (b < 96) × (l.room ≡ R b) × (l.count ≡ ones (W b)) × (0 < W b))
  pub some : (s : ℕ) → s < 32 → has s l.chosen ≡ 1 → (e : ℕ) × (e < 96) × (has s (W e) ≡ 1) × (R e * l.count ≡ l.room * ones (W e))
  pub every : (s : ℕ) → s < 32 → (e : ℕ) → e < 96 → has s (W e) ≡ 1 → R e * l.count ≡ l.room * ones (W e) → has s l.chosen ≡ 1

-- NUMBERS WHOSE PRODUCTS FIT 64 BITS ----------------------------------------------------------------------------------

-- rooms and rates are of at most 2 ^ 40 parts of the common denominator
abbrev pub parts_limit : ℕ
parts_limit = 1099511627776

pub record SmallestFits (l : Smallest) : Type 0 where
  pub room : l.room ≤ parts_limit
  pub count : l.count ≤ 32
  pub own : l.own < 4294967296
  pub links : l.links < 18446744073709551616

pub record GivenFits (l : Given) : Type 0 where
  pub room : l.room ≤ parts_limit
  pub count : l.count ≤ 32
  pub chosen : l.chosen < 4294967296

-- every link with an open session is busy, and the sessions at a link are counted
pub record LinksFit (k : Links) : Type 0 where
  pub room : (e : ℕ) → e < 64 → get_or k.room e 0 ≤ parts_limit
  pub at : (e : ℕ) → e < 64 → get_or k.at e 0 < 4294967296
  pub count : Counted k.at k.count
  pub busy : Busy k.busy k.at

-- what the loop over the busy links asks
pub record SharesFit (set : ℕ) (rooms counts : List ℕ) : Type 0 where
  pub room : (e : ℕ) → e < 64 → get_or rooms e 0 ≤ parts_limit
  pub count : (e : ℕ) → e < 64 → get_or counts e 0 ≤ 32
  pub busy : Busy set counts

-- WHAT THE LOOPS FIND -------------------------------------------------------------------------------------------------

-- r is the smallest share among the links
pub record LeastLink (room count : List ℕ) (r : Smallest) : Type 0 where
  pub fits : SmallestFits r
  pub among : (den opens : ℕ) (D : ℕ → ℕ) → SmallestAmong (below 64) (room_of room den D) (count_of count opens) r

-- r is the smallest share of all, where l is the smallest among the links
pub record LeastOwn (l : Smallest) (den opens : ℕ) (access maximum : List ℕ) (r : Smallest) : Type 0 where
  pub fits : SmallestFits r
  pub among : (room count : List ℕ)
      → SmallestAmong (below 64) (room_of room den (limits_of access maximum)) (count_of count opens) l
      → SmallestAmong (below 96) (room_of room den (limits_of access maximum)) (count_of count opens) r
