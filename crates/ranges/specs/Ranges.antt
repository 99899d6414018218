-- 01, refusal 14: the words that are in use are within their ranges, and (02, §1) no maximum is above its access rate. These tests read the words as
-- they stand.
-- Assumes nothing: definitions.
use Rattle.std.specs.Prelude.{Bool, ◌&&◌, cond, not, true, List, ℕ, zero, suc, ◌+◌, ◌*◌, eqb, leb, ltb, get_or}
use Rattle.fractions.specs.Fraction.{frac, is_rate_of, max_rate}
use Rattle.records.specs.Limits.{above_line}
use Rattle.table.specs.Words.{block_at}

-- at most 256 packets
unfoldable pub count_fits : List ℕ → Bool
count_fits w = leb (get_or w 9152 0) 256

-- a link's capacity, and the words of its R and F
unfoldable pub link_fits : List ℕ → ℕ → Bool
link_fits w e = leb (get_or w (e * 3) 0) max_rate && (leb (get_or w (e * 3 + 1) 0) 4294967295 && leb (get_or w (e * 3 + 2) 0) 4294967295)

-- the entry of session s at link e
unfoldable pub entry_fits : List ℕ → ℕ → ℕ → Bool
entry_fits w e s =
    leb (get_or w (192 + e * 96 + s * 3) 0) 2 && is_rate_of (frac (get_or w (192 + e * 96 + s * 3 + 1) 0) (get_or w (192 + e * 96 + s * 3 + 2) 0))

-- whether session s is active, and the length of its path
unfoldable pub standing_fits : List ℕ → ℕ → Bool
standing_fits w s = leb (get_or w (6336 + s * 24) 0) 1 && leb (get_or w (6336 + s * 24 + 12) 0) 8

-- of the first eight words of a source: active, free, updated, bottlenecked, told
unfoldable pub flags_fit : List ℕ → Bool
flags_fit b = leb (get_or b 0 0) 1 && (leb (get_or b 3 0) 1 && (leb (get_or b 5 0) 1 && (leb (get_or b 6 0) 1 && leb (get_or b 7 0) 1)))

-- access, maximum and state; the maximum is not above the line (02, §1)
unfoldable pub numbers_fit : List ℕ → Bool
numbers_fit b =
    ltb 0 (get_or b 1 0)
    && (leb (get_or b 1 0) max_rate && (leb (get_or b 2 0) max_rate && (not (above_line (get_or b 1 0) (get_or b 2 0)) && leb (get_or b 4 0) 2)))

-- of the next eight: the rate, and the rate told where one was
unfoldable pub rates_fit : ℕ → List ℕ → Bool
rates_fit told c = is_rate_of (frac (get_or c 0 0) (get_or c 1 0)) && cond (eqb told 1) (is_rate_of (frac (get_or c 2 0) (get_or c 3 0))) true

-- k links of a path from place i on
unfoldable pub stops_fit : ℕ → List ℕ → ℕ → ℕ → Bool
stops_fit zero w s i = true
stops_fit (suc k) w s i = leb (get_or w (6336 + s * 24 + 16 + i) 0) 63 && stops_fit k w s (i + 1)

-- the length of a path and its links
unfoldable pub path_fits : List ℕ → ℕ → Bool
path_fits w s = leb (get_or w (6336 + s * 24 + 12) 0) 8 && stops_fit (get_or w (6336 + s * 24 + 12) 0) w s 0

-- all that is kept of a session that has joined
unfoldable pub source_fits : List ℕ → ℕ → Bool
source_fits w s =
    flags_fit (block_at w (6336 + s * 24))
    && (numbers_fit (block_at w (6336 + s * 24))
    && (rates_fit (get_or w (6336 + s * 24 + 7) 0) (block_at w (6336 + s * 24 + 8)) && path_fits w s))

-- of a packet's words: the rate and the link that imposed it
unfoldable pub rated_fits : List ℕ → Bool
rated_fits b = is_rate_of (frac (get_or b 4 0) (get_or b 5 0)) && leb (get_or b 6 0) 64

-- the kind, and what its kind uses
unfoldable pub kind_fits : List ℕ → Bool
kind_fits b =
    cond
    (eqb (get_or b 3 0) 0)
    (rated_fits b)
    (cond
    (eqb (get_or b 3 0) 1)
    (rated_fits b)
    (cond
    (eqb (get_or b 3 0) 2)
    (leb (get_or b 7 0) 2 && rated_fits b)
    (cond (eqb (get_or b 3 0) 5) (leb (get_or b 7 0) 1) (leb (get_or b 3 0) 6))))

unfoldable pub words_fit : List ℕ → Bool
words_fit b = leb (get_or b 0 0) 31 && (leb (get_or b 1 0) 9 && (leb (get_or b 2 0) 1 && kind_fits b))

-- the packet at place i
unfoldable pub packet_fits : List ℕ → ℕ → Bool
packet_fits w i = words_fit (block_at w (7104 + i * 8))
