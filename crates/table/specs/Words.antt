-- The machine's state as 9,153 words, and what stands where:
--   0      64 links of 3 words: capacity, the words of R and F
--   192    64 times 32 entries of 3 words, link by link: state, numerator, denominator
--   6336   32 sources of 24 words: active, access, maximum, free, state, updated, bottlenecked, told; numerator and denominator of the rate,
--          of the rate told, hops, and three that are not used; the 8 links of the path
--   7104   256 packets of 8 words: session, hop, down, kind, numerator, denominator, name, and tau of a Response or beta of a SetBottleneck
--   9152   how many packets are in flight
-- What one word says is in specs/Codes.antt.
-- Assumes nothing: definitions.
use Rattle.std.specs.Prelude.{Bool, cond, List, [], ◌∷◌, ℕ, zero, suc, ◌+◌, ◌-◌, ◌*◌, eqb, ltb, get_or, replicate, set}
use Rattle.fractions.specs.Fraction.{kept_of, max_rate}
use Rattle.fractions.specs.declared.Rate.{Rate}
use Rattle.links.specs.declared.Entry.{Entry}
use Rattle.tasks.specs.declared.Kind.{Kind}
use Rattle.tasks.specs.declared.Kind.TheVariants as kind
use Rattle.links.specs.declared.Link.{Link}
use Rattle.tasks.specs.declared.Packet.{Packet}
use Rattle.links.specs.declared.Place.{Place}
use Rattle.ends.specs.declared.Source.{Source}
use Rattle.table.specs.Codes.{bit_of, eta_code, eta_of, field_of, mu_code, mu_of, tau_code, tau_of, told_code, told_of, told_rate}

-- RUNS OF WORDS -------------------------------------------------------------------------------------------------------

-- the words vs stored from the place a + k on
abbrev pub store_from : List ℕ → ℕ → ℕ → List ℕ → List ℕ
store_from w a k [] = w
store_from w a k (v ∷ vs) = store_from (set w (a + k) v) a (suc k) vs

-- and from the place a on
abbrev pub store : List ℕ → ℕ → List ℕ → List ℕ
store w a [] = w
store w a (v ∷ vs) = store_from (set w a v) a 1 vs

-- eight words from the place a on
unfoldable pub block_at : List ℕ → ℕ → List ℕ
block_at w a =
    get_or w a 0
    ∷ get_or w (a + 1) 0
    ∷ get_or w (a + 2) 0
    ∷ get_or w (a + 3) 0
    ∷ get_or w (a + 4) 0
    ∷ get_or w (a + 5) 0
    ∷ get_or w (a + 6) 0
    ∷ get_or w (a + 7) 0
    ∷ []

unfoldable pub put_block : List ℕ → ℕ → List ℕ → List ℕ
put_block w a b =
    store
    w
    a
    (get_or b 0 0 ∷ get_or b 1 0 ∷ get_or b 2 0 ∷ get_or b 3 0 ∷ get_or b 4 0 ∷ get_or b 5 0 ∷ get_or b 6 0 ∷ get_or b 7 0 ∷ [])

-- LINKS AND THEIR ENTRIES ---------------------------------------------------------------------------------------------

unfoldable pub link_of : List ℕ → ℕ → Link
link_of w e = record {
  capacity = field_of max_rate (get_or w (e * 3) 0);
  r = field_of 4294967295 (get_or w (e * 3 + 1) 0);
  f = field_of 4294967295 (get_or w (e * 3 + 2) 0);
}

-- link e is declared: its capacity is 1 or more (01, refusal 5)
abbrev pub declared_in : List ℕ → ℕ → Bool
declared_in w e = ltb 0 (link_of w e).capacity

unfoldable pub put_link : List ℕ → ℕ → Link → List ℕ
put_link w e l = store w (e * 3) (l.capacity ∷ l.r ∷ l.f ∷ [])

-- the entry whose words stand from a on
unfoldable pub entry_of : List ℕ → ℕ → Entry
entry_of w a = record { mu = mu_of (get_or w a 0); rate = kept_of (get_or w (a + 1) 0) (get_or w (a + 2) 0) }

unfoldable pub put_entry : List ℕ → ℕ → Entry → List ℕ
put_entry w a x = store w a (mu_code x.mu ∷ x.rate.num ∷ x.rate.den ∷ [])

unfoldable pub entries_from : ℕ → List ℕ → ℕ → List Entry
entries_from zero w a = []
entries_from (suc k) w a = entry_of w a ∷ entries_from k w (a + 3)

unfoldable pub store_entries : List ℕ → ℕ → List Entry → List ℕ
store_entries w a [] = w
store_entries w a (x ∷ l) = store_entries (put_entry w a x) (a + 3) l

-- the 32 entries of link e, by session
unfoldable pub row_of : List ℕ → ℕ → List Entry
row_of w e = entries_from 32 w (192 + e * 96)

unfoldable pub put_row : List ℕ → ℕ → List Entry → List ℕ
put_row w e es = store_entries w (192 + e * 96) es

abbrev pub place_of : List ℕ → ℕ → Place
place_of w e = record { link = link_of w e; entries = row_of w e }

unfoldable pub put_place : List ℕ → ℕ → Place → List ℕ
put_place w e p = put_row (put_link w e p.link) e p.entries

-- SOURCES AND PATHS ---------------------------------------------------------------------------------------------------

-- a source from its first eight words b and the next eight c
unfoldable pub source_from : List ℕ → List ℕ → Source
source_from b c = record {
  active = eqb (get_or b 0 0) 1;
  access = field_of max_rate (get_or b 1 0);
  maximum = field_of max_rate (get_or b 2 0);
  free = eqb (get_or b 3 0) 1;
  mu = mu_of (get_or b 4 0);
  rate = kept_of (get_or c 0 0) (get_or c 1 0);
  updated = eqb (get_or b 5 0) 1;
  bottlenecked = eqb (get_or b 6 0) 1;
  told = told_of (get_or b 7 0) (get_or c 2 0) (get_or c 3 0);
}

unfoldable pub source_of : List ℕ → ℕ → Source
source_of w s = source_from (block_at w (6336 + s * 24)) (block_at w (6336 + s * 24 + 8))

-- the first eight words of a source
unfoldable pub head_words : Source → List ℕ
head_words z =
    bit_of z.active
    ∷ z.access
    ∷ z.maximum
    ∷ bit_of z.free
    ∷ mu_code z.mu
    ∷ bit_of z.updated
    ∷ bit_of z.bottlenecked
    ∷ told_code z.told
    ∷ []

-- the words of two rates
unfoldable pub put_rates : List ℕ → ℕ → Rate → Rate → List ℕ
put_rates w a x y = store w a (x.num ∷ x.den ∷ y.num ∷ y.den ∷ [])

-- all of a source but its hops and its path
unfoldable pub put_source : List ℕ → ℕ → Source → List ℕ
put_source w s z = put_rates (put_block w (6336 + s * 24) (head_words z)) (6336 + s * 24 + 8) z.rate (told_rate z.told)

-- how many links the path has
unfoldable pub hops_of : List ℕ → ℕ → ℕ
hops_of w s = field_of 8 (get_or w (6336 + s * 24 + 12) 0)

unfoldable pub put_hops : List ℕ → ℕ → ℕ → List ℕ
put_hops w s n = set w (6336 + s * 24 + 12) n

-- the link at place i of the path
unfoldable pub stop_of : List ℕ → ℕ → ℕ → ℕ
stop_of w s i = field_of 63 (get_or w (6336 + s * 24 + 16 + i) 0)

unfoldable pub stops_from : ℕ → List ℕ → ℕ → ℕ → List ℕ
stops_from zero w s i = []
stops_from (suc k) w s i = stop_of w s i ∷ stops_from k w s (i + 1)

-- the links of the path, in order
unfoldable pub path_of : List ℕ → ℕ → List ℕ
path_of w s = stops_from (hops_of w s) w s 0

-- eight bytes from the place at on become the words of the path
unfoldable pub put_path : List ℕ → ℕ → List ℕ → ℕ → List ℕ
put_path w s bytes at = put_block w (6336 + s * 24 + 16) (block_at bytes at)

-- the hop of link e on a path whose first link has the hop h, or 0 where it is not on it
unfoldable pub hop_from : ℕ → List ℕ → ℕ → ℕ
hop_from h [] e = 0
hop_from h (x ∷ l) e = cond (eqb x e) h (hop_from (suc h) l e)

-- 01: "Hop 0 is the source, hops 1 to n the links of the path"; 0 too where link e is not on the path of session s
abbrev pub hop_of : List ℕ → ℕ → ℕ → ℕ
hop_of w s e = hop_from 1 (path_of w s) e

-- PACKETS, IN ORDER OF SENDING ----------------------------------------------------------------------------------------

-- a kind from the last five of a packet's words
unfoldable pub kind_of : List ℕ → Kind
kind_of b =
    cond
    (eqb (get_or b 3 0) 1)
    (kind.Probe (kept_of (get_or b 4 0) (get_or b 5 0)) (eta_of (get_or b 6 0)))
    (cond
    (eqb (get_or b 3 0) 2)
    (kind.Response (tau_of (get_or b 7 0)) (kept_of (get_or b 4 0) (get_or b 5 0)) (eta_of (get_or b 6 0)))
    (cond
    (eqb (get_or b 3 0) 3)
    kind.Update
    (cond
    (eqb (get_or b 3 0) 4)
    kind.Bottleneck
    (cond
    (eqb (get_or b 3 0) 5)
    (kind.SetBottleneck (eqb (get_or b 7 0) 1))
    (cond (eqb (get_or b 3 0) 6) kind.Leave (kind.Join (kept_of (get_or b 4 0) (get_or b 5 0)) (eta_of (get_or b 6 0))))))))

unfoldable pub packet_from : List ℕ → Packet
packet_from b = record {
  session = field_of 31 (get_or b 0 0);
  hop = field_of 9 (get_or b 1 0);
  down = eqb (get_or b 2 0) 1;
  kind = kind_of b;
}

-- the words of a packet of session s, hop h and way d; words that its kind does not use are 0
abbrev pub words_for : ℕ → ℕ → ℕ → Kind → List ℕ
words_for s h d (kind.Join x n) = s ∷ h ∷ d ∷ 0 ∷ x.num ∷ x.den ∷ eta_code n ∷ 0 ∷ []
words_for s h d (kind.Probe x n) = s ∷ h ∷ d ∷ 1 ∷ x.num ∷ x.den ∷ eta_code n ∷ 0 ∷ []
words_for s h d (kind.Response t x n) = s ∷ h ∷ d ∷ 2 ∷ x.num ∷ x.den ∷ eta_code n ∷ tau_code t ∷ []
words_for s h d kind.Update = s ∷ h ∷ d ∷ 3 ∷ 0 ∷ 0 ∷ 0 ∷ 0 ∷ []
words_for s h d kind.Bottleneck = s ∷ h ∷ d ∷ 4 ∷ 0 ∷ 0 ∷ 0 ∷ 0 ∷ []
words_for s h d (kind.SetBottleneck beta) = s ∷ h ∷ d ∷ 5 ∷ 0 ∷ 0 ∷ 0 ∷ bit_of beta ∷ []
words_for s h d kind.Leave = s ∷ h ∷ d ∷ 6 ∷ 0 ∷ 0 ∷ 0 ∷ 0 ∷ []

unfoldable pub packet_words : Packet → List ℕ
packet_words p = words_for p.session p.hop (bit_of p.down) p.kind

unfoldable pub packet_of : List ℕ → ℕ → Packet
packet_of w i = packet_from (block_at w (7104 + i * 8))

unfoldable pub put_packet : List ℕ → ℕ → Packet → List ℕ
put_packet w i p = put_block w (7104 + i * 8) (packet_words p)

-- how many packets are in flight
unfoldable pub count_of : List ℕ → ℕ
count_of w = field_of 256 (get_or w 9152 0)

unfoldable pub put_count : List ℕ → ℕ → List ℕ
put_count w n = set w 9152 n

unfoldable pub packets_from : ℕ → List ℕ → ℕ → List Packet
packets_from zero w i = []
packets_from (suc k) w i = packet_of w i ∷ packets_from k w (i + 1)

-- the packets in flight
unfoldable pub packets_of : List ℕ → List Packet
packets_of w = packets_from (count_of w) w 0

-- one packet more at the end, or as it was where 256 are in flight
unfoldable pub appended : List ℕ → Packet → List ℕ
appended w p = cond (ltb (count_of w) 256) (put_count (put_packet w (count_of w) p) (count_of w + 1)) w

-- k words from j on take what stands eight places further
unfoldable pub moved_up : ℕ → List ℕ → ℕ → List ℕ
moved_up zero w j = w
moved_up (suc k) w j = moved_up k (set w j (get_or w (j + 8) 0)) (j + 1)

-- the packets behind i move up by one place
unfoldable pub removed : List ℕ → ℕ → List ℕ
removed w i = put_count (moved_up ((count_of w - 1 - i) * 8) w (7104 + i * 8)) (count_of w - 1)

-- THE EMPTY TABLE -----------------------------------------------------------------------------------------------------

unfoldable pub empty_words : List ℕ
empty_words = replicate 9153 0
