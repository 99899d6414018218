-- 01, "What the order covers": the limits; and 02, §1: the limit that a session's access rate is for its maximum.
-- Assumes nothing: definitions.
use Rattle.std.specs.Prelude.{Bool, ℕ, ltb}
use Rattle.fractions.specs.Fraction.{max_rate}

-- 64 links numbered 0 to 63
abbrev pub link_limit : ℕ
link_limit = 64

-- 32 sessions numbered 0 to 31
abbrev pub session_limit : ℕ
session_limit = 32

-- paths of 1 to 8 links
abbrev pub path_limit : ℕ
path_limit = 8

-- capacity and access rate 1 to 1,000,000 kbit/s; maximum 1 to 1,000,000, or 0 for no maximum
abbrev pub rate_limit : ℕ
rate_limit = max_rate

-- 02, §1: a nonzero maximum larger than the session's access rate. (0, which means none, is larger than no rate.)
abbrev pub above_line : ℕ → ℕ → Bool
above_line access maximum = ltb access maximum

-- 256 packets in flight
abbrev pub packet_limit : ℕ
packet_limit = 256

-- input up to 32,768 bytes
abbrev pub input_limit : ℕ
input_limit = 32768
