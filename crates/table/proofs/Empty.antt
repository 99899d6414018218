-- What is read from the empty table: nothing is declared, nobody has joined, and no packet is in flight.
-- Assumes nothing.
use Rattle.std.specs.Prelude.{None}
use mathlib.Core.Bool.{false}
use mathlib.Core.List.{[]}
use mathlib.Core.Path.{◌≡◌, refl}
use Prim.Native.Nat.{ℕ, zero, suc, ◌+◌, ◌*◌}
use lib.ListN.{get_or, length, length-replicate, replicate}
use Rattle.fractions.specs.Fraction.{kept_of, sized_of, zero_of}
use Rattle.links.specs.declared.Entry.{Entry}
use Rattle.links.specs.declared.Mu.TheVariants as mu
use Rattle.table.specs.Words.{block_at, count_of, empty_words, entries_from, entry_of, hops_of, link_of, packets_from, packets_of, path_of, row_of, source_from, source_of, stops_from}
use Rattle.table.specs.Codes.{field_of, mu_of, told_of}

zero_word : (n i : ℕ) → ◌≡◌ {A = ℕ} (get_or (replicate n 0) i 0) 0
zero_word zero i = refl
zero_word (suc n) zero = refl
zero_word (suc n) (suc i) = zero_word n i

pub empty_word : (i : ℕ) → get_or empty_words i 0 ≡ 0
unfolding empty_words
empty_word i = zero_word 9153 i

pub empty_length : length empty_words ≡ 9153
unfolding empty_words
empty_length = length-replicate {A = ℕ} 9153 0

pub empty_link : (e : ℕ) → link_of empty_words e ≡ record { capacity = 0; r = 0; f = 0 }
unfolding link_of field_of
empty_link e = rw (empty_word (e * 3), empty_word (e * 3 + 1), empty_word (e * 3 + 2))

-- Idle, at rate 0
abbrev pub idle : Entry
idle = record { mu = mu.Idle; rate = zero_of }

pub empty_entry : (a : ℕ) → entry_of empty_words a ≡ idle
unfolding entry_of mu_of kept_of sized_of
empty_entry a = rw (empty_word a, empty_word (a + 1), empty_word (a + 2))

empty_entries : (k a : ℕ) → entries_from k empty_words a ≡ replicate k idle
unfolding entries_from
empty_entries zero a = refl
empty_entries (suc k) a = rw (empty_entry a, empty_entries k (a + 3))

pub empty_row : (e : ℕ) → row_of empty_words e ≡ replicate 32 idle
unfolding row_of
empty_row e = empty_entries 32 (192 + e * 96)

pub empty_source : (s : ℕ)
    → source_of empty_words s
    ≡ record {
      active = false;
      access = 0;
      maximum = 0;
      free = false;
      mu = mu.Idle;
      rate = zero_of;
      updated = false;
      bottlenecked = false;
      told = None;
    }
unfolding source_of source_from block_at field_of mu_of kept_of sized_of told_of
empty_source s =
    rw (
      empty_word (6336 + s * 24),
      empty_word (6336 + s * 24 + 1),
      empty_word (6336 + s * 24 + 2),
      empty_word (6336 + s * 24 + 3),
      empty_word (6336 + s * 24 + 4),
      empty_word (6336 + s * 24 + 5),
      empty_word (6336 + s * 24 + 6),
      empty_word (6336 + s * 24 + 7),
      empty_word (6336 + s * 24 + 8),
      empty_word (6336 + s * 24 + 8 + 1),
    )

pub empty_hops : (s : ℕ) → hops_of empty_words s ≡ 0
unfolding hops_of field_of
empty_hops s = rw (empty_word (6336 + s * 24 + 12))

pub empty_path : (s : ℕ) → path_of empty_words s ≡ []
unfolding path_of stops_from
empty_path s = rw (empty_hops s)

pub empty_count : count_of empty_words ≡ 0
unfolding count_of field_of
empty_count = rw (empty_word 9152)

pub empty_packets : packets_of empty_words ≡ []
unfolding packets_of packets_from
empty_packets = rw empty_count
