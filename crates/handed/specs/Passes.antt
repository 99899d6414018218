-- What a table that refusal 14 does not turn away is known to be, link by link, session by session and packet by packet.
-- Assumes nothing: definitions.
use Rattle.std.specs.Prelude.{false, true, List, ◌≡◌, ℕ, ◌+◌, ◌<◌, ◌≤◌, Ok, Err}
use Rattle.fractions.specs.declared.Rate.{Rate}
use Rattle.links.specs.declared.Place.{Place}
use Rattle.links.specs.declared.NoTotal.TheVariants as no_total
use Rattle.links.specs.Links.{B, holds, in_f, in_r, is_fine, sum_of}
use Rattle.ranges.specs.Ranges.{count_fits, entry_fits, link_fits, packet_fits, source_fits, standing_fits}
use Rattle.table.specs.Words.{count_of, hop_of, hops_of, link_of, packet_of, place_of, source_of, stop_of}
use Rattle.tasks.specs.Packets.{goes_down, is_leave}

-- a Leave of session s that hop h is still to see
pub record LeaveToCome (w : List ℕ) (s h : ℕ) : Type 0 where
  pub place : ℕ
  pub flying : place < count_of w
  pub session : (packet_of w place).session ≡ s
  pub leave : is_leave (packet_of w place).kind ≡ true
  pub hop : (packet_of w place).hop ≤ h

pub record Passes (w : List ℕ) : Type 0 where
  -- fields in their ranges, rates in lowest terms, and, in `sources`, no maximum above its access rate (02, §1)
  pub count : count_fits w ≡ true
  pub links : (e : ℕ) → e < 64 → link_fits w e ≡ true
  pub entries : (e s : ℕ) → e < 64 → s < 32 → holds (place_of w e) s ≡ true → entry_fits w e s ≡ true
  pub standing : (s : ℕ) → s < 32 → standing_fits w s ≡ true
  pub sources : (s : ℕ) → s < 32 → 0 < hops_of w s → source_fits w s ≡ true
  pub joined : (s : ℕ) → s < 32 → (source_of w s).active ≡ true → 0 < hops_of w s
  pub packets : (i : ℕ) → i < count_of w → packet_fits w i ≡ true
  -- paths
  pub declared : (s i : ℕ) → s < 32 → i < hops_of w s → 0 < (link_of w (stop_of w s i)).capacity
  pub once : (s i j : ℕ) → s < 32 → i < hops_of w s → j < i → stop_of w s j ≡ stop_of w s i → ⊥
  -- packets
  pub known : (i : ℕ) → i < count_of w → 0 < hops_of w (packet_of w i).session
  pub down : (i : ℕ) → i < count_of w → (packet_of w i).down ≡ true → (0 < (packet_of w i).hop) × ((packet_of w i).hop ≤ hops_of w (packet_of w i).session + 1)
  pub up : (i : ℕ) → i < count_of w → (packet_of w i).down ≡ false → (packet_of w i).hop ≤ hops_of w (packet_of w i).session
  pub way : (i : ℕ) → i < count_of w → (packet_of w i).down ≡ goes_down (packet_of w i).kind
  -- links and entries
  pub apart : (e s : ℕ) → e < 64 → s < 32 → in_r (place_of w e) s ≡ true → in_f (place_of w e) s ≡ false
  pub on_path : (e s : ℕ) → e < 64 → s < 32 → holds (place_of w e) s ≡ true → 0 < hop_of w s e
  pub live : (e s : ℕ) → e < 64 → s < 32 → holds (place_of w e) s ≡ true → (source_of w s).active ≡ false → LeaveToCome w s (hop_of w s e)
  pub within_c : (e : ℕ) → e < 64 → sum_of (place_of w e) ≡ Err no_total.PastC → ⊥
  pub fine : (e : ℕ) → e < 64 → is_fine (B (place_of w e)) ≡ true

-- the sum of F is a rate: no partial sum was too fine, and it is not past C
pub record SumIsRate (p : Place) : Type 0 where
  pub sum : Rate
  pub sums : sum_of p ≡ Ok sum
