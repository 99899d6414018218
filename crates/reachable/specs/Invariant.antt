-- What holds of every table that is reached. It is the test of refusal 14, and one clause more: every Join of a session that is not active has a
-- Leave of it behind it. The test alone is not kept by every step: where a Join stands behind its session's Leave, an entry is made that no Leave
-- will remove. What every step keeps from the test alone is `Safe`. w are the words of the table.
-- Assumes nothing: definitions.
use Rattle.std.specs.Prelude.{Bool, false, true, List, [], ◌∷◌, ◌⊎◌, ◌≡◌, ℕ, ◌+◌, ◌-◌, ◌<◌, ◌≤◌, length}
use Rattle.links.specs.Links.{B, is_fine}
use Rattle.soundness.specs.LinkDid.{is_join}
use Rattle.soundness.specs.Sound.{Held, Sound}
use Rattle.ranges.specs.Ranges.{count_fits, entry_fits, link_fits, packet_fits, source_fits, standing_fits}
use Rattle.table.specs.Values.{PacketWithin}
use Rattle.table.specs.Words.{count_of, hop_of, hops_of, link_of, packets_of, place_of, source_of, stop_of}
use Rattle.tasks.specs.declared.Packet.{Packet}
use Rattle.tasks.specs.Packets.{goes_down, is_leave}

-- the words in use are within their ranges
pub record Fits (w : List ℕ) : Type 0 where
  pub long : length w ≡ 9153
  pub count : count_fits w ≡ true
  pub links : (e : ℕ) → e < 64 → link_fits w e ≡ true
  pub entries : (e s : ℕ) → e < 64 → s < 32 → Held (place_of w e) s → entry_fits w e s ≡ true
  pub standing : (s : ℕ) → s < 32 → standing_fits w s ≡ true
  pub sources : (s : ℕ) → s < 32 → 0 < hops_of w s → source_fits w s ≡ true
  pub packets : (i : ℕ) → i < count_of w → packet_fits w i ≡ true

-- PACKETS -------------------------------------------------------------------------------------------------------------

-- some packet of a list, and every packet of it
pub data Some (P : Packet → Type 0) : List Packet → Type 0 where
  here : {q : Packet} {l : List Packet} → P q → Some P (q ∷ l)
  later : {q : Packet} {l : List Packet} → Some P l → Some P (q ∷ l)

pub data Every (P : Packet → Type 0) : List Packet → Type 0 where
  none : Every P []
  also : {q : Packet} {l : List Packet} → P q → Every P l → Every P (q ∷ l)

-- a Leave of session s that hop h is still to see
pub record LeaveFor (s h : ℕ) (q : Packet) : Type 0 where
  pub leave : is_leave q.kind ≡ true
  pub session : q.session ≡ s
  pub hop : q.hop ≤ h

abbrev pub Reaches : ℕ → ℕ → List Packet → Type 0
Reaches s h l = Some (LeaveFor s h) l

-- behind a Join q of a session that is not active there is a Leave of it: at an earlier hop, or at the same hop later in the list. `before` are the
-- packets that stand before q, in any order, and `after` those behind it
abbrev pub Followed : (ℕ → Bool) → List Packet → Packet → List Packet → Type 0
Followed active before q after =
    is_join q.kind ≡ true → active q.session ≡ false → Reaches q.session (q.hop - 1) before ⊎ Reaches q.session q.hop after

pub data AllFollowed (active : ℕ → Bool) : List Packet → List Packet → Type 0 where
  end : {before : List Packet} → AllFollowed active before []
  next : {before : List Packet} {q : Packet} {l : List Packet} → Followed active before q l → AllFollowed active (q ∷ before) l → AllFollowed active before (q ∷ l)

-- a packet of a session that has joined, on its path, going the way of its kind
pub record PacketOk (w : List ℕ) (q : Packet) : Type 0 where
  pub within : PacketWithin q
  pub known : 0 < hops_of w q.session
  pub way : q.down ≡ goes_down q.kind
  pub down : goes_down q.kind ≡ true → (0 < q.hop) × (q.hop ≤ hops_of w q.session + 1)
  pub up : goes_down q.kind ≡ false → q.hop ≤ hops_of w q.session

-- SESSIONS AND THEIR ENTRIES ------------------------------------------------------------------------------------------

-- an active session has a path, and every path is over declared links, none twice
pub record SourceOk (w : List ℕ) (s : ℕ) : Type 0 where
  pub joined : (source_of w s).active ≡ true → 0 < hops_of w s
  pub declared : (i : ℕ) → i < hops_of w s → 0 < (link_of w (stop_of w s i)).capacity
  pub once : (i j : ℕ) → i < hops_of w s → j < i → stop_of w s j ≡ stop_of w s i → ⊥

-- an entry of session s at link e: the link is on the session's path, and a session that is not active has a Leave that is still to reach the link
pub record EntryOk (w : List ℕ) (e s : ℕ) : Type 0 where
  pub on_path : 0 < hop_of w s e
  pub live : (source_of w s).active ≡ false → Reaches s (hop_of w s e) (packets_of w)

abbrev pub active_in : List ℕ → ℕ → Bool
active_in w s = (source_of w s).active

-- THE INVARIANT -------------------------------------------------------------------------------------------------------

-- what every record keeps, whatever stands behind a Join: the words in use are in range, each link is sound and within refusal 12, and paths and
-- packets are in order
pub record Safe (w : List ℕ) : Type 0 where
  pub fits : Fits w
  pub place : (e : ℕ) → e < 64 → Sound (place_of w e)
  pub fine : (e : ℕ) → e < 64 → is_fine (B (place_of w e)) ≡ true
  pub source : (s : ℕ) → s < 32 → SourceOk w s
  pub packets : Every (PacketOk w) (packets_of w)

-- and besides, each entry is as `EntryOk` says, and a Leave follows every Join of a session that is not active
pub record Inv (w : List ℕ) : Type 0 where
  pub safe : Safe w
  pub entry : (e s : ℕ) → e < 64 → s < 32 → Held (place_of w e) s → EntryOk w e s
  pub joins : AllFollowed (active_in w) [] (packets_of w)
