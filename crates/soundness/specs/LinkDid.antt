-- What every rule of Figure 2 does to its link, whatever the packet: the link stays sound, only a Join makes an entry, a Leave ends its own, and
-- what is sent goes to sessions that the link holds.
-- Assumes nothing: definitions.
use Rattle.std.specs.Prelude.{Bool, false, true, ◌⊎◌, ◌≡◌, ℕ, ◌^◌, ◌<◌, None, Option, Some}
use Rattle.links.specs.declared.Place.{Place}
use Rattle.links.specs.Links.{B, is_fine}
use Rattle.sessions.specs.Set.{has}
use Rattle.table.specs.Values.{KindWithin}
use Rattle.tasks.specs.declared.Did.{Did}
use Rattle.tasks.specs.declared.Kind.{Kind}
use Rattle.tasks.specs.declared.Kind.TheVariants as kind
use Rattle.tasks.specs.Packets.{goes_down, is_leave}
use Rattle.soundness.specs.Sound.{Held, Sound}

-- whether a packet is a Join
abbrev pub is_join : Kind → Bool
is_join (kind.Join x η) = true
is_join (kind.Probe x η) = false
is_join (kind.Response τ x η) = false
is_join kind.Update = false
is_join kind.Bottleneck = false
is_join (kind.SetBottleneck β) = false
is_join kind.Leave = false

-- a packet j that is passed on in place of k: in range, the same way, and a Join or a Leave where k is one
pub record PassedOn (k j : Kind) : Type 0 where
  pub within : KindWithin j
  pub way : goes_down j ≡ goes_down k
  pub leave : is_leave j ≡ is_leave k
  pub join : is_join j ≡ is_join k

-- what goes on of the packet's own session: a Leave always does
abbrev pub GoesOn : Kind → Option Kind → Type 0
GoesOn k None = is_leave k ≡ false
GoesOn k (Some j) = PassedOn k j

-- the task of a link did d with a packet of kind k and session s
pub record LinkDid (s : ℕ) (k : Kind) (p : Place) (d : Did) : Type 0 where
  pub sound : Sound d.place
  pub capacity : d.place.link.capacity ≡ p.link.capacity
  pub held : (r : ℕ) → Held d.place r → Held p r ⊎ ((r ≡ s) × (is_join k ≡ true))
  pub gone : is_leave k ≡ true → Held d.place s → ⊥
  pub few : d.to < 2 ^ 32
  pub to : (r : ℕ) → has r d.to ≡ 1 → Held d.place r
  pub on : GoesOn k d.on
  pub fine : d.fine ≡ true → is_fine (B p) ≡ true → is_fine (B d.place) ≡ true
