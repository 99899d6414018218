-- Values within their ranges. What is read from a table is so, whatever its words say; what is so is read back as it was written.
-- Assumes nothing: definitions.
use Rattle.std.specs.Prelude.{◌≤◌, ◌<◌, None, Option, Some}
use Rattle.fractions.specs.Fraction.{Sized, Within, max_rate}
use Rattle.tasks.specs.declared.Eta.{Eta}
use Rattle.tasks.specs.declared.Eta.TheVariants as eta
use Rattle.tasks.specs.declared.Kind.{Kind}
use Rattle.tasks.specs.declared.Kind.TheVariants as kind
use Rattle.links.specs.declared.Link.{Link}
use Rattle.tasks.specs.declared.Packet.{Packet}
use Rattle.links.specs.declared.Place.{Place}
use Rattle.links.specs.Links.{Rates}
use Rattle.ends.specs.declared.Source.{Source}
use Rattle.fractions.specs.declared.Rate.{Rate}

pub record LinkInRange (l : Link) : Type 0 where
  pub capacity : l.capacity ≤ max_rate
  pub r : l.r < 4294967296
  pub f : l.f < 4294967296

pub record PlaceInRange (p : Place) : Type 0 where
  pub link : LinkInRange p.link
  pub entries : Rates p.entries

abbrev pub ToldInRange : Option Rate → Type 0
ToldInRange None = Unit {0}
ToldInRange (Some x) = Sized max_rate x

pub record SourceInRange (z : Source) : Type 0 where
  pub access : z.access ≤ max_rate
  pub maximum : z.maximum ≤ max_rate
  pub rate : Sized max_rate z.rate
  pub told : ToldInRange z.told

abbrev pub EtaInRange : Eta → Type 0
EtaInRange eta.Own = Unit {0}
EtaInRange (eta.Link e) = e < 64

abbrev pub KindInRange : Kind → Type 0
KindInRange (kind.Join x n) = Sized max_rate x × EtaInRange n
KindInRange (kind.Probe x n) = Sized max_rate x × EtaInRange n
KindInRange (kind.Response t x n) = Sized max_rate x × EtaInRange n
KindInRange kind.Update = Unit {0}
KindInRange kind.Bottleneck = Unit {0}
KindInRange (kind.SetBottleneck beta) = Unit {0}
KindInRange kind.Leave = Unit {0}

pub record PacketInRange (p : Packet) : Type 0 where
  pub session : p.session < 32
  pub hop : p.hop ≤ 9
  pub kind : KindInRange p.kind

-- WITH RATES IN LOWEST TERMS: WHAT REFUSAL 14 ASKS OF THE WORDS IN USE ------------------------------------------------

abbrev pub ToldWithin : Option Rate → Type 0
ToldWithin None = Unit {0}
ToldWithin (Some x) = Within max_rate x

-- the source of a session that has joined
pub record SourceWithin (z : Source) : Type 0 where
  pub joined : 0 < z.access
  pub access : z.access ≤ max_rate
  pub maximum : z.maximum ≤ max_rate
  pub line : z.maximum ≤ z.access  -- 02, §1
  pub rate : Within max_rate z.rate
  pub told : ToldWithin z.told

abbrev pub KindWithin : Kind → Type 0
KindWithin (kind.Join x n) = Within max_rate x × EtaInRange n
KindWithin (kind.Probe x n) = Within max_rate x × EtaInRange n
KindWithin (kind.Response t x n) = Within max_rate x × EtaInRange n
KindWithin kind.Update = Unit {0}
KindWithin kind.Bottleneck = Unit {0}
KindWithin (kind.SetBottleneck beta) = Unit {0}
KindWithin kind.Leave = Unit {0}

pub record PacketWithin (p : Packet) : Type 0 where
  pub session : p.session < 32
  pub hop : p.hop ≤ 9
  pub kind : KindWithin p.kind
