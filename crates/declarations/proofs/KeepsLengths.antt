-- Declarations stand in arrays whose lengths no record changes: 64 capacities, 32 access rates and maxima, and 256 path bytes.
-- Assumes nothing.
use mathlib.Core.List.{List}
use mathlib.Core.Path.{◌≡◌, refl, ◌∙◌}
use Prim.Native.Nat.{ℕ, ◌*◌}
use lib.ListN.{length, length-set}
use Rattle.records.specs.declared.Record.{Record}
use Rattle.records.specs.declared.Record.TheVariants as rec
use Rattle.declarations.specs.Declaring.{declare_of, none_declared}
use Rattle.declarations.specs.declared.Declared.{Declared}
use Rattle.declarations.proofs.Copied.{copied_long}

pub record Lengths (d : Declared) : Type 0 where
  pub capacity : length d.capacity ≡ 64
  pub access : length d.access ≡ 32
  pub maximum : length d.maximum ≡ 32
  pub path : length d.path ≡ 256

pub none_lengths : Lengths none_declared
unfolding none_declared
none_lengths = record { capacity = refl; access = refl; maximum = refl; path = refl }

pub declare_lengths : (s : List ℕ) (d : Declared) (x : Record) → Lengths d → Lengths (declare_of s d x)
unfolding declare_of
declare_lengths s d (rec.Link e c) r = record { capacity = length-set d.capacity e c ∙ r.capacity; access = r.access; maximum = r.maximum; path = r.path }
declare_lengths s d (rec.Session x) r =
    record {
      capacity = r.capacity;
      access = length-set d.access x.session x.access ∙ r.access;
      maximum = length-set d.maximum x.session x.maximum ∙ r.maximum;
      path = copied_long 8 d.path (x.session * 8) s x.path ∙ r.path;
    }
declare_lengths s d (rec.Leave t) r = record { capacity = r.capacity; access = r.access; maximum = r.maximum; path = r.path }
declare_lengths s d (rec.Change t m) r = record { capacity = r.capacity; access = r.access; maximum = r.maximum; path = r.path }
declare_lengths s d (rec.Deliver p) r = record { capacity = r.capacity; access = r.access; maximum = r.maximum; path = r.path }
