-- A source that is read from any table, and a packet's kind, are within the limits that the tasks ask for.
-- Assumes nothing.
use mathlib.Core.List.{List}
use lib.Dec.{lit≤}
use Prim.Native.Nat.{ℕ}
use Rattle.ends.specs.Figure3.{Ready}
use Rattle.table.proofs.InRange.{source_in_range_lem}
use Rattle.table.specs.Values.{KindInRange}
use Rattle.table.specs.Words.{source_of}
use Rattle.tasks.specs.declared.Kind.{Kind}
use Rattle.tasks.specs.declared.Kind.TheVariants as kind
use Rattle.tasks.specs.Figure2.{KindSized}

pub ready : (w : List ℕ) (s : ℕ) → Ready (source_of w s)
ready w s = let z = source_in_range_lem w s in record { access = z.access; rate = z.rate }

pub kind_sized : (k : Kind) → KindInRange k → KindSized k
kind_sized (kind.Join x n) h = h.0
kind_sized (kind.Probe x n) h = h.0
kind_sized (kind.Response t x n) h = h.0
kind_sized kind.Update h = lit≤ tt
kind_sized kind.Bottleneck h = lit≤ tt
kind_sized (kind.SetBottleneck beta) h = lit≤ tt
kind_sized kind.Leave h = lit≤ tt
