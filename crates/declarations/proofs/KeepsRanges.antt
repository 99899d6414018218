-- Declarations are within the ranges.
-- Assumes nothing.
use mathlib.Core.List.{List, [], ◌∷◌}
use Prim.Native.Nat.{ℕ, zero, suc, ◌≤◌}
use native.Mathlib.Omega.{arith}
use lib.ListN.{get_or, length, replicate, set}
use Rattle.records.specs.Format.{Bytes, RecordOk}
use Rattle.records.specs.Limits.{rate_limit}
use Rattle.records.specs.declared.Call.TheVariants as call
use Rattle.records.specs.declared.Record.{Record}
use Rattle.records.specs.declared.Record.TheVariants as rec
use Rattle.records.proofs.Runs.{run_keeps}
use Rattle.declarations.specs.Declaring.{declarations_of, declare_of, judging, none_declared}
use Rattle.declarations.specs.declared.Declared.{Declared}

-- a list of which every number is at most b
abbrev AtMost : ℕ → List ℕ → Type 0
AtMost b l = (i : ℕ) → get_or l i 0 ≤ b

set_at_most : (b : ℕ) (l : List ℕ) (i v : ℕ) → v ≤ b → AtMost b l → AtMost b (set l i v)
set_at_most b [] i v h a j = a j
set_at_most b (x ∷ l) zero v h a zero = h
set_at_most b (x ∷ l) zero v h a (suc j) = a (suc j)
set_at_most b (x ∷ l) (suc i) v h a zero = a 0
set_at_most b (x ∷ l) (suc i) v h a (suc j) = set_at_most b l i v h (λ k. a (suc k)) j

pub zeros_at_most : (b n : ℕ) → AtMost b (replicate n 0)
zeros_at_most b zero i = omega arith
zeros_at_most b (suc n) zero = omega arith
zeros_at_most b (suc n) (suc i) = zeros_at_most b n i

-- no capacity, access rate or maximum is over 1,000,000
pub record InRange (d : Declared) : Type 0 where
  pub capacity : AtMost rate_limit d.capacity
  pub access : AtMost rate_limit d.access
  pub maximum : AtMost rate_limit d.maximum

none_in_range : InRange none_declared
unfolding none_declared
none_in_range = record { capacity = zeros_at_most _ 64; access = zeros_at_most _ 32; maximum = zeros_at_most _ 32 }

declare_in_range : (s : List ℕ) (d : Declared) (x : Record) → InRange d → RecordOk s x → InRange (declare_of s d x)
unfolding declare_of
declare_in_range s d (rec.Link e c) p h =
    record { capacity = set_at_most _ d.capacity e c h.2 p.capacity; access = p.access; maximum = p.maximum }
declare_in_range s d (rec.Session x) p h =
    record {
      capacity = p.capacity;
      access = set_at_most _ d.access x.session x.access h.2 p.access;
      maximum = set_at_most _ d.maximum x.session x.maximum h.3 p.maximum;
    }
declare_in_range s d (rec.Leave t) p h = record { capacity = p.capacity; access = p.access; maximum = p.maximum }
declare_in_range s d (rec.Change t m) p h = record { capacity = p.capacity; access = p.access; maximum = p.maximum }
declare_in_range s d (rec.Deliver n) p h = record { capacity = p.capacity; access = p.access; maximum = p.maximum }

pub declarations_in_range : (s : List ℕ) → Bytes s → InRange (declarations_of s).declared
unfolding declarations_of
declarations_in_range s bytes =
    run_keeps InRange call.Calculation (judging s) (declare_of s) s bytes (λ z x p o t. declare_in_range s z x p o) (length s) none_declared 0 0 none_in_range
