-- A run of records, turn by turn: its end, a record that is taken, and one that is refused; what a run that finished did in its first turn; and what
-- every record that is taken keeps, a run keeps.
-- Assumes nothing.
use Rattle.std.specs.Prelude.{Result, Ok, Err, ⊤}
use mathlib.Core.Bool.{Bool, cond, false, true}
use mathlib.Core.List.{List}
use mathlib.Core.Logic.{◌⊎◌, inl, inr}
use mathlib.Core.Path.{◌≡◌, ap, refl, ◌∙◌}
use Prim.Native.Nat.{ℕ, zero, suc, ◌+◌, ◌-◌, ◌≤◌, ◌<◌}
use native.Mathlib.Omega.{arith}
use borrow.Author.Tests.{le-ltb, lt-ltb}
use lib.Dec.{ltb}
use lib.ListN.{length}
use Rattle.fractions.proofs.Cases.{order}
use Rattle.records.specs.Format.{Bytes, RecordOk, read_at, size_at}
use Rattle.records.specs.Run.{Ran, after, judged, run_from}
use Rattle.records.specs.declared.Call.{Call}
use Rattle.records.specs.declared.Record.{Record}
use Rattle.records.specs.declared.Refusal.{Refusal}
use Rattle.records.specs.Refusals.{refused_at}
use Rattle.records.proofs.ReadRecords.{judged_record_ok, judged_taken}
use Rattle.records.proofs.Refusing.{not_ok}

-- TURN BY TURN --------------------------------------------------------------------------------------------------------

fuel : (l n : ℕ) → n < l → l - n ≡ suc (l - (n + 1))
fuel l n h = omega arith

module _ {S : Type 0} (c : Call) (judge : S → Record → Result ⊤ Refusal) (act : S → Record → S) (s : List ℕ) where
  -- past the last byte
  pub run_end : (k : ℕ) (z : S) (n at : ℕ) → length s ≤ at → run_from c judge act s k z n at ≡ record { state = z; taken = n; end = Ok tt }
  unfolding run_from
  run_end zero z n at h = refl
  run_end (suc k) z n at h = rw (le-ltb at (length s) h)

  -- a record that is taken
  pub run_takes : (k : ℕ) (z : S) (n at : ℕ) (x : Record) → at < length s → judged (read_at c s at) (judge z) ≡ Ok x
      → run_from c judge act s (suc k) z n at ≡ run_from c judge act s k (act z x) (n + 1) (at + size_at s at)
  unfolding run_from
  run_takes k z n at x b e = rw (lt-ltb at (length s) b, e)

  -- the same, of as many turns as bytes are left
  pub run_taken : (z : S) (n at : ℕ) (x : Record) → n ≤ at → at < length s → judged (read_at c s at) (judge z) ≡ Ok x
      → run_from c judge act s (length s - n) z n at ≡ run_from c judge act s (length s - (n + 1)) (act z x) (n + 1) (at + size_at s at)
  run_taken z n at x a b e =
      ap (λ (k : ℕ). run_from c judge act s k z n at) (fuel (length s) n (omega arith)) ∙ run_takes (length s - (n + 1)) z n at x b e

  -- one that is refused
  pub run_refused : (z : S) (n at : ℕ) (r : Refusal) → n ≤ at → at < length s → judged (read_at c s at) (judge z) ≡ Err r
      → run_from c judge act s (length s - n) z n at ≡ record { state = z; taken = n; end = Err (refused_at r at) }
  unfolding run_from
  run_refused z n at r a b e = rw (fuel (length s) n (omega arith), lt-ltb at (length s) b, e)

-- A RUN THAT FINISHED -------------------------------------------------------------------------------------------------

module _ {S : Type 0} (c : Call) (judge : S → Record → Result ⊤ Refusal) (act : S → Record → S) (s : List ℕ) where
  -- its first turn took a record, and the turns after it finished too
  pub record TookOne (k : ℕ) (z : S) (n at : ℕ) : Type 0 where
    pub within : at < length s
    pub what : Record
    pub taken : judged (read_at c s at) (judge z) ≡ Ok what
    pub rest : (run_from c judge act s k (act z what) (n + 1) (at + size_at s at)).end ≡ Ok tt

  took_one : (k : ℕ) (z : S) (n at : ℕ) → at < length s → (x : Result Record Refusal) → judged (read_at c s at) (judge z) ≡ x
      → (after x (λ y. run_from c judge act s k (act z y) (n + 1) (at + size_at s at)) z n at).end ≡ Ok tt → TookOne k z n at
  took_one k z n at l (Ok x) q f = record { within = l; what = x; taken = q; rest = f }
  took_one k z n at l (Err r) q f = absurd (not_ok (refused_at r at) tt f)

  -- it was past the last byte, or took one
  pub finished_turn : (k : ℕ) (z : S) (n at : ℕ) → (run_from c judge act s (suc k) z n at).end ≡ Ok tt → (length s ≤ at) ⊎ TookOne k z n at
  unfolding run_from
  finished_turn k z n at f = go (order (length s) at)
    where
      go : (length s ≤ at) ⊎ (at < length s) → (length s ≤ at) ⊎ TookOne k z n at
      go (inl l) = inl l
      go (inr l) = inr (took_one k z n at l (judged (read_at c s at) (judge z)) refl (rw (lt-ltb at (length s) l) at f))

-- WHAT A RUN KEEPS ----------------------------------------------------------------------------------------------------

module _ {S : Type 0} (P : S → Type 0) where
  cond_keeps : (t : Bool) (a b : Ran S) → P a.state → P b.state → P (cond t a b).state
  cond_keeps true a b p q = p
  cond_keeps false a b p q = q

  after_keeps : (r : Result Record Refusal) (more : Record → Ran S) (z : S) (n at : ℕ) → P z → ((x : Record) → r ≡ Ok x → P (more x).state) → P (after r more z n at).state
  after_keeps (Ok x) more z n at p h = h x refl
  after_keeps (Err r) more z n at p h = p

  module _ (c : Call) (judge : S → Record → Result ⊤ Refusal) (act : S → Record → S) (s : List ℕ) (bytes : Bytes s)
      (keeps : (z : S) (x : Record) → P z → RecordOk s x → judge z x ≡ Ok tt → P (act z x)) where
    -- what every record that is taken keeps
    pub run_keeps : (k : ℕ) (z : S) (n at : ℕ) → P z → P (run_from c judge act s k z n at).state
    unfolding run_from
    run_keeps zero z n at p = p
    run_keeps (suc k) z n at p =
        cond_keeps (ltb at (length s)) _ _
        (after_keeps (judged (read_at c s at) (judge z)) _ z n at p
        (λ x e. run_keeps k (act z x) (n + 1) (at + size_at s at) (keeps z x p (judged_record_ok c s at (judge z) x e bytes) (judged_taken (read_at c s at) (judge z) x e))))
        p
