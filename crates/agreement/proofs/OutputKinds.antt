-- What the calculation accepts has records of kinds 1 and 2 alone, and so has all that is written of a set that can be declared.
-- Assumes nothing.
use Rattle.std.specs.Prelude.{Ok}
use mathlib.Core.Bool.{◌&&◌, cond, true}
use mathlib.Core.List.{List}
use mathlib.Core.Logic.{◌⊎◌, inl, inr}
use mathlib.Core.Path.{◌≡◌, refl}
use Prim.Native.Nat.{ℕ, zero, suc, ◌+◌, ◌≤◌}
use borrow.Author.Tests.{le-ltb, lt-ltb}
use lib.Dec.{ltb}
use lib.ListN.{length}
use Rattle.records.specs.Format.{read_at, size_at}
use Rattle.records.specs.Run.{Ran, run_from}
use Rattle.records.specs.declared.Call.TheVariants as call
use Rattle.records.specs.declared.Record.{Record}
use Rattle.records.proofs.ReadRecords.{judged_read}
use Rattle.records.proofs.Runs.{TookOne, finished_turn}
use Rattle.declarations.specs.Declaring.{declarations_of, declare_of, judging, none_declared}
use Rattle.declarations.specs.declared.Declared.{Declared}
use Rattle.writing.specs.Sets.{Declarable}
use Rattle.writing.specs.Writing.{records_of}
use Rattle.writing.proofs.ReadBack.{read_back}
use Rattle.writing.proofs.ReadShapes.{IsLink, IsSession, read_shape}
use Rattle.agreement.specs.Kinds.{declares_at, declares_from, declares_only}

module _ (s : List ℕ) where
  abbrev run : ℕ → Declared → ℕ → ℕ → Ran Declared
  run k z n at = run_from call.Calculation (judging s) (declare_of s) s k z n at

  kind_is : (at : ℕ) (x : Record) → IsLink s at x ⊎ IsSession s at x → declares_at s at ≡ true
  kind_is at x (inl k) = rw k.kind refl
  kind_is at x (inr k) = rw k.kind refl

  kinds_from : (k : ℕ) (z : Declared) (n at : ℕ) → (run k z n at).end ≡ Ok tt → declares_from k s at ≡ true
  unfolding declares_from
  kinds_from zero z n at e = refl
  kinds_from (suc k) z n at e = go (finished_turn call.Calculation (judging s) (declare_of s) s k z n at e) (λ y m p. kinds_from k y m p)
    where
      go : (length s ≤ at) ⊎ TookOne call.Calculation (judging s) (declare_of s) s k z n at
          → ((y : Declared) (m p : ℕ) → (run k y m p).end ≡ Ok tt → declares_from k s p ≡ true)
          → cond (ltb at (length s)) (declares_at s at && declares_from k s (at + size_at s at)) true ≡ true
      go (inl l) again = rw (le-ltb at (length s) l) refl
      go (inr t) again =
          rw (lt-ltb at (length s) t.within, kind_is at t.what (read_shape s at t.what (judged_read (read_at call.Calculation s at) (judging s z) t.what t.taken)))
          (again (declare_of s z t.what) (n + 1) (at + size_at s at) t.rest)

pub accepted_kinds : (s : List ℕ) → (declarations_of s).end ≡ Ok tt → declares_only s ≡ true
unfolding declarations_of declares_only
accepted_kinds s e = kinds_from s (length s) none_declared 0 0 e

pub output_kinds : (d : Declared) → Declarable d → declares_only (records_of d) ≡ true
output_kinds d ok = accepted_kinds (records_of d) (read_back d ok).0
