-- 02, §3: "reading and writing a file in this order gives its bytes back": an input that the calculation's reader accepts, and that is in the writer's
-- order, is what is written of its declarations.
-- Assumes nothing.
use Rattle.std.specs.Prelude.{Ok}
use mathlib.Core.Bool.{◌&&◌, cond, true}
use mathlib.Core.List.{List}
use mathlib.Core.Logic.{◌⊎◌, inl, inr}
use mathlib.Core.Path.{◌≡◌, ap, subst, sym}
use Prim.Native.Nat.{ℕ, zero, suc, ◌+◌, ◌*◌, ◌<◌, ◌≤◌}
use native.Mathlib.Omega.{arith}
use borrow.Author.Tests.{leb-true, lt-ltb}
use lib.Dec.{leb, ltb}
use lib.ListN.{get_or, length}
use Rattle.fractions.proofs.Cases.{and_both}
use Rattle.sessions.proofs.Members.{has_zero}
use Rattle.records.specs.Format.{a_session, Bytes, RecordOk, be2, be4, body_of, read_at, size_at}
use Rattle.records.specs.Run.{Ran, judged, run_from}
use Rattle.records.specs.declared.Call.TheVariants as call
use Rattle.records.specs.declared.Record.{Record}
use Rattle.records.specs.declared.Record.TheVariants as rec
use Rattle.records.proofs.ReadRecords.{judged_read, judged_record_ends, judged_record_ok}
use Rattle.records.proofs.Runs.{TookOne, finished_turn, run_end, run_takes}
use Rattle.declarations.specs.Declaring.{declarations_of, declare_of, judging, none_declared}
use Rattle.declarations.specs.declared.Declared.{Declared}
use Rattle.declarations.proofs.KeepsLengths.{none_lengths}
use Rattle.writing.specs.Order.{in_order, rises_from}
use Rattle.writing.specs.Writing.{records_of}
use Rattle.writing.proofs.Rests.{Open, Rest, link_open, link_rest, rest_end, session_open, session_rest}
use Rattle.writing.proofs.ReadShapes.{IsLink, IsSession, link_bytes, read_shape, session_bytes}

-- ANY RECORD ----------------------------------------------------------------------------------------------------------

module _ (s : List ℕ) (bytes : Bytes s) (z : Declared) (low at : ℕ) (o : Open z low) (x : Record)
    (taken : judged (read_at call.Calculation s at) (judging s z) ≡ Ok x) (rises : low ≤ be2 s at) where
  ends : at + size_at s at ≤ length s
  ends = judged_record_ends call.Calculation s at (judging s z) x taken

  key : (k : ℕ) → get_or s at 0 ≡ k → be2 s at ≡ k * 256 + get_or s (at + 1) 0
  unfolding be2
  key k e = ap (λ (v : ℕ). v * 256 + get_or s (at + 1) 0) e

  size : (k : ℕ) → get_or s at 0 ≡ k → size_at s at ≡ 1 + body_of k
  unfolding size_at
  size k e = ap (λ (v : ℕ). 1 + body_of v) e

  ok : RecordOk s x
  ok = judged_record_ok call.Calculation s at (judging s z) x taken bytes

  open_as : (y : Record) (q : ℕ) → x ≡ y → be2 s at + 1 ≡ q → Open (declare_of s z y) q → Open (declare_of s z x) (be2 s at + 1)
  open_as y q e f h =
      subst (λ (v : Record). Open (declare_of s z v) (be2 s at + 1)) (sym e) (subst (λ (v : ℕ). Open (declare_of s z y) v) (sym f) h)

  rest_as : (d : Declared) (y : Record) (q b : ℕ) → x ≡ y → be2 s at + 1 ≡ q → at + size_at s at ≡ b
      → Rest s (declare_of s z x) d (be2 s at + 1) (at + size_at s at) → Rest s (declare_of s z y) d q b
  rest_as d y q b e f g h =
      subst (λ (v : Record). Rest s (declare_of s z v) d q b) e
      (subst (λ (v : ℕ). Rest s (declare_of s z x) d v b) f (subst (λ (v : ℕ). Rest s (declare_of s z x) d (be2 s at + 1) v) g h))

  abbrev After : Type 0
  After = Open (declare_of s z x) (be2 s at + 1)
      × ((d : Declared) → Rest s (declare_of s z x) d (be2 s at + 1) (at + size_at s at) → Rest s z d low at)

  link_after : IsLink s at x → After
  unfolding body_of
  link_after k =
      let e = get_or s (at + 1) 0 in
      let c = be4 s (at + 2) in
      let f : be2 s at + 1 ≡ 257 + e = omega (arith, key 1 k.kind) in
      let g : at + size_at s at ≡ at + 6 = ap (λ (v : ℕ). at + v) (size 1 k.kind) in
      let fits : RecordOk s (rec.Link e c) = subst (RecordOk s) k.what ok in
      let low-e : low ≤ 256 + e = omega (arith, key 1 k.kind) in (
        open_as (rec.Link e c) (257 + e) k.what f (link_open s z low at e c fits.0 low-e o),
        λ d r.
            link_rest s z low at e c fits.0 low-e o d (rest_as d (rec.Link e c) (257 + e) (at + 6) k.what f g r)
            (link_bytes s at bytes k.kind (omega (arith, ends, g))),
      )

  session_after : IsSession s at x → After
  unfolding body_of
  session_after k =
      let t = get_or s (at + 1) 0 in
      let a = be4 s (at + 2) in
      let m = be4 s (at + 6) in
      let n = get_or s (at + 10) 0 in
      let y = a_session t a m n (at + 11) in
      let f : be2 s at + 1 ≡ 513 + t = omega (arith, key 2 k.kind) in
      let g : at + size_at s at ≡ at + 19 = ap (λ (v : ℕ). at + v) (size 2 k.kind) in
      let fits : RecordOk s (a_session t a m n (at + 11)) = subst (RecordOk s) k.what ok in
      let low-t : low ≤ 512 + t = omega (arith, key 2 k.kind) in (
        open_as y (513 + t) k.what f (session_open s z low at t a m n fits.0 low-t o),
        λ d r.
            session_rest s z low at t a m n fits.0 low-t o d fits.4 (rest_as d y (513 + t) (at + 19) k.what f g r)
            (session_bytes s at bytes k.kind (omega (arith, ends, g))),
      )

  record_after : After
  record_after = go (read_shape s at x (judged_read (read_at call.Calculation s at) (judging s z) x taken))
    where
      go : IsLink s at x ⊎ IsSession s at x → After
      go (inl k) = link_after k
      go (inr k) = session_after k

-- ALL RECORDS ---------------------------------------------------------------------------------------------------------

-- a record has a byte at least
some : (s : List ℕ) (at : ℕ) → 0 < size_at s at
unfolding size_at
some s at = omega arith

module _ (s : List ℕ) (bytes : Bytes s) where
  abbrev run : ℕ → Declared → ℕ → ℕ → Ran Declared
  run k z n at = run_from call.Calculation (judging s) (declare_of s) s k z n at

  back_from : (k : ℕ) (z : Declared) (n at low : ℕ) → length s ≤ at + k → Open z low → (run k z n at).end ≡ Ok tt → rises_from k s at low ≡ true
      → Rest s z (run k z n at).state low at
  unfolding run_from rises_from
  back_from zero z n at low h o e r = rest_end s z low at (omega arith) o
  back_from (suc k) z n at low h o e r = go (finished_turn call.Calculation (judging s) (declare_of s) s k z n at e) r (λ y m p q. back_from k y m p q)
    where
      go : (length s ≤ at) ⊎ TookOne call.Calculation (judging s) (declare_of s) s k z n at
          → cond (ltb at (length s)) (leb low (be2 s at) && rises_from k s (at + size_at s at) (be2 s at + 1)) true ≡ true
          → ((y : Declared) (m p q : ℕ) → length s ≤ p + k → Open y q → (run k y m p).end ≡ Ok tt → rises_from k s p q ≡ true
          → Rest s y (run k y m p).state q p)
          → Rest s z (run (suc k) z n at).state low at
      go (inl l) g again =
          subst (λ (x : Ran Declared). Rest s z x.state low at) (sym (run_end call.Calculation (judging s) (declare_of s) s (suc k) z n at l)) (rest_end s z low at l o)
      go (inr t) g again =
          let b = and_both (leb low (be2 s at)) _ (rw (lt-ltb at (length s) t.within) at g) in
          let a = record_after s bytes z low at o t.what t.taken (leb-true _ _ b.0) in
          subst (λ (x : Ran Declared). Rest s z x.state low at) (sym (run_takes call.Calculation (judging s) (declare_of s) s k z n at t.what t.within t.taken))
          (a.1 _ (again (declare_of s z t.what) (n + 1) (at + size_at s at) (be2 s at + 1) (omega (arith, some s at)) a.0 t.rest b.1))

open_none : Open none_declared 0
unfolding none_declared
open_none =
    record {
      links = λ e h. has_zero e;
      sessions = λ t h. has_zero t;
      lengths = none_lengths;
    }

-- an accepted input in the writer's order is what is written of its declarations
pub bytes_back : (s : List ℕ) → Bytes s → (declarations_of s).end ≡ Ok tt → in_order s ≡ true → records_of (declarations_of s).declared ≡ s
unfolding declarations_of records_of in_order
bytes_back s bytes e i = sym (back_from s bytes (length s) none_declared 0 0 0 (omega arith) open_none e i).bytes
