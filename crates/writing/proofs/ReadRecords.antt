-- A record that was written is read as what it was written from, by whichever call takes its kind.
-- Assumes nothing.
use Rattle.std.specs.Prelude.{Ok}
use mathlib.Core.Bool.{true}
use mathlib.Core.List.{List, [], ◌∷◌, ◌++◌}
use mathlib.Core.Path.{◌≡◌, ap, refl, ◌∙◌}
use Prim.Native.Nat.{ℕ, ◌+◌, ◌/◌, ◌%◌, ◌<◌, ◌≤◌}
use native.Mathlib.Omega.{arith}
use borrow.Author.Tests.{le-leb, lt-ltb}
use lib.Dec.{leb}
use lib.ListN.{get_or, length}
use lib.Seq.{get_or-append-add}
use Rattle.fairness.specs.Figure1.{values}
use Rattle.fairness.proofs.Running.{values_at}
use Rattle.records.specs.Format.{a_session, be4, body_at, body_of, link_at, path_ok, rate_ok, read_at, session_at, size_at, takes_of}
use Rattle.records.specs.declared.Call.{Call}
use Rattle.records.specs.declared.Call.TheVariants as call
use Rattle.records.specs.declared.Record.TheVariants as rec
use Rattle.records.proofs.Rates.{rate_is}
use Rattle.writing.specs.Writing.{bytes4, link_record, session_record}
use Rattle.writing.proofs.Appending.{Stands}

-- NUMBERS -------------------------------------------------------------------------------------------------------------

-- four bytes of a number give it back
number_back : (s : List ℕ) (at n : ℕ) → n < 4294967296
    → get_or s at 0 ≡ n / 256 / 256 / 256 → get_or s (at + 1) 0 ≡ n / 256 / 256 % 256 → get_or s (at + 2) 0 ≡ n / 256 % 256 → get_or s (at + 3) 0 ≡ n % 256
    → be4 s at ≡ n
unfolding be4
number_back s at n h a b c d = omega (arith, a, b, c, d)

-- a rate that is in range is below 2 ^ 32
pub rate_lt : (n : ℕ) → rate_ok n ≡ true → n < 4294967296
rate_lt n e = omega (arith, (rate_is n e).1)

takes_link : (c : Call) → takes_of c 1 ≡ true
takes_link call.Calculation = refl
takes_link call.Machine = refl

takes_session : (c : Call) → takes_of c 2 ≡ true
takes_session call.Calculation = refl
takes_session call.Machine = refl

-- A LINK --------------------------------------------------------------------------------------------------------------

module _ (s : List ℕ) (at e capacity : ℕ) (there : Stands s at (link_record e capacity)) where
  link_kind : get_or s at 0 ≡ 1
  link_kind = there.byte 0 (omega arith) at (omega arith)

  pub link_size : size_at s at ≡ 6
  unfolding size_at body_of
  link_size = ap (λ (k : ℕ). 1 + body_of k) link_kind

  pub link_read : (c : Call) → e < 64 → rate_ok capacity ≡ true → read_at c s at ≡ Ok (rec.Link e capacity)
  unfolding read_at body_at link_at
  link_read c h r =
      let number : get_or s (at + 1) 0 ≡ e = there.byte 1 (omega arith) (at + 1) refl in
      let b2 : get_or s (at + 2) 0 ≡ capacity / 256 / 256 / 256 = there.byte 2 (omega arith) (at + 2) refl in
      let b3 : get_or s (at + 2 + 1) 0 ≡ capacity / 256 / 256 % 256 = there.byte 3 (omega arith) (at + 2 + 1) (omega arith) in
      let b4 : get_or s (at + 2 + 2) 0 ≡ capacity / 256 % 256 = there.byte 4 (omega arith) (at + 2 + 2) (omega arith) in
      let b5 : get_or s (at + 2 + 3) 0 ≡ capacity % 256 = there.byte 5 (omega arith) (at + 2 + 3) (omega arith) in
      let value = number_back s (at + 2) capacity (rate_lt capacity r) b2 b3 b4 b5 in
      let within : leb (at + 6) (length s) ≡ true = le-leb _ _ there.fits in
      rw (link_kind, takes_link c, link_size, within, number, value, lt-ltb e 64 h, r) refl

-- A SESSION -----------------------------------------------------------------------------------------------------------

module _ (s : List ℕ) (at t access maximum size : ℕ) (path : ℕ → ℕ) (there : Stands s at (session_record t access maximum size path)) where
  session_kind : get_or s at 0 ≡ 2
  session_kind = there.byte 0 (omega arith) at (omega arith)

  pub session_size : size_at s at ≡ 19
  unfolding size_at body_of
  session_size = ap (λ (k : ℕ). 1 + body_of k) session_kind

  -- its path stands at place 11
  pub session_path : (h : ℕ) → h < 8 → get_or s (at + 11 + h) 0 ≡ path h
  unfolding values
  session_path h l =
      there.byte (11 + h) (omega arith) (at + 11 + h) (omega arith)
      ∙ get_or-append-add (2 ∷ t ∷ (bytes4 access ++ (bytes4 maximum ++ (size ∷ [])))) (values 0 8 path) h 0
      ∙ values_at 8 h path 0 l

  pub session_read : (c : Call) → t < 32 → rate_ok access ≡ true → maximum ≤ 1000000 → path_ok s (at + 11) size ≡ true
      → read_at c s at ≡ Ok (a_session t access maximum size (at + 11))
  unfolding read_at body_at session_at values
  session_read c h r m p =
      let number : get_or s (at + 1) 0 ≡ t = there.byte 1 (omega arith) (at + 1) refl in
      let a2 : get_or s (at + 2) 0 ≡ access / 256 / 256 / 256 = there.byte 2 (omega arith) (at + 2) refl in
      let a3 : get_or s (at + 2 + 1) 0 ≡ access / 256 / 256 % 256 = there.byte 3 (omega arith) (at + 2 + 1) (omega arith) in
      let a4 : get_or s (at + 2 + 2) 0 ≡ access / 256 % 256 = there.byte 4 (omega arith) (at + 2 + 2) (omega arith) in
      let a5 : get_or s (at + 2 + 3) 0 ≡ access % 256 = there.byte 5 (omega arith) (at + 2 + 3) (omega arith) in
      let b6 : get_or s (at + 6) 0 ≡ maximum / 256 / 256 / 256 = there.byte 6 (omega arith) (at + 6) refl in
      let b7 : get_or s (at + 6 + 1) 0 ≡ maximum / 256 / 256 % 256 = there.byte 7 (omega arith) (at + 6 + 1) (omega arith) in
      let b8 : get_or s (at + 6 + 2) 0 ≡ maximum / 256 % 256 = there.byte 8 (omega arith) (at + 6 + 2) (omega arith) in
      let b9 : get_or s (at + 6 + 3) 0 ≡ maximum % 256 = there.byte 9 (omega arith) (at + 6 + 3) (omega arith) in
      let length-byte : get_or s (at + 10) 0 ≡ size = there.byte 10 (omega arith) (at + 10) refl in
      let first = number_back s (at + 2) access (rate_lt access r) a2 a3 a4 a5 in
      let second = number_back s (at + 6) maximum (omega arith) b6 b7 b8 b9 in
      let within : leb (at + 19) (length s) ≡ true = le-leb _ _ there.fits in
      rw (session_kind, takes_session c, session_size, within, number, first, second, length-byte, lt-ltb t 32 h, r, le-leb maximum 1000000 m, p) refl
