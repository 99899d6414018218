-- What a record of the calculation's input is, byte by byte, where it is read: a link's or a session's, and its bytes those that are written for it.
-- Assumes nothing.
use Rattle.std.specs.Prelude.{Result, Ok, Err}
use mathlib.Core.Bool.{◌&&◌, ◌||◌, false, true}
use mathlib.Core.List.{List, [], ◌∷◌, ◌++◌}
use mathlib.Core.Logic.{◌⊎◌, inl, inr}
use mathlib.Core.Path.{◌≡◌, ap, ap₂, refl, subst, sym, ◌∙◌}
use Prim.Native.Nat.{ℕ, zero, suc, ◌+◌, ◌*◌, ◌/◌, ◌%◌, ◌≤◌}
use native.Mathlib.Omega.{arith}
use borrow.Author.Tests.{eqb-true}
use lib.Dec.{eqb, leb, ltb}
use lib.ListN.{drop, get_or, length}
use lib.Seq.{drop-cons}
use Rattle.fractions.proofs.Cases.{cases, or_either}
use Rattle.fairness.specs.Figure1.{values}
use Rattle.records.specs.Format.{a_session, Bytes, be4, body_at, link_at, path_ok, rate_ok, read_at, session_at, takes_of}
use Rattle.records.specs.declared.Call.TheVariants as call
use Rattle.records.specs.declared.Record.{Record}
use Rattle.records.specs.declared.Record.TheVariants as rec
use Rattle.records.specs.declared.Refusal.{Refusal}
use Rattle.records.proofs.Somes.{clash}
use Rattle.writing.specs.Writing.{bytes4, link_record, session_record}

-- SHAPES --------------------------------------------------------------------------------------------------------------

pub record IsLink (s : List ℕ) (at : ℕ) (x : Record) : Type 0 where
  pub kind : get_or s at 0 ≡ 1
  pub what : x ≡ rec.Link (get_or s (at + 1) 0) (be4 s (at + 2))

pub record IsSession (s : List ℕ) (at : ℕ) (x : Record) : Type 0 where
  pub kind : get_or s at 0 ≡ 2
  pub what : x ≡ a_session (get_or s (at + 1) 0) (be4 s (at + 2)) (be4 s (at + 6)) (get_or s (at + 10) 0) (at + 11)

abbrev Shape : List ℕ → ℕ → Result Record Refusal → Type 0
Shape s at (Ok x) = IsLink s at x ⊎ IsSession s at x
Shape s at (Err r) = 0 ≤ 0

none : 0 ≤ 0
none = omega arith

link_shape : (s : List ℕ) (at : ℕ) → get_or s at 0 ≡ 1 → Shape s at (link_at s at)
unfolding link_at
link_shape s at k =
    cases (Shape s at) (ltb (get_or s (at + 1) 0) 64) _ _
    (λ e. cases (Shape s at) (rate_ok (be4 s (at + 2))) _ _ (λ f. inl (record { kind = k; what = refl })) (λ f. none))
    (λ e. none)

session_shape : (s : List ℕ) (at : ℕ) → get_or s at 0 ≡ 2 → Shape s at (session_at s at)
unfolding session_at
session_shape s at k =
    cases (Shape s at) (ltb (get_or s (at + 1) 0) 32) _ _
    (λ e. cases (Shape s at) (rate_ok (be4 s (at + 2)) && leb (be4 s (at + 6)) 1000000) _ _
    (λ f. cases (Shape s at) (path_ok s (at + 11) (get_or s (at + 10) 0)) _ _ (λ g. inr (record { kind = k; what = refl })) (λ g. none))
    (λ f. none))
    (λ e. none)

body_shape : (s : List ℕ) (at : ℕ) → (eqb (get_or s at 0) 1 || eqb (get_or s at 0) 2) ≡ true → Shape s at (body_at s at)
unfolding body_at
body_shape s at t =
    cases (Shape s at) (eqb (get_or s at 0) 1) _ _ (λ e. link_shape s at (eqb-true _ _ e))
    (λ e. cases (Shape s at) (eqb (get_or s at 0) 2) _ _ (λ f. session_shape s at (eqb-true _ _ f)) (λ f. absurd (neither e f (or_either _ _ t))))
  where
    neither : eqb (get_or s at 0) 1 ≡ false → eqb (get_or s at 0) 2 ≡ false → (eqb (get_or s at 0) 1 ≡ true) ⊎ (eqb (get_or s at 0) 2 ≡ true) → ⊥
    neither e f (inl q) = clash _ q e
    neither e f (inr q) = clash _ q f

whole_shape : (s : List ℕ) (at : ℕ) → Shape s at (read_at call.Calculation s at)
unfolding read_at
whole_shape s at =
    cases (Shape s at) (takes_of call.Calculation (get_or s at 0)) _ _
    (λ t. cases (Shape s at) (leb _ (length s)) _ _ (λ f. body_shape s at t) (λ f. none))
    (λ t. none)

pub read_shape : (s : List ℕ) (at : ℕ) (x : Record) → read_at call.Calculation s at ≡ Ok x → IsLink s at x ⊎ IsSession s at x
read_shape s at x e = subst (Shape s at) e (whole_shape s at)

-- BYTES ---------------------------------------------------------------------------------------------------------------

-- so many bytes from a place on
drop_from : (n i : ℕ) (s : List ℕ) (at : ℕ) → at + (i + n) ≤ length s → drop (at + i) s ≡ values i n (λ j. get_or s (at + j) 0) ++ drop (at + (i + n)) s
unfolding values
drop_from zero i s at h = ap (λ (v : ℕ). drop v s) {x = at + i} {y = at + (i + 0)} (omega arith)
drop_from (suc n) i s at h =
    drop-cons s (at + i) 0 (omega arith)
    ∙ ap (λ (l : List ℕ). get_or s (at + i) 0 ∷ l)
    (ap (λ (v : ℕ). drop v s) {x = suc (at + i)} {y = at + suc i} (omega arith)
    ∙ drop_from n (suc i) s at (omega arith)
    ∙ ap (λ (v : ℕ). values (suc i) n (λ j. get_or s (at + j) 0) ++ drop v s) {x = at + (suc i + n)} {y = at + (i + suc n)} (omega arith))

pub drop_bytes : (n : ℕ) (s : List ℕ) (at : ℕ) → at + n ≤ length s → drop at s ≡ values 0 n (λ i. get_or s (at + i) 0) ++ drop (at + n) s
drop_bytes n s at h =
    ap (λ (v : ℕ). drop v s) {x = at} {y = at + 0} (omega arith)
    ∙ drop_from n 0 s at (omega arith)
    ∙ ap (λ (v : ℕ). values 0 n (λ i. get_or s (at + i) 0) ++ drop v s) {x = at + (0 + n)} {y = at + n} (omega arith)

-- four bytes are those of their number
number_bytes : (s : List ℕ) (at : ℕ) → Bytes s → bytes4 (be4 s at) ≡ get_or s at 0 ∷ get_or s (at + 1) 0 ∷ get_or s (at + 2) 0 ∷ get_or s (at + 3) 0 ∷ []
unfolding be4
number_bytes s at bytes =
    let a = get_or s at 0 in
    let b = get_or s (at + 1) 0 in
    let c = get_or s (at + 2) 0 in
    let d = get_or s (at + 3) 0 in
    let v = ((a * 256 + b) * 256 + c) * 256 + d in
    let ha = bytes at in
    let hb = bytes (at + 1) in
    let hc = bytes (at + 2) in
    let hd = bytes (at + 3) in
    let q : v / 256 ≡ (a * 256 + b) * 256 + c = omega arith in
    let p : v / 256 / 256 ≡ a * 256 + b = ap (λ (y : ℕ). y / 256) q ∙ omega arith in
    let o : v / 256 / 256 / 256 ≡ a = ap (λ (y : ℕ). y / 256) p ∙ omega arith in
    let o2 : v / 256 / 256 % 256 ≡ b = ap (λ (y : ℕ). y % 256) p ∙ omega arith in
    let o3 : v / 256 % 256 ≡ c = ap (λ (y : ℕ). y % 256) q ∙ omega arith in
    let o4 : v % 256 ≡ d = omega arith in
    rw (o, o2, o3, o4) refl

module _ (s : List ℕ) (at : ℕ) (bytes : Bytes s) where
  byte_at : (i j : ℕ) → i ≡ j → get_or s i 0 ≡ get_or s j 0
  byte_at i j e = ap (λ (v : ℕ). get_or s v 0) e

  -- the four bytes of a number, by their places in a record
  four : (i : ℕ) → bytes4 (be4 s (at + i)) ≡ get_or s (at + i) 0 ∷ get_or s (at + (i + 1)) 0 ∷ get_or s (at + (i + 2)) 0 ∷ get_or s (at + (i + 3)) 0 ∷ []
  four i =
      number_bytes s (at + i) bytes
      ∙ rw (
        byte_at (at + i + 1) (at + (i + 1)) (omega arith),
        byte_at (at + i + 2) (at + (i + 2)) (omega arith),
        byte_at (at + i + 3) (at + (i + 3)) (omega arith),
      )
      refl

  pub link_bytes : get_or s at 0 ≡ 1 → at + 6 ≤ length s → drop at s ≡ link_record (get_or s (at + 1) 0) (be4 s (at + 2)) ++ drop (at + 6) s
  unfolding values
  link_bytes k h =
      let first : get_or s (at + 0) 0 ≡ 1 = byte_at (at + 0) at (omega arith) ∙ k in
      drop_bytes 6 s at h ∙ ap₂ (λ (v : ℕ) (l : List ℕ). (v ∷ get_or s (at + 1) 0 ∷ l) ++ drop (at + 6) s) first (sym (four 2))

  pub session_bytes : get_or s at 0 ≡ 2 → at + 19 ≤ length s
      → drop at s
      ≡ session_record (get_or s (at + 1) 0) (be4 s (at + 2)) (be4 s (at + 6)) (get_or s (at + 10) 0) (λ h. get_or s (at + 11 + h) 0) ++ drop (at + 19) s
  unfolding values
  session_bytes k h =
      let path = values 0 8 (λ i. get_or s (at + 11 + i) 0) in
      let first : get_or s (at + 0) 0 ≡ 2 = byte_at (at + 0) at (omega arith) ∙ k in
      let rest : drop (at + 11) s ≡ path ++ drop (at + 19) s =
      drop_bytes 8 s (at + 11) (omega arith) ∙ ap (λ (v : ℕ). path ++ drop v s) {x = at + 11 + 8} {y = at + 19} (omega arith) in
      drop_bytes 11 s at (omega arith)
      ∙ ap (λ (l : List ℕ). values 0 11 (λ i. get_or s (at + i) 0) ++ l) rest
      ∙ ap (λ (v : ℕ). v ∷ get_or s (at + 1) 0 ∷ get_or s (at + 2) 0 ∷ get_or s (at + 3) 0 ∷ get_or s (at + 4) 0 ∷ get_or s (at + 5) 0 ∷ get_or s (at + 6) 0 ∷ get_or s (at + 7) 0 ∷ get_or s (at + 8) 0 ∷ get_or s (at + 9) 0 ∷ get_or s (at + 10) 0 ∷ (path ++ drop (at + 19) s)) first
      ∙ ap₂ (λ (a m : List ℕ). 2 ∷ get_or s (at + 1) 0 ∷ (a ++ (m ++ (get_or s (at + 10) 0 ∷ (path ++ drop (at + 19) s))))) (sym (four 2)) (sym (four 6))
