-- What was read from an input is within the limits.
-- Assumes nothing.
use Rattle.std.specs.Prelude.{Result, Ok, Err, ⊤}
use mathlib.Core.Bool.{true}
use mathlib.Core.List.{List}
use mathlib.Core.Path.{◌≡◌, ap, refl, subst}
use Prim.Native.Nat.{ℕ, ◌+◌, ◌≤◌, ◌<◌}
use native.Mathlib.Omega.{arith}
use borrow.Author.Tests.{eqb-true, leb-true, ltb-true}
use lib.Dec.{eqb, leb, ltb}
use lib.ListN.{get_or, length}
use Rattle.records.specs.Format.{Bytes, RecordOk, be2, be4, body_at, body_of, change_at, deliver_at, leave_at, link_at, path_ok, rate_ok, read_at, session_at, size_at, takes_of}
use Rattle.records.specs.Run.{judged, weighed}
use Rattle.records.specs.declared.Call.{Call}
use Rattle.records.specs.declared.Record.{Record}
use Rattle.records.specs.declared.Refusal.{Refusal}
use Rattle.fractions.proofs.Cases.{and_both, cases}
use Rattle.records.proofs.Rates.{rate_is}
use Rattle.records.proofs.Refusing.{not_ok}

-- a path has 1 to 8 links
pub path_size_lem : (s : List ℕ) (at n : ℕ) → path_ok s at n ≡ true → (0 < n) × (n ≤ 8)
unfolding path_ok
path_size_lem s at n e =
    let a = and_both (ltb 0 n) _ e in
    let b = and_both (leb n 8) _ a.1 in
    (ltb-true 0 n a.0, leb-true n 8 b.0)

abbrev Within : List ℕ → Result Record Refusal → Type 0
Within s (Ok x) = RecordOk s x
Within s (Err r) = 0 ≤ 0

none : 0 ≤ 0
none = omega arith

link_ok : (s : List ℕ) (at : ℕ) → Within s (link_at s at)
unfolding link_at
link_ok s at =
    cases (Within s) (ltb (get_or s (at + 1) 0) 64) _ _
    (λ e. cases (Within s) (rate_ok (be4 s (at + 2))) _ _
    (λ f. let b = rate_is (be4 s (at + 2)) f in (ltb-true _ _ e, b.0, b.1))
    (λ f. none))
    (λ e. none)

session_ok : (s : List ℕ) (at : ℕ) → at + 19 ≤ length s → Within s (session_at s at)
unfolding session_at
session_ok s at h =
    cases (Within s) (ltb (get_or s (at + 1) 0) 32) _ _
    (λ e. cases (Within s) _ _ _
    (λ f. cases (Within s) (path_ok s (at + 11) (get_or s (at + 10) 0)) _ _
    (λ g.
    let b = and_both (rate_ok (be4 s (at + 2))) (leb (be4 s (at + 6)) 1000000) f in
    let a = rate_is (be4 s (at + 2)) b.0 in
    (ltb-true _ _ e, a.0, a.1, leb-true _ _ b.1, g, omega arith))
    (λ g. none))
    (λ f. none))
    (λ e. none)

leave_ok : (s : List ℕ) (at : ℕ) → Within s (leave_at s at)
unfolding leave_at
leave_ok s at = cases (Within s) (ltb (get_or s (at + 1) 0) 32) _ _ (λ e. ltb-true _ _ e) (λ e. none)

change_ok : (s : List ℕ) (at : ℕ) → Within s (change_at s at)
unfolding change_at
change_ok s at =
    cases (Within s) (ltb (get_or s (at + 1) 0) 32) _ _
    (λ e. cases (Within s) (leb (be4 s (at + 2)) 1000000) _ _ (λ f. (ltb-true _ _ e, leb-true _ _ f)) (λ f. none))
    (λ e. none)

deliver_ok : (s : List ℕ) (at : ℕ) → Bytes s → Within s (deliver_at s at)
unfolding deliver_at be2
deliver_ok s at bytes = omega (arith, bytes (at + 1), bytes (at + 1 + 1))

body_ok : (s : List ℕ) (at : ℕ) → Bytes s → at + (1 + body_of (get_or s at 0)) ≤ length s → Within s (body_at s at)
unfolding body_at body_of
body_ok s at bytes h =
    cases (Within s) (eqb (get_or s at 0) 1) _ _ (λ e. link_ok s at)
    (λ e. cases (Within s) (eqb (get_or s at 0) 2) _ _
    (λ f. session_ok s at (let k : body_of (get_or s at 0) ≡ 18 = ap body_of (eqb-true (get_or s at 0) 2 f) in omega arith))
    (λ f. cases (Within s) (eqb (get_or s at 0) 3) _ _ (λ g. leave_ok s at)
    (λ g. cases (Within s) (eqb (get_or s at 0) 4) _ _ (λ i. change_ok s at) (λ i. deliver_ok s at bytes))))

read_ok : (c : Call) (s : List ℕ) (at : ℕ) → Bytes s → Within s (read_at c s at)
unfolding read_at size_at
read_ok c s at bytes =
    cases (Within s) (takes_of c (get_or s at 0)) _ _
    (λ e. cases (Within s) (leb (at + (1 + body_of (get_or s at 0))) (length s)) _ _ (λ f. body_ok s at bytes (leb-true _ _ f)) (λ f. none))
    (λ e. none)

-- and it ends within the input
abbrev Ends : List ℕ → ℕ → Result Record Refusal → Type 0
Ends s at (Ok x) = at + size_at s at ≤ length s
Ends s at (Err r) = 0 ≤ 0

read_ends : (c : Call) (s : List ℕ) (at : ℕ) → Ends s at (read_at c s at)
unfolding read_at
read_ends c s at =
    cases (Ends s at) (takes_of c (get_or s at 0)) _ _
    (λ e. cases (Ends s at) (leb (at + size_at s at) (length s)) _ _ (λ f. here (body_at s at) (leb-true _ _ f)) (λ f. none))
    (λ e. none)
  where
    here : (r : Result Record Refusal) → at + size_at s at ≤ length s → Ends s at r
    here (Ok x) h = h
    here (Err r) h = none

-- a record that was read is within the limits
pub read_record_ok : (c : Call) (s : List ℕ) (at : ℕ) (x : Record) → Bytes s → read_at c s at ≡ Ok x → RecordOk s x
read_record_ok c s at x bytes e = subst (Within s) e (read_ok c s at bytes)

-- what was read is a record that the judge takes
abbrev Taking : (Record → Result ⊤ Refusal) → Result Record Refusal → Type 0
Taking judge (Ok x) = judge x ≡ Ok tt
Taking judge (Err r) = 0 ≤ 0

-- a record that passed the judge was read
pub judged_read : (r : Result Record Refusal) (judge : Record → Result ⊤ Refusal) (x : Record) → judged r judge ≡ Ok x → r ≡ Ok x
judged_read (Ok y) judge x e = taken (judge y) e
  where
    taken : (v : Result ⊤ Refusal) → weighed v y ≡ Ok x → ◌≡◌ {A = Result Record Refusal} (Ok y) (Ok x)
    taken (Ok u) q = q
    taken (Err r) q = absurd (not_ok r x q)
judged_read (Err r) judge x e = absurd (not_ok r x e)

-- and the judge took it
pub judged_taken : (r : Result Record Refusal) (judge : Record → Result ⊤ Refusal) (x : Record) → judged r judge ≡ Ok x → judge x ≡ Ok tt
judged_taken (Ok y) judge x e = taken (judge y) refl e
  where
    taken : (v : Result ⊤ Refusal) → judge y ≡ v → weighed v y ≡ Ok x → judge x ≡ Ok tt
    taken (Ok u) q f = subst (Taking judge) f q
    taken (Err r) q f = absurd (not_ok r x f)
judged_taken (Err r) judge x e = absurd (not_ok r x e)

module _ (c : Call) (s : List ℕ) (at : ℕ) (judge : Record → Result ⊤ Refusal) (x : Record) (e : judged (read_at c s at) judge ≡ Ok x) where
  pub judged_record_ok : Bytes s → RecordOk s x
  judged_record_ok bytes = read_record_ok c s at x bytes (judged_read (read_at c s at) judge x e)

  pub judged_record_ends : at + size_at s at ≤ length s
  judged_record_ends = subst (Ends s at) (judged_read (read_at c s at) judge x e) (read_ends c s at)
