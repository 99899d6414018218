-- `calculation::calculate` meets its contract: refusals 15 and 1, then the records, then the answer.
-- Assumes nothing.
use Rattle.std.specs.Prelude.{Result, ⊤}
use mathlib.Core.Path.{◌≡◌, sym, ap, ◌∙◌, subst}
use Prim.Native.Nat.{ℕ}
use native.Mathlib.Omega.{arith}
use mathlib.Core.List.{List}
use Rattle.std.proofs.lemmas.Result.{err_from_is_err_and}
use Rattle.declarations.specs.Declaring.{declarations_of}
use Rattle.declarations.specs.declared.Declarations.{Declarations}
use Rattle.filling.specs.Lines.{Ranges}
use Rattle.calculation.specs.Calculating.{Outcome, said_of, after_records, calculate_of, done_of, refusing}
use Rattle.calculation.specs.declared.Calculated.{Calculated}
use Rattle.calculation.proofs.Outcomes.{binds_of, by_records, ordered_of, ranges_of, short, too_long}
use Rattle.calculation.proofs.calculate.Goals as goal
use Rattle.records.specs.declared.Refused.{Refused}

-- a refusal leaves the slices as they were
told : (s n d p : List ℕ) {r : Result Calculated Refused} → calculate_of s n d p ≡ refusing r n d p
    → (r ≡ (calculate_of s n d p).answer) × (n ≡ (calculate_of s n d p).nums) × (d ≡ (calculate_of s n d p).dens) × (p ≡ (calculate_of s n d p).places)
told s n d p e = (
  ap (λ (o : Outcome). o.answer) (sym e),
  ap (λ (o : Outcome). o.nums) (sym e),
  ap (λ (o : Outcome). o.dens) (sym e),
  ap (λ (o : Outcome). o.places) (sym e),
)

pub returns-then-nums-lt-PLACES : goal.returns-then-nums-lt-PLACES
returns-then-nums-lt-PLACES c =
    let a = c.args in
    let s = a.s.now in
    let n = a.nums.now in
    let d = a.dens.now in
    let p = a.places.now in
    let e = short s n d p c.then-nums-lt-PLACES.either in
    record { exact = told s n d p e; said = ap (λ (o : Outcome). said_of o.answer) (sym e); ordered = omega arith; binds = omega arith }

pub returns-then-s-gt-INPUT : goal.returns-then-s-gt-INPUT
returns-then-s-gt-INPUT c =
    let a = c.args in
    let s = a.s.now in
    let n = a.nums.now in
    let d = a.dens.now in
    let p = a.places.now in
    let e = too_long s n d p c.if-nums-lt-PLACES.false c.if-dens-lt-PLACES.false c.if-places-lt-PLACES.false c.if-s-gt-INPUT.true in
    record { exact = told s n d p e; said = ap (λ (o : Outcome). said_of o.answer) (sym e); ordered = omega arith; binds = omega arith }

pub answer-requires : goal.answer-requires
answer-requires c = (
  subst (λ (x : Declarations). Ranges x.declared) (sym c.declare_all-read.ensures.exact) (ranges_of c.args.s.now (λ i. omega (arith, c.type_inv.s i))),
  c.if-nums-lt-PLACES.false,
  c.if-dens-lt-PLACES.false,
  c.if-places-lt-PLACES.false,
)

pub returns-in_err-read : goal.returns-in_err-read
returns-in_err-read c =
    let a = c.args in
    let s = a.s.now in
    let n = a.nums.now in
    let d = a.dens.now in
    let p = a.places.now in
    let e = by_records s n d p c.if-nums-lt-PLACES.false c.if-dens-lt-PLACES.false c.if-places-lt-PLACES.false c.if-s-gt-INPUT.false
    ∙ ap (λ (x : Result ⊤ Refused). after_records x (declarations_of s).declared n d p) (sym (ap (λ (x : Declarations). x.end) c.declare_all-read.ensures.exact) ∙ c.in_err-read.was) in
    let r = err_from_is_err_and c.from_residual.result c.from_residual.ensures.1 in
    rw (r.1, r.2) (record { exact = told s n d p e; said = ap (λ (o : Outcome). said_of o.answer) (sym e); ordered = omega arith; binds = omega arith })

pub returns : goal.returns
returns c =
    let a = c.args in
    let s = a.s.now in
    let n = a.nums.now in
    let d = a.dens.now in
    let p = a.places.now in
    let q = c.declare_all-read.ensures.exact in
    let e = by_records s n d p c.if-nums-lt-PLACES.false c.if-dens-lt-PLACES.false c.if-places-lt-PLACES.false c.if-s-gt-INPUT.false
    ∙ ap (λ (x : Result ⊤ Refused). after_records x (declarations_of s).declared n d p) (sym (ap (λ (x : Declarations). x.end) q) ∙ c.in_ok-read.was) in
    let o = ap (λ (x : Declarations). done_of x.declared n d p) q ∙ sym e in
    let t = c.answer.ensures in
    let x = t.0 ∙ ap (λ (z : Outcome). z.answer) o in
    let y = t.1 ∙ ap (λ (z : Outcome). z.nums) o in
    let w = t.2 ∙ ap (λ (z : Outcome). z.dens) o in
    let v = t.3 ∙ ap (λ (z : Outcome). z.places) o in
    record { exact = (x, y, w, v); said = ap said_of x; ordered = ordered_of s n d p _ _ _ x y w; binds = binds_of s n d p _ _ _ _ x y w v }
