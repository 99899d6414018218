-- `declarations::declare_all` meets its contract: what is left to read comes to what the whole input comes to.
-- Assumes nothing.
use mathlib.Core.Path.{◌≡◌, sym, ap, subst, ◌∙◌}
use Prim.Native.Nat.{◌+◌, ◌-◌, ◌≤◌, ◌<◌}
use lib.ListN.{length}
use native.Mathlib.Omega.{arith}
use native.Mathlib.Nat.{sub-zero}
use Rattle.fractions.proofs.Cases.{said_too}
use Rattle.records.specs.Run.{Ran, Said, run_from, run_of, said_of}
use Rattle.records.specs.declared.Call.TheVariants as call
use Rattle.records.proofs.ReadRecords.{judged_record_ends, judged_record_ok}
use Rattle.records.proofs.Runs.{run_end, run_refused, run_taken}
use Rattle.declarations.specs.Declaring.{declarations_of, declare_of, judging, none_declared}
use Rattle.declarations.specs.declared.Declarations.{Declarations}
use Rattle.declarations.specs.declared.Declared.{Declared}
use Rattle.declarations.proofs.declare_all.Goals.{After-size_at-at}
use Rattle.declarations.proofs.declare_all.Goals as goal

-- how a run of declarations ended
abbrev said : Declarations → Said
said z = said_of z.taken z.end

abbrev shown : Ran Declared → Declarations
shown r = record { declared = r.state; taken = r.taken; end = r.end }

-- the record ends within the input
ends : (c : After-size_at-at)
    → (0 < c.size_at-at.result) × (c.loop-at.at + c.size_at-at.result ≤ length c.args.s.now)
ends c =
    let s = c.args.s.now in
    let l = c.loop-at in (
      c.size_at-at.ensures.1,
      rw c.size_at-at.ensures.0
          (judged_record_ends call.Calculation s l.at (judging s l.declared) _ (sym c.next.ensures ∙ c.in-Ok.is)),
    )

pub loop-at-init : goal.loop-at-init
loop-at-init c = (omega arith, omega arith, rw (c.none-declared.ensures, sub-zero))

pub next-requires : goal.next-requires
next-requires c = omega arith

pub take-requires : goal.take-requires
take-requires c =
    let s = c.args.s.now in
    let l = c.loop-at in
    judged_record_ok call.Calculation s l.at (judging s l.declared) _ (sym c.next.ensures ∙ c.in-Ok.is) (λ i. omega (arith, c.type_inv.s i))

pub overflow_add-at : goal.overflow_add-at
overflow_add-at c = omega (arith, ends c)

pub overflow_add-taken : goal.overflow_add-taken
overflow_add-taken c = omega arith

pub loop-at-smaller : goal.loop-at-smaller
loop-at-smaller c = omega (arith, ends c)

pub loop-at-preserved : goal.loop-at-preserved
loop-at-preserved c =
    let s = c.args.s.now in
    let l = c.loop-at in
    let e = sym c.next.ensures ∙ c.in-Ok.is in (
      omega (arith, ends c),
      omega (arith, ends c),
      rw (c.take.ensures, c.size_at-at.ensures.0)
          (sym (run_taken call.Calculation (judging s) (declare_of s) s l.declared l.taken l.at _ l.invariant.0 c.loop-at-test.true e) ∙ l.invariant.2),
    )

pub returns-in-Err : goal.returns-in-Err
unfolding declarations_of
returns-in-Err c = let s = c.args.s.now in
    let l = c.loop-at in
    said_too said
    (ap shown
    (sym (run_refused call.Calculation (judging s) (declare_of s) s l.declared l.taken l.at _ l.invariant.0 c.loop-at-test.true (sym c.next.ensures ∙ c.in-Err.is)) ∙ l.invariant.2))

pub returns : goal.returns
unfolding declarations_of
returns c = let s = c.args.s.now in
    let l = c.loop-at in
    said_too said (ap shown (sym (run_end call.Calculation (judging s) (declare_of s) s (length s - l.taken) l.declared l.taken l.at c.loop-at-test.false) ∙ l.invariant.2))
