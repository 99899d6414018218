-- `machine::run_records` meets its contract: what is left to run comes to the whole.
-- Assumes nothing.
use mathlib.Core.Path.{sym, ◌∙◌, ◌≡◌}
use native.Mathlib.Omega.{arith}
use Prim.Native.Nat.{◌-◌, ◌+◌, ◌≤◌, ◌<◌}
use lib.ListN.{length}
use native.Mathlib.Nat.{sub-zero}
use Rattle.records.specs.declared.Call.TheVariants as call
use Rattle.records.proofs.Runs.{run_end}
use Rattle.machine.specs.Machine.{acting, judging, run_records_of}
use Rattle.machine.proofs.Turns.{going, turn_ends, turn_refused, turn_taken}
use Rattle.machine.proofs.run_records.Goals.{After-size_at-at}
use Rattle.machine.proofs.run_records.Goals as goal

-- the record that was taken ends within the input
ends : (c : After-size_at-at) → (0 < c.size_at-at.result) × (c.loop-at.at + c.size_at-at.result ≤ length c.args.s.now)
ends c = (
  c.size_at-at.ensures.1,
  rw c.size_at-at.ensures.0
      (turn_ends c.args.s.now c.loop-at.t c.step-v.new.t c.loop-at.n c.loop-at.at c.step-v.result c.loop-at.invariant.0 c.loop-at-test.true c.step-v.ensures c.in-Ok.is),
)

pub loop-at-init : goal.loop-at-init
unfolding run_records_of
loop-at-init c = (omega arith, omega arith, rw sub-zero)

pub step-v-requires : goal.step-v-requires
step-v-requires c = omega arith

pub overflow_add-at : goal.overflow_add-at
overflow_add-at c = omega (arith, ends c)

pub loop-at-smaller : goal.loop-at-smaller
loop-at-smaller c = omega (arith, ends c)

pub loop-at-preserved : goal.loop-at-preserved
loop-at-preserved c =
    let s = c.args.s.now in
    let l = c.loop-at in
    let next : going s (length s - (l.n + 1)) c.step-v.new.t (l.n + 1) (l.at + c.size_at-at.result) ≡ run_records_of c.args.t.now s = rw c.size_at-at.ensures.0 (sym (turn_taken c.args.s.now c.loop-at.t c.step-v.new.t c.loop-at.n c.loop-at.at c.step-v.result c.loop-at.invariant.0 c.loop-at-test.true c.step-v.ensures c.in-Ok.is) ∙ c.loop-at.invariant.2) in
    (omega (arith, ends c), omega (arith, ends c), next)

pub returns-in-Err : goal.returns-in-Err
returns-in-Err c = sym (turn_refused c.args.s.now c.loop-at.t c.step-v.new.t c.loop-at.n c.loop-at.at c.step-v.result c.loop-at.invariant.0 c.loop-at-test.true c.step-v.ensures _ c.in-Err.is) ∙ c.loop-at.invariant.2

pub returns : goal.returns
returns c = sym (run_end call.Machine (judging c.args.s.now) (acting c.args.s.now) c.args.s.now (length c.args.s.now - c.loop-at.n) c.loop-at.t c.loop-at.n c.loop-at.at c.loop-at-test.false) ∙ c.loop-at.invariant.2
