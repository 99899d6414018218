-- `writing::put_sessions` meets its contract.
-- Assumes nothing.
use borrow.Author.Rules.{rules}
use mathlib.Core.Path.{◌≡◌, ap, ◌∙◌}
use lib.ListN.{length}
use lib.Seq.{length-sets}
use native.Mathlib.Omega.{arith}
use Rattle.sessions.proofs.Counts.{count_most}
use Rattle.sessions.proofs.Remaining.{none_left}
use Rattle.fairness.specs.Figure1.{values}
use Rattle.writing.specs.Writing.{session_from, records_from}
use Rattle.writing.proofs.Lengths.{sessions_long}
use Rattle.writing.proofs.Lowest.{Lowest, lowest_of}
use Rattle.writing.proofs.LaidOut.{done, laid_all, laid_fits, laid_none, laid_turn}
use Rattle.writing.proofs.put_sessions.Goals.{In-Some}
use Rattle.writing.proofs.put_sessions.Goals as goal

-- the next session
next : (c : In-Some) → Lowest 32 c.loop-t.t-iterator.left c.in-Some.t
next c = lowest_of 32 c.loop-t.t-iterator.left c.in-Some.t c.next.new.self.left c.loop-t.invariant.2.word c.in-Some.ensures.steps

pub loop-t-init : goal.loop-t-init
loop-t-init c =
    let d = c.args.d.now in
    let start : c.into_iter-t-iterator.result.left ≡ d.sessions = search rules in
    rw start (tt, tt, laid_none 32 (session_from d.access d.maximum d.path) d.sessions c.args.out.now c.args.from (omega arith))

pub put_session-requires : goal.put_session-requires
unfolding values
put_session-requires c =
    let a = c.args in
    let d = a.d.now in
    let z = c.loop-t in
    let n = next (goal.at.put_session-requires c).In-Some in
    let p = c.requires in (
      omega (
        arith,
        p.1,
        laid_fits 32 (session_from d.access d.maximum d.path) d.sessions a.out.now a.from z.t-iterator.left z.at z.out z.invariant.2 c.in-Some.t n.low n.here n.lowest,
        ap length z.invariant.2.bytes,
        length-sets a.out.now a.from (records_from 32 0 (done d.sessions z.t-iterator.left) (session_from d.access d.maximum d.path)),
      ),
      n.low,
      p.2 c.in-Some.t,
      p.3 c.in-Some.t,
    )

pub overflow_add-at : goal.overflow_add-at
unfolding values
overflow_add-at c =
    let a = c.args in
    let d = a.d.now in
    let z = c.loop-t in
    let n = next (goal.at.overflow_add-at c).In-Some in
    omega (
      arith,
      laid_fits 32 (session_from d.access d.maximum d.path) d.sessions a.out.now a.from z.t-iterator.left z.at z.out z.invariant.2 c.in-Some.t n.low n.here n.lowest,
      c.requires.0,
      sessions_long d.sessions d.access d.maximum d.path,
      count_most 32 d.sessions,
    )

pub loop-t-preserved : goal.loop-t-preserved
unfolding values
loop-t-preserved c =
    let a = c.args in
    let d = a.d.now in
    let z = c.loop-t in
    let n = next (goal.at.loop-t-preserved c).In-Some in (
      tt,
      tt,
      laid_turn 32 (session_from d.access d.maximum d.path) d.sessions a.out.now a.from z.t-iterator.left z.at z.out z.invariant.2 c.in-Some.t n.low n.here n.lowest
          c.next.new.self.left c.in-Some.ensures.steps.3 _ c.put_session.ensures,
    )

pub shape_of-out : goal.shape_of-out
shape_of-out c =
    let a = c.args in
    let d = a.d.now in
    let z = c.loop-t in
    ap length z.invariant.2.bytes ∙ length-sets a.out.now a.from (records_from 32 0 (done d.sessions z.t-iterator.left) (session_from d.access d.maximum d.path))

pub returns : goal.returns
returns c =
    let a = c.args in
    let d = a.d.now in
    let z = c.loop-t in
    let none = none_left 32 z.t-iterator.left z.invariant.2.word c.in-None.ensures.steps.0 in
    laid_all 32 (session_from d.access d.maximum d.path) d.sessions a.out.now a.from z.t-iterator.left z.at z.out none z.invariant.2
