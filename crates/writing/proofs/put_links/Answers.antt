-- `writing::put_links` meets its contract.
-- Assumes nothing.
use borrow.Author.Rules.{rules}
use mathlib.Core.Path.{◌≡◌, ap, ◌∙◌}
use lib.ListN.{length}
use lib.Seq.{length-sets}
use native.Mathlib.Omega.{arith}
use Rattle.sessions.proofs.Counts.{count_most}
use Rattle.sessions.proofs.Remaining.{none_left}
use Rattle.writing.specs.Writing.{link_from, records_from}
use Rattle.writing.proofs.Lengths.{links_long}
use Rattle.writing.proofs.Lowest.{Lowest, lowest_of}
use Rattle.writing.proofs.LaidOut.{done, laid_all, laid_fits, laid_none, laid_turn}
use Rattle.writing.proofs.put_links.Goals.{In-Some}
use Rattle.writing.proofs.put_links.Goals as goal

-- the next link
next : (c : In-Some) → Lowest 64 c.loop-e.e-iterator.left c.in-Some.e
next c = lowest_of 64 c.loop-e.e-iterator.left c.in-Some.e c.next.new.self.left c.loop-e.invariant.2.word c.in-Some.ensures.steps

pub loop-e-init : goal.loop-e-init
loop-e-init c =
    let d = c.args.d.now in
    let start : c.into_iter-e-iterator.result.left ≡ d.links = search rules in
    rw start (tt, tt, laid_none 64 (link_from d.capacity) d.links c.args.out.now c.args.from (omega arith))

pub put_link-requires : goal.put_link-requires
put_link-requires c =
    let a = c.args in
    let d = a.d.now in
    let z = c.loop-e in
    let n = next (goal.at.put_link-requires c).In-Some in
    let p = c.requires in (
      omega (
        arith,
        p.1,
        laid_fits 64 (link_from d.capacity) d.links a.out.now a.from z.e-iterator.left z.at z.out z.invariant.2 c.in-Some.e n.low n.here n.lowest,
        ap length z.invariant.2.bytes,
        length-sets a.out.now a.from (records_from 64 0 (done d.links z.e-iterator.left) (link_from d.capacity)),
      ),
      n.low,
      p.2 c.in-Some.e,
    )

pub overflow_add-at : goal.overflow_add-at
overflow_add-at c =
    let a = c.args in
    let d = a.d.now in
    let z = c.loop-e in
    let n = next (goal.at.overflow_add-at c).In-Some in
    omega (
      arith,
      laid_fits 64 (link_from d.capacity) d.links a.out.now a.from z.e-iterator.left z.at z.out z.invariant.2 c.in-Some.e n.low n.here n.lowest,
      c.requires.0,
      links_long d.links d.capacity,
      count_most 64 d.links,
    )

pub loop-e-preserved : goal.loop-e-preserved
loop-e-preserved c =
    let a = c.args in
    let d = a.d.now in
    let z = c.loop-e in
    let n = next (goal.at.loop-e-preserved c).In-Some in (
      tt,
      tt,
      laid_turn 64 (link_from d.capacity) d.links a.out.now a.from z.e-iterator.left z.at z.out z.invariant.2 c.in-Some.e n.low n.here n.lowest
          c.next.new.self.left c.in-Some.ensures.steps.3 _ c.put_link.ensures,
    )

pub shape_of-out : goal.shape_of-out
shape_of-out c =
    let a = c.args in
    let d = a.d.now in
    let z = c.loop-e in
    ap length z.invariant.2.bytes ∙ length-sets a.out.now a.from (records_from 64 0 (done d.links z.e-iterator.left) (link_from d.capacity))

pub returns : goal.returns
returns c =
    let a = c.args in
    let d = a.d.now in
    let z = c.loop-e in
    let none = none_left 64 z.e-iterator.left z.invariant.2.word c.in-None.ensures.steps.0 in
    laid_all 64 (link_from d.capacity) d.links a.out.now a.from z.e-iterator.left z.at z.out none z.invariant.2
