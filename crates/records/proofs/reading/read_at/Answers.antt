-- `records::read_at` meets its contract: refusal 2, then 3, then those of the kind.
-- Assumes nothing.
use mathlib.Core.Path.{refl, sym, ◌∙◌}
use Prim.Native.Nat.{◌+◌}
use lib.ListN.{get_or, length}
use native.Mathlib.Omega.{arith}
use borrow.Author.Tests.{le-leb, lt-leb}
use Rattle.records.specs.Format.{body_of, read_at, size_at}
use Rattle.fractions.proofs.Cases.{not_true, not-false, said_too}
use Rattle.records.specs.Run.{read_number}
use Rattle.records.proofs.PastEnd.{read_past_end}
use Rattle.records.proofs.TakenKinds.{taken_kind}
use Rattle.records.proofs.reading.read_at.Goals as goal

pub returns-then-s-at : goal.returns-then-s-at
returns-then-s-at c = said_too read_number (sym (read_past_end _ _ c.if-s-at.true _))

pub returns-then-not-takes : goal.returns-then-not-takes
unfolding read_at
returns-then-not-takes c = let e = sym c.takes.ensures ∙ not_true _ c.if-not-takes.true-raw in said_too read_number (rw e)

pub returns-then-s-at-2 : goal.returns-then-s-at-2
unfolding read_at size_at
returns-then-s-at-2 c = let a = c.args in
    let e = sym c.takes.ensures ∙ not-false _ c.if-not-takes.false-raw in
    said_too read_number (simp (e, lt-leb (a.at + (1 + body_of (get_or a.s.now a.at 0))) (length a.s.now) (omega (arith, c.body.ensures))))

pub body_at-requires : goal.body_at-requires
body_at-requires c =
    let a = c.args in
    let e = sym c.takes.ensures ∙ not-false _ c.if-not-takes.false-raw in
    let k = taken_kind a.call (get_or a.s.now a.at 0) e in
    (k.0, k.1, refl, omega (arith, c.body.ensures))

pub returns : goal.returns
unfolding read_at size_at
returns c = let a = c.args in
    let e = sym c.takes.ensures ∙ not-false _ c.if-not-takes.false-raw in
    said_too read_number
    (c.body_at.ensures ∙ simp (e, le-leb (a.at + (1 + body_of (get_or a.s.now a.at 0))) (length a.s.now) (omega (arith, c.body.ensures))))
