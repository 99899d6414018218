-- `records::reading::session_at` meets its contract: refusals 4, 5 and 6 in their order.
-- Assumes nothing.
use mathlib.Core.Path.{sym, ap, ◌∙◌}
use Prim.Native.Nat.{◌+◌}
use borrow.Author.Tests.{le-leb, lt-leb, lt-ltb, le-ltb}
use Rattle.records.specs.Format.{path_ok, session_at}
use Rattle.fractions.proofs.Cases.{not_true, not-false}
use Rattle.records.proofs.reading.session_at.Goals as goal

pub returns-then-session-ge-SESSIONS : goal.returns-then-session-ge-SESSIONS
unfolding session_at
returns-then-session-ge-SESSIONS c = simp (le-ltb _ _ c.if-session-ge-SESSIONS.true)

pub returns-then-not-rate_ok : goal.returns-then-not-rate_ok
unfolding session_at
returns-then-not-rate_ok c = let e = sym c.rate_ok.ensures ∙ not_true _ c.if-not-rate_ok.true-raw in
    simp (← c.number4-access.ensures, lt-ltb _ _ c.if-session-ge-SESSIONS.false, e)

pub returns-then-maximum-gt-RATE : goal.returns-then-maximum-gt-RATE
unfolding session_at
returns-then-maximum-gt-RATE c = let e = sym c.rate_ok.ensures ∙ not-false _ c.if-not-rate_ok.false-raw in
    simp (← c.number4-access.ensures, ← c.number4-maximum.ensures, lt-ltb _ _ c.if-session-ge-SESSIONS.false, e, lt-leb _ _ c.if-maximum-gt-RATE.true)

pub returns-then-not-path_ok : goal.returns-then-not-path_ok
unfolding session_at
returns-then-not-path_ok c = let a = c.args in
    let p = sym (c.path_ok.ensures ∙ ap (path_ok a.s.now (a.at + 11)) c.from-size.ensures) ∙ not_true _ c.if-not-path_ok.true-raw in
    let e = sym c.rate_ok.ensures ∙ not-false _ c.if-not-rate_ok.false-raw in
    simp (← c.number4-access.ensures, ← c.number4-maximum.ensures, lt-ltb _ _ c.if-session-ge-SESSIONS.false, e, le-leb _ _ c.if-maximum-gt-RATE.false, p)

pub returns : goal.returns
unfolding session_at
returns c = let a = c.args in
    let p = sym (c.path_ok.ensures ∙ ap (path_ok a.s.now (a.at + 11)) c.from-size.ensures) ∙ not-false _ c.if-not-path_ok.false-raw in
    let e = sym c.rate_ok.ensures ∙ not-false _ c.if-not-rate_ok.false-raw in
    simp (c.from.ensures, ← c.number4-access.ensures, ← c.number4-maximum.ensures, lt-ltb _ _ c.if-session-ge-SESSIONS.false, e, le-leb _ _ c.if-maximum-gt-RATE.false, p, c.from-size.ensures)
