-- `records::reading::link_at` meets its contract.
-- Assumes nothing.
use borrow.Author.Tests.{lt-ltb, le-ltb}
use mathlib.Core.Path.{sym, ◌∙◌}
use Rattle.fractions.proofs.Cases.{not_true, not-false}
use Rattle.records.specs.Format.{link_at}
use Rattle.records.proofs.reading.link_at.Goals as goal

pub returns-then-link-ge-LINKS : goal.returns-then-link-ge-LINKS
unfolding link_at
returns-then-link-ge-LINKS c = simp (le-ltb _ _ c.if-link-ge-LINKS.true)

pub returns-then-not-rate_ok : goal.returns-then-not-rate_ok
unfolding link_at
returns-then-not-rate_ok c = let e = sym c.rate_ok.ensures ∙ not_true _ c.if-not-rate_ok.true-raw in
    simp (← c.number4-capacity.ensures, lt-ltb _ _ c.if-link-ge-LINKS.false, e)

pub returns : goal.returns
unfolding link_at
returns c = let e = sym c.rate_ok.ensures ∙ not-false _ c.if-not-rate_ok.false-raw in
    simp (c.from.ensures, ← c.number4-capacity.ensures, lt-ltb _ _ c.if-link-ge-LINKS.false, e)
