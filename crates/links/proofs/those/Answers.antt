-- `links::those` meets its contract: what the closure answers is what the test does, and a turn of the loop is one of the walk.
-- Assumes nothing.
use Rattle.std.proofs.Common.{rules}
use mathlib.Core.Path.{◌≡◌, sym, ◌∙◌}
use Rattle.sessions.proofs.Loops.{walk_last, walk_next}
use Rattle.links.specs.Links.{add_if, those_of}
use Rattle.links.proofs.those.Goals as goal

pub loop-s-init : goal.loop-s-init
unfolding those_of
loop-s-init g c = λ meets t. search rules

pub loop-s-preserved-then-asked : goal.loop-s-preserved-then-asked
loop-s-preserved-then-asked g c = λ meets t.
    let yes = t _ _ (c.requires.rates.sized _ c.in-Some.ensures.steps.1) c.asked.ensures in
    let step : c.put-found.result ≡ add_if meets c.args.p.entries c.loop-s.found c.in-Some.s = rw (sym yes ∙ c.if-asked.true) c.put-found.ensures in
    cc (walk_next (add_if meets c.args.p.entries) _ c.in-Some.ensures.steps.0 step, c.loop-s.invariant meets t)

pub loop-s-preserved : goal.loop-s-preserved
loop-s-preserved g c = λ meets t.
    let yes = t _ _ (c.requires.rates.sized _ c.in-Some.ensures.steps.1) c.asked.ensures in
    let step : c.loop-s.found ≡ add_if meets c.args.p.entries c.loop-s.found c.in-Some.s = rw (sym yes ∙ c.if-asked.false) in
    cc (walk_next (add_if meets c.args.p.entries) _ c.in-Some.ensures.steps.0 step, c.loop-s.invariant meets t)

pub returns : goal.returns
returns g c = λ meets t. walk_last _ _ c.in-None.ensures.steps.0 ∙ c.loop-s.invariant meets t
