-- `events::arrive` meets its contract: at the source, at the destination, or at a link.
-- Assumes nothing.
use mathlib.Core.Path.{subst, sym}
use native.Mathlib.Omega.{arith}
use borrow.Author.Tests.{eq-eqb, le-ltb, lt-ltb, ne_eqb}
use Prim.Native.Nat.{ℕ, ◌≤◌, ◌<◌}
use Rattle.table.proofs.InRange.{hops_most, stop_below}
use Rattle.events.specs.Events.{arrive_of}
use Rattle.events.proofs.arrive.Goals as goal

pub returns-then-p-eq0 : goal.returns-then-p-eq0
unfolding arrive_of
returns-then-p-eq0 c = rw (eq-eqb c.args.p.hop 0 c.if-p-eq0.true) c.at_source.ensures

pub returns-then-n-p : goal.returns-then-n-p
unfolding arrive_of
returns-then-n-p c = rw (ne_eqb c.args.p.hop 0 c.if-p-eq0.false, ← c.hops_at-n.ensures, lt-ltb _ _ c.if-n-p.true) c.at_destination.ensures

pub stop_at-e-requires : goal.stop_at-e-requires
stop_at-e-requires c = let h : c.hops_at-n.result ≤ 8 = subst (λ (n : ℕ). n ≤ 8) (sym c.hops_at-n.ensures) (hops_most _ _) in
    (c.requires.1.session, omega (arith, c.if-n-p.false, c.if-p-eq0.false))

pub at_link-requires : goal.at_link-requires
at_link-requires c = (c.requires.0, c.requires.1, subst (λ (n : ℕ). n < 64) (sym c.stop_at-e.ensures) (stop_below _ _ _))

pub returns : goal.returns
unfolding arrive_of
returns c = rw (ne_eqb c.args.p.hop 0 c.if-p-eq0.false, ← c.hops_at-n.ensures, le-ltb _ _ c.if-n-p.false, ← c.stop_at-e.ensures) c.at_link.ensures
