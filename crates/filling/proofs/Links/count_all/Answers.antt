-- `filling::Links::count_all` meets its contract.
-- Assumes nothing.
use borrow.Author.Rules.{rules}
use mathlib.Core.Path.{◌≡◌, refl, sym, ap, ◌∙◌}
use native.Mathlib.Omega.{arith}
use lib.Count.{ones, ones_in}
use lib.ListN.{get_or, get_or-replicate, length, set}
use Rattle.sessions.proofs.Counts.{ones_in_lem, ones_zero}
use Rattle.sessions.proofs.Remaining.{remains_all, remains_next, remains_none}
use Rattle.filling.specs.declared.Links.{Links}
use Rattle.filling.proofs.Visits.{visited_all, visited_none, visited_turn}
use Rattle.filling.proofs.Links.count_all.Goals as goal

pub loop-e-init : goal.loop-e-init
loop-e-init c =
    let k = c.args.self.now in
    let p = c.requires in
    let long : length k.count ≡ 64 = ap length p.1 in
    let start : c.into_iter-e-iterator.result.left ≡ k.busy = search rules in
    rw start (
      tt,
      tt,
      remains_all 64 k.busy (omega arith),
      visited_none _ k.count k.busy
          (λ j l q.
          ap (λ l. get_or l j 0) p.1 ∙ get_or-replicate 64 j 0 0 (omega (arith, long)) ∙ sym (ap ones (p.0 j (omega (arith, long)) q) ∙ ones_zero)),
      long,
      refl,
    )

pub loop-e-preserved : goal.loop-e-preserved
loop-e-preserved c =
    let z = c.loop-e in
    let k = c.args.self.now in
    let e = c.in-Some.e in
    let n = c.in-Some.ensures.steps in
    let word = ones_in_lem 32 (get_or k.at e 0) (omega (arith, c.requires.2 e n.1)) in (
      tt,
      tt,
      remains_next 64 k.busy z.e-iterator.left z.invariant.2 e c.next.new.self.left n.3,
      visited_turn _ _ z.e-iterator.left e c.next.new.self.left z.self.count c.size.result (omega (arith, n.1, z.invariant.4))
          (c.size.ensures ∙ ap (λ (k : Links). ones_in 32 (get_or k.at e 0)) z.invariant.5 ∙ sym word) n.3 z.invariant.3,
      z.invariant.4,
      ap (λ (k : Links). record k { count = set z.self.count e c.size.result }) z.invariant.5,
    )

pub returns : goal.returns
returns c =
    let z = c.loop-e in
    let none = remains_none 64 c.args.self.now.busy z.e-iterator.left z.invariant.2 c.in-None.ensures.steps.0 in (
      λ e h. visited_all _ _ z.e-iterator.left z.self.count none z.invariant.3 e (omega (arith, z.invariant.4)),
      z.invariant.3.long ∙ z.invariant.4,
      z.invariant.5,
    )
