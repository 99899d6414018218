-- `totals::sum_at` meets its contract: what is left to add comes to the whole.
-- Assumes nothing.
use mathlib.Core.Path.{ap, subst, sym, ◌∙◌, ◌≡◌}
use mathlib.Core.List.{List}
use Prim.Native.Nat.{ℕ, ◌<◌}
use native.Mathlib.Omega.{arith}
use Rattle.fractions.specs.Fraction.{Sized, max_rate}
use Rattle.fractions.proofs.Cases.{said_too}
use Rattle.fractions.proofs.Ranges.{whole_sized}
use Rattle.links.specs.declared.Entry.{Entry}
use Rattle.links.specs.declared.Link.{Link}
use Rattle.links.specs.Links.{TotalSized, entry_at, more_of, rate_at, sum_of, total_said}
use Rattle.links.proofs.Sizes.{more_sized}
use Rattle.sessions.proofs.Loops.{walk_last, walk_next}
use Rattle.table.specs.Words.{place_of}
use Rattle.table.proofs.InRange.{capacity_most, row_rates}
use borrow.Author.Rules.{rules}
use Rattle.totals.proofs.sum_at.Goals as goal

-- the entry of a member is within the limits
rated : (t : List ℕ) (e s : ℕ) (x : Entry) → x ≡ entry_at (place_of t e) s → s < 32 → Sized max_rate x.rate
rated t e s x q l = subst (λ (y : Entry). Sized max_rate y.rate) (sym q) (row_rates t e s l)

pub loop-s-init : goal.loop-s-init
unfolding sum_of
loop-s-init c =
    let a = c.args in
    let q = c.link_at-l.ensures in (
      whole_sized {n = 0} (omega arith),
      omega (arith, ap (λ (l : Link). l.capacity) q, capacity_most a.t.now a.e),
      search rules,
    )

pub more-total-requires : goal.more-total-requires
more-total-requires c = let l = c.loop-s in (l.invariant.1, l.invariant.0, rated c.args.t.now c.args.e c.in-Some.s _ c.entry_in-x.ensures c.in-Some.ensures.steps.1)

pub loop-s-preserved : goal.loop-s-preserved
loop-s-preserved c =
    let l = c.loop-s in
    let k = c.link_at-l.result.capacity in
    let x = c.entry_in-x in
    let m = c.more-total in (
      subst (TotalSized k) (sym m.ensures.exact) (more_sized k l.total x.result.rate l.invariant.1 l.invariant.0 (rated c.args.t.now c.args.e c.in-Some.s _ x.ensures c.in-Some.ensures.steps.1)),
      l.invariant.1,
      walk_next (λ a s. more_of k a (rate_at (place_of c.args.t.now c.args.e) s)) _ c.in-Some.ensures.steps.0
          (m.ensures.exact ∙ ap (λ (y : Entry). more_of k l.total y.rate) x.ensures)
          ∙ l.invariant.2,
    )

pub returns : goal.returns
returns c =
    let l = c.loop-s in
    said_too total_said (walk_last _ _ c.in-None.ensures.steps.0 ∙ l.invariant.2)
