-- `handed::sum_fits` meets its contract.
-- Assumes nothing.
use mathlib.Core.Path.{ap, subst, sym, ◌∙◌}
use Prim.Native.Nat.{ℕ, ◌≤◌}
use Rattle.fractions.specs.Fraction.{max_rate}
use Rattle.links.specs.declared.Link.{Link}
use Rattle.links.specs.Links.{B, TotalSized, is_past_c}
use Rattle.links.proofs.Sizes.{sum_sized}
use Rattle.sessions.proofs.Counts.{count_most}
use Rattle.table.specs.Words.{link_of, place_of}
use Rattle.table.proofs.InRange.{capacity_most}
use Rattle.table.proofs.Workables.{place_workable}
use Rattle.handed.specs.Handed.{sum_fits}
use Rattle.handed.proofs.sum_fits.Goals as goal

pub returns-then-is_past_c : goal.returns-then-is_past_c
unfolding sum_fits
returns-then-is_past_c c =
    let d = sym (c.is_past_c.ensures ∙ ap is_past_c c.sum_at-total.ensures.exact) ∙ c.if-is_past_c.true in
    rw d

pub is_bound_fine-requires : goal.is_bound_fine-requires
is_bound_fine-requires c =
    let a = c.args in
    let q = sym c.link_at-l.ensures in
    let y = c.sum_at-total in (
      subst (λ (l : Link). l.capacity ≤ max_rate) q (capacity_most a.t.now a.e),
      subst (λ (n : ℕ). n ≤ 32) (sym c.size.ensures) (count_most 32 _),
      subst (λ (l : Link). TotalSized l.capacity y.result) q
          (subst (TotalSized (link_of a.t.now a.e).capacity) (sym y.ensures.exact) (sum_sized (place_of a.t.now a.e) (place_workable a.t.now a.e))),
    )

pub returns : goal.returns
unfolding sum_fits B
returns c =
    let y = c.sum_at-total.ensures.exact in
    let d = sym (c.is_past_c.ensures ∙ ap is_past_c y) ∙ c.if-is_past_c.false in
    rw (d, ← y, ← c.link_at-l.ensures, ← c.size.ensures) c.is_bound_fine.ensures
