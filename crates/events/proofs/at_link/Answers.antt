-- `events::at_link` meets its contract: refused as too fine, refused as too many, or written.
-- Assumes nothing.
use mathlib.Core.Path.{ap, subst, sym, ◌∙◌}
use native.Mathlib.Omega.{arith}
use Rattle.sessions.proofs.Counts.{count_most as ones-most}
use Rattle.fractions.proofs.Cases.{not-false, not_true}
use Prim.Native.Nat.{ℕ, ◌≤◌}
use Rattle.links.specs.Links.{Workable}
use Rattle.table.proofs.InRange.{count_most}
use Rattle.tasks.specs.Figure2.{link_step_of}
use Rattle.events.proofs.Needs.{kind_sized}
use Rattle.table.proofs.Workables.{place_workable}
use Rattle.events.proofs.Steps.{link_done, link_many, link_too_fine}
use Rattle.events.proofs.at_link.Goals as goal

pub link_step-d-requires : goal.link_step-d-requires
link_step-d-requires c = (c.requires.1.session, kind_sized c.args.p.kind c.requires.1.kind, subst Workable (sym c.place_at-place.ensures) (place_workable _ _))

pub returns-then-not-d : goal.returns-then-not-d
returns-then-not-d c = sym (link_too_fine _ _ _ _ c.link_step-d.result (c.link_step-d.ensures ∙ ap (link_step_of c.args.e c.args.p.session c.args.p.kind) c.place_at-place.ensures) (not_true _ c.if-not-d.true))

pub overflow_add-after : goal.overflow_add-after
overflow_add-after c = let h : c.count-n.result ≤ 256 = subst (λ (n : ℕ). n ≤ 256) (sym c.count-n.ensures) (count_most _) in
    let k : c.size.result ≤ 32 = subst (λ (n : ℕ). n ≤ 32) (sym c.size.ensures) (ones-most 32 _) in
    omega arith

pub overflow_add-after-2 : goal.overflow_add-after-2
overflow_add-after-2 c = let h : c.count-n.result ≤ 256 = subst (λ (n : ℕ). n ≤ 256) (sym c.count-n.ensures) (count_most _) in
    let k : c.size.result ≤ 32 = subst (λ (n : ℕ). n ≤ 32) (sym c.size.ensures) (ones-most 32 _) in
    omega (arith, c.one_if.ensures.1)

pub returns-then-after-gt-PACKETS : goal.returns-then-after-gt-PACKETS
returns-then-after-gt-PACKETS c = sym (link_many _ _ _ _ c.link_step-d.result (c.link_step-d.ensures ∙ ap (link_step_of c.args.e c.args.p.session c.args.p.kind) c.place_at-place.ensures) c.on_path-to.result c.count-n.result c.size.result c.one_if.result (not-false _ c.if-not-d.false) c.on_path-to.ensures c.count-n.ensures c.size.ensures c.one_if.ensures.0 c.if-after-gt-PACKETS.true)

pub returns : goal.returns
returns c = sym (link_done _ _ _ _ c.link_step-d.result (c.link_step-d.ensures ∙ ap (link_step_of c.args.e c.args.p.session c.args.p.kind) c.place_at-place.ensures) c.on_path-to.result c.count-n.result c.size.result c.one_if.result (not-false _ c.if-not-d.false) c.on_path-to.ensures c.count-n.ensures c.size.ensures c.one_if.ensures.0 c.if-after-gt-PACKETS.false _ c.write_link.ensures)
