-- `events::join` meets its contract: refusals 7, 16, 8, 10 and 13 in turn, or it is written.
-- Assumes nothing.
use mathlib.Core.Path.{subst, sym, ◌∙◌}
use Prim.Native.Nat.{ℕ, ◌≤◌}
use Rattle.table.proofs.InRange.{count_most}
use Rattle.events.proofs.Steps.{join_above, join_active, join_done, join_leaving, join_many, join_undeclared}
use Rattle.events.proofs.join.Goals as goal

pub returns-then-z : goal.returns-then-z
returns-then-z c = sym (join_active _ _ _ _ _ _ _ c.source_at-z.result c.source_at-z.ensures c.if-z.true)

pub returns-then-above_line : goal.returns-then-above_line
returns-then-above_line c = sym (join_above _ _ _ _ _ _ _ c.source_at-z.result c.source_at-z.ensures c.if-z.false (sym c.above_line.ensures ∙ c.if-above_line.true))

pub returns-then-not-path_declared : goal.returns-then-not-path_declared
returns-then-not-path_declared c = sym (join_undeclared _ _ _ _ _ _ _ c.source_at-z.result c.source_at-z.ensures c.if-z.false (sym c.above_line.ensures ∙ c.if-above_line.false) c.path_declared.result c.path_declared.ensures (c.if-not-path_declared.true))

pub none_of-requires : goal.none_of-requires
none_of-requires c = subst (λ (n : ℕ). n ≤ 256) (sym c.count-count.ensures) (count_most _)

pub returns-then-not-none_of : goal.returns-then-not-none_of
returns-then-not-none_of c = sym (join_leaving _ _ _ _ _ _ _ c.source_at-z.result c.source_at-z.ensures c.if-z.false (sym c.above_line.ensures ∙ c.if-above_line.false) c.path_declared.result c.path_declared.ensures (c.if-not-path_declared.false) c.count-count.result c.none_of.result c.count-count.ensures c.none_of.ensures (c.if-not-none_of.true))

pub returns-then-not-has_room : goal.returns-then-not-has_room
returns-then-not-has_room c = sym (join_many _ _ _ _ _ _ _ c.source_at-z.result c.source_at-z.ensures c.if-z.false (sym c.above_line.ensures ∙ c.if-above_line.false) c.path_declared.result c.path_declared.ensures (c.if-not-path_declared.false) c.count-count.result c.none_of.result c.count-count.ensures c.none_of.ensures (c.if-not-none_of.false) c.joining-d.result c.has_room.result c.joining-d.ensures c.has_room.ensures (c.if-not-has_room.true))

pub write_join-requires : goal.write_join-requires
write_join-requires c = let p = c.requires in (p.0, p.2)

pub returns : goal.returns
returns c = sym (join_done _ _ _ _ _ _ _ c.source_at-z.result c.source_at-z.ensures c.if-z.false (sym c.above_line.ensures ∙ c.if-above_line.false) c.path_declared.result c.path_declared.ensures (c.if-not-path_declared.false) c.count-count.result c.none_of.result c.count-count.ensures c.none_of.ensures (c.if-not-none_of.false) c.joining-d.result c.has_room.result c.joining-d.ensures c.has_room.ensures (c.if-not-has_room.false) _ c.write_join.ensures)
