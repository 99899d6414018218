-- `present_set::write_records` meets its contract.
-- Assumes nothing.
use mathlib.Core.Path.{◌≡◌, ap, subst, sym, ◌∙◌}
use Prim.Native.Nat.{◌<◌}
use lib.ListN.{get_or}
use Rattle.declarations.specs.declared.Declared.{Declared}
use Rattle.writing.specs.Written.{Written, written_of}
use Rattle.present_set.specs.Present.{present_of}
use Rattle.present_set.proofs.Called.{accesses_below, answer_means, bad_table, capacities_below, good_table, maxima_below}
use Rattle.present_set.proofs.write_records.Goals as goal

pub returns-then-not-passes_14 : goal.returns-then-not-passes_14
returns-then-not-passes_14 c =
    let a = c.args in
    let bad = bad_table a.t.now a.out.now (sym c.passes_14.ensures ∙ c.if-not-passes_14.true) in
    let said = ap (λ (o : Written). o.answer) (sym bad) in
    let stays = ap (λ (o : Written). o.bytes) (sym bad) in
    record { exact = (said, stays); present = answer_means a.t.now a.out.now _ _ said stays }

pub write-requires : goal.write-requires
write-requires c =
    let w = c.args.t.now in
    let is = c.held.ensures in (
      λ e. subst (λ (d : Declared). get_or d.capacity e 0 < 4294967296) (sym is) (capacities_below w e),
      λ t. subst (λ (d : Declared). get_or d.access t 0 < 4294967296) (sym is) (accesses_below w t),
      λ t. subst (λ (d : Declared). get_or d.maximum t 0 < 4294967296) (sym is) (maxima_below w t),
    )

pub returns : goal.returns
returns c =
    let a = c.args in
    let good = good_table a.t.now a.out.now (sym c.passes_14.ensures ∙ c.if-not-passes_14.false) in
    let of : written_of c.held.result a.out.now ≡ present_of a.t.now a.out.now =
    ap (λ (d : Declared). written_of d a.out.now) c.held.ensures ∙ sym good in
    let said = c.write.ensures.0 ∙ ap (λ (o : Written). o.answer) of in
    let bytes = c.write.ensures.1 ∙ ap (λ (o : Written). o.bytes) of in
    record { exact = (said, bytes); present = answer_means a.t.now a.out.now _ _ said bytes }
