-- `conditions::restricted` meets its contract: the R of one link more.
-- Assumes nothing.
use Rattle.std.proofs.Common.{rules, refl, subst, sym, bit_or, ◌≡◌, [], ◌∷◌, ◌++◌}
use Rattle.std.specs.List.{range_with_len}
use Rattle.std.proofs.iter.Yields.{nat_range_steps}
use Rattle.std.proofs.lemmas.Fn.{fold_over}
use Rattle.std.proofs.lemmas.Iterator.{YieldsList-from_range}
use Rattle.table.specs.Words.{link_of}
use Rattle.conditions.proofs.OneSession.{InAny, restricted_all, restricted_next, restricted_none}
use Rattle.conditions.proofs.restricted.Goals as goal

pub returns : goal.returns
returns c =
    let w = c.args.t.now in
    restricted_all w c.fold.result
    (fold_over nat_range_steps (λ x. x) _ (InAny w) _
    (λ ys a x b f h k.
    let e : b ≡ bit_or a (link_of w x).r = search rules in
    (subst (InAny w (ys ++ (x ∷ []))) (sym e) (restricted_next w ys x a h), search rules))
    _
    (range_with_len 0 64)
    0
    c.fold.result
    (YieldsList-from_range 0 64 64 refl refl).runs
    (restricted_none w)
    c.fold.ensures.ran)
