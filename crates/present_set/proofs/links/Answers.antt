-- `present_set::links` meets its contract.
-- Assumes nothing.
use Rattle.std.proofs.Common.{rules, arith, refl, cond, ◌≡◌, Bool, ℕ, List, ltb}
use Rattle.std.proofs.lemmas.Fn.{fold_over}
use Rattle.std.proofs.lemmas.Grind.{common_steps}
use Rattle.std.proofs.lemmas.Iterator.{YieldsList-from_range}
use Rattle.std.specs.List.{range_with_len}
use Rattle.std.proofs.iter.Yields.{nat_range_steps}
use Rattle.sessions.specs.Set.{put}
use Rattle.table.specs.Words.{link_of}
use Rattle.present_set.proofs.Collected.{Put, put_all, put_next}
use Rattle.present_set.proofs.links.Goals as goal

pub returns : goal.returns
returns c =
    let test : ℕ → Bool = λ e. ltb 0 (link_of c.args.t.now e).capacity in
    put_all test 64 c.fold.result
    (fold_over nat_range_steps (λ x. x) _ (Put test) _
    (λ ys a x b f h k.
    let e : b ≡ cond (test x) (put x a) a = search rules in
    (put_next test ys x a b e h, search rules))
    _
    (range_with_len 0 64)
    0
    c.fold.result
    (YieldsList-from_range 0 64 64 refl refl).runs
    refl
    c.fold.ensures.ran)
