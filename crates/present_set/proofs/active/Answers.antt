-- `present_set::active` meets its contract.
-- Assumes nothing.
use Rattle.std.proofs.Common.{rules, arith, refl, cond, ◌≡◌, Bool, ℕ, List}
use Rattle.std.proofs.lemmas.Fn.{fold_over}
use Rattle.std.proofs.lemmas.Grind.{common_steps}
use Rattle.std.proofs.lemmas.Iterator.{YieldsList-from_range}
use Rattle.std.specs.List.{range_with_len}
use Rattle.std.proofs.iter.Yields.{nat_range_steps}
use Rattle.sessions.specs.Set.{put}
use Rattle.table.specs.Words.{source_of}
use Rattle.present_set.proofs.Collected.{Put, put_all, put_next}
use Rattle.present_set.proofs.active.Goals as goal

pub returns : goal.returns
returns c =
    let test : ℕ → Bool = λ s. (source_of c.args.t.now s).active in
    put_all test 32 c.fold.result
    (fold_over nat_range_steps (λ x. x) _ (Put test) _
    (λ ys a x b f h k.
    let e : b ≡ cond (test x) (put x a) a = search rules in
    (put_next test ys x a b e h, search rules))
    _
    (range_with_len 0 32)
    0
    c.fold.result
    (YieldsList-from_range 0 32 32 refl refl).runs
    refl
    c.fold.ensures.ran)
