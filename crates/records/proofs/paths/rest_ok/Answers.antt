-- `records::paths::rest_ok` meets its contract.
-- Assumes nothing.
use Rattle.std.proofs.Common.{rules, tests, arith, get_or, ap, sym, ◌≡◌, ◌∙◌, ◌+◌, ◌-◌, ℕ, eqb}
use Rattle.std.proofs.lemmas.Iterator.{YieldsList-from_slice}
use Rattle.std.proofs.lemmas.Iterator.Search.{all_from_yields_List}
use Rattle.records.specs.Format.{rest_ok}
use Rattle.records.proofs.Chains.{all_of_part}
use Rattle.records.proofs.Alls.{all_behind, all_eq}
use Rattle.records.proofs.paths.rest_ok.Goals as goal

pub returns : goal.returns
unfolding rest_ok
returns c =
    let a = c.args in
    all_from_yields_List (λ (e : ℕ). eqb e 255) _ _ c.all.result c.all.ensures.ran (YieldsList-from_slice _ c.iter.ensures.rest)
    (λ x b q k. search (rules, tests))
    ∙ all_of_part a.s.now (λ (e : ℕ). eqb e 255) (8 - a.n) _ (a.at + a.n) (omega arith) (omega arith)
    ∙ all_eq (8 - a.n) (λ k. eqb (get_or a.s.now (a.at + a.n + k) 0) 255) (λ k. eqb (get_or a.s.now (a.at + (a.n + k)) 0) 255)
    (λ k l. let e : a.at + a.n + k ≡ a.at + (a.n + k) = omega arith in ap (λ (i : ℕ). eqb (get_or a.s.now i 0) 255) e)
    ∙ sym (all_behind 8 a.n (λ h. eqb (get_or a.s.now (a.at + h) 0) 255) (omega arith))
