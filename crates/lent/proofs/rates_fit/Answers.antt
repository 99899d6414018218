-- `lent::rates_fit` meets its contract: the test of all entries is the test of all 32 places.
-- Assumes nothing.
use Rattle.std.proofs.Common.{rules, ◌≡◌, ◌∙◌, ◌&&◌, ◌<◌, Bool, true, List, [], ◌∷◌, ℕ, zero, suc, ap, ap₂, arith, refl, get_or, length}
use Rattle.std.proofs.lemmas.Iterator.Search.{all_from_yields_List}
use Rattle.std.proofs.lemmas.Iterator.{YieldsList-from_slice}
use Rattle.std.specs.List.{list_all}
use Rattle.fractions.proofs.Cases.{and_both, same_test}
use Rattle.fractions.specs.Fraction.{is_rate_of}
use Rattle.links.specs.declared.Entry.{Entry}
use Rattle.links.specs.Links.{no_entry}
use Rattle.records.specs.Format.{all}
use Rattle.records.proofs.Alls.{all_at, all_below}
use Rattle.lent.specs.Lent.{rates_fit}
use Rattle.lent.proofs.rates_fit.Goals as goal

module _ {A : Type 0} (test : A → Bool) (d : A) where
  at_each : (xs : List A) → list_all test xs ≡ true → (i : ℕ) → i < length xs → test (get_or xs i d) ≡ true
  at_each [] h i l = absurd (omega arith)
  at_each (x ∷ xs) h zero l = (and_both _ _ h).0
  at_each (x ∷ xs) h (suc i) l = at_each xs (and_both _ _ h).1 i (omega arith)

  of_each : (xs : List A) → ((i : ℕ) → i < length xs → test (get_or xs i d) ≡ true) → list_all test xs ≡ true
  of_each [] f = refl
  of_each (x ∷ xs) f = ap₂ ◌&&◌ (f 0 (omega arith)) (of_each xs (λ i l. f (suc i) (omega arith)))

  all_listed : (xs : List A) → list_all test xs ≡ all (length xs) (λ s. test (get_or xs s d))
  all_listed xs =
      same_test _ _ (λ h. all_below _ _ (at_each xs h)) (λ h. of_each xs (λ i l. all_at _ _ i h l))

pub returns : goal.returns
unfolding rates_fit
returns c =
    let n : length c.args.entries ≡ 32 = omega arith in
    all_from_yields_List (λ (x : Entry). is_rate_of x.rate) _ _ _ c.all.ensures.ran (YieldsList-from_slice c.args.entries cc) (λ x b q k. search rules)
    ∙ all_listed (λ (x : Entry). is_rate_of x.rate) no_entry c.args.entries
    ∙ ap (λ (k : ℕ). all k (λ s. is_rate_of (get_or c.args.entries s no_entry).rate)) n
