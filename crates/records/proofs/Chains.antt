-- Chains over the numbers below n, or over a part of a list: what `all` and `any` answer there, by the test of all places below n.
-- Assumes nothing.
use mathlib.Core.Bool.{Bool, ◌&&◌, ◌||◌, not, true, false}
use mathlib.Core.Path.{◌≡◌, refl, ap, ap₂, sym, ◌∙◌}
use mathlib.Core.List.{List, [], ◌∷◌}
use Prim.Native.Nat.{ℕ, zero, suc, ◌+◌, ◌≤◌, ◌<◌}
use native.Mathlib.Nat.{zero-add}
use native.Mathlib.Omega.{arith}
use denote.Param.Members.{Mut, Called}
use lib.ListN.{drop, get_or, length, take}
use lib.Seq.{drop-cons}
use Rattle.std.proofs.Math.Bool.{and-true, and_assoc}
use Rattle.std.specs.Iterator.{ChecksAll, ChecksAny}
use Rattle.std.specs.List.{list_all, list_any, range_with_len}
use Rattle.std.specs.declared.ops.Range.{Range}
use Rattle.std.proofs.iter.Yields.{nat_range_steps}
use Rattle.std.proofs.lemmas.Iterator.{YieldsList-from_range}
use Rattle.std.proofs.lemmas.Iterator.Search.{all_from_yields_List, any_from_yields_List}
use Rattle.records.specs.Format.{all}
use Rattle.records.proofs.Alls.{all_eq}

-- the first place apart
pub all_first : (n : ℕ) (f : ℕ → Bool) → all (suc n) f ≡ (f 0 && all n (λ k. f (suc k)))
unfolding all
all_first zero f = sym (and-true (f 0))
all_first (suc n) f = ap (λ (b : Bool). b && f (suc n)) (all_first n f) ∙ and_assoc (f 0) (all n (λ k. f (suc k))) (f (suc n))

list_all_below : (a n : ℕ) (f : ℕ → Bool) → list_all f (range_with_len a n) ≡ all n (λ k. f (a + k))
unfolding all
list_all_below a zero f = refl
list_all_below a (suc n) f =
    ap (λ (b : Bool). f a && b) (list_all_below (a + 1) n f ∙ all_eq n (λ k. f (a + 1 + k)) (λ k. f (a + suc k)) (λ k l. let e : a + 1 + k ≡ a + suc k = omega arith in ap f e))
    ∙ ap (λ (b : Bool). b && all n (λ k. f (a + suc k))) (let e : a ≡ a + 0 = omega arith in ap f e)
    ∙ sym (all_first n (λ k. f (a + k)))

or_not : (b c : Bool) → (b || not c) ≡ not (not b && c)
or_not true c = refl
or_not false c = refl

list_any_not : (xs : List ℕ) (f : ℕ → Bool) → list_any f xs ≡ not (list_all (λ k. not (f k)) xs)
list_any_not [] f = refl
list_any_not (x ∷ xs) f = ap (λ (b : Bool). f x || b) (list_any_not xs f) ∙ or_not (f x) (list_all (λ k. not (f k)) xs)

-- that a number below n passes
pub list_any_below : (n : ℕ) (f : ℕ → Bool) → list_any f (range_with_len 0 n) ≡ not (all n (λ k. not (f k)))
list_any_below n f =
    list_any_not (range_with_len 0 n) f
    ∙ ap not (list_all_below 0 n (λ k. not (f k)) ∙ all_eq n (λ k. not (f (0 + k))) (λ k. not (f k)) (λ k l. ap (λ (i : ℕ). not (f i)) (zero-add k)))

-- n elements of a list from a on, of which k is the number
module _ (w : List ℕ) (f : ℕ → Bool) where
  part : (n a : ℕ) → a + n ≤ length w → list_all f (take n (drop a w)) ≡ all n (λ k. f (get_or w (a + k) 0))
  unfolding all
  part zero a h = refl
  part (suc n) a h =
      let l : a < length w = omega arith in
      let e : a ≡ a + 0 = omega arith in
      ap (λ (x : List ℕ). list_all f (take (suc n) x)) (drop-cons w a 0 l)
      ∙ ap₂ ◌&&◌ (ap (λ (i : ℕ). f (get_or w i 0)) e)
      (part n (suc a) (omega arith) ∙ all_eq n (λ k. f (get_or w (suc a + k) 0)) (λ k. f (get_or w (a + suc k) 0)) (λ k l. let p : suc a + k ≡ a + suc k = omega arith in ap (λ (i : ℕ). f (get_or w i 0)) p))
      ∙ sym (all_first n (λ k. f (get_or w (a + k) 0)))

  pub all_of_part : (n k a : ℕ) → k ≡ n → a + n ≤ length w → list_all f (take k (drop a w)) ≡ all n (λ i. f (get_or w (a + i) 0))
  all_of_part n k a e h = ap (λ (j : ℕ). list_all f (take j (drop a w))) e ∙ part n a h

-- a closure that computes the test, at each number below n until one settles it
module _ {F : Type 0} {g : Mut F (ℕ × Unit {0}) Bool} (n : ℕ) (test : ℕ → Bool) (u : Range ℕ) (f : F) (r : Bool) where
  pub all_below_n : ChecksAll nat_range_steps g (record { start = 0; end = n }) f r u → ((x : ℕ) (b : Bool) (q : F) → Called g f (x, tt) b q → (q ≡ f) × (b ≡ test x)) → r ≡ all n test
  all_below_n ran calls = all_from_yields_List test u f r ran (YieldsList-from_range 0 n n refl (omega arith)) calls ∙ list_all_below 0 n test ∙ all_eq n (λ k. test (0 + k)) test (λ k l. ap test (zero-add k))

  pub any_below_n : ChecksAny nat_range_steps g (record { start = 0; end = n }) f r u → ((x : ℕ) (b : Bool) (q : F) → Called g f (x, tt) b q → (q ≡ f) × (b ≡ test x)) → r ≡ not (all n (λ k. not (test k)))
  any_below_n ran calls = any_from_yields_List test u f r ran (YieldsList-from_range 0 n n refl (omega arith)) calls ∙ list_any_below n test
