-- Numbers and tests by cases: where a number or an index lies, what a connective says of its sides, and which side `cond` takes.
-- Assumes nothing.
use mathlib.Core.Bool.{Bool, ◌&&◌, ◌||◌, cond, false, not, true}
use mathlib.Core.Logic.{◌⊎◌, inl, inr}
use mathlib.Core.Path.{◌≡◌, ap, refl, subst, sym}
use Prim.Native.Nat.{ℕ, zero, suc, ◌*◌, ◌≤◌, ◌<◌}
use native.Mathlib.Decide.{dec_le}
use native.Mathlib.Omega.{arith}
use borrow.Author.Tests.{eq-eqb}
use lib.Dec.{T, eqb}

-- NUMBERS -------------------------------------------------------------------------------------------------------------

pub order : (a b : ℕ) → (a ≤ b) ⊎ (b < a)
order a b = go (dec_le a b)
  where
    go : Dec (a ≤ b) → (a ≤ b) ⊎ (b < a)
    go (yes h) = inl h
    go (no h) = inr (omega arith)

-- an index below n + 1 is below n or is n
pub last : {i n : ℕ} → i < suc n → (i < n) ⊎ (i ≡ n)
last {i} {n} h = go (order n i)
  where
    go : (n ≤ i) ⊎ (i < n) → (i < n) ⊎ (i ≡ n)
    go (inl k) = inr (omega arith)
    go (inr k) = inl k

-- what holds below n, and at n, holds below n + 1
pub extend : (P : ℕ → Type 0) (n : ℕ) → ((i : ℕ) → i < n → P i) → P n → (i : ℕ) → i < suc n → P i
extend P n f p i h = go (last h)
  where
    go : (i < n) ⊎ (i ≡ n) → P i
    go (inl l) = f i l
    go (inr e) = rw e p

-- a product above zero has no factor zero
pub pos_left : (a c : ℕ) → 0 < a * c → 0 < a
pos_left zero c h = absurd (omega arith)
pos_left (suc a) c h = omega arith

pub pos_right : (a c : ℕ) → 0 < a * c → 0 < c
pos_right a zero h = absurd (omega arith)
pos_right a (suc c) h = omega arith

-- TESTS ---------------------------------------------------------------------------------------------------------------

pub split : (t : Bool) → T t ⊎ T (not t)
split true = inl tt
split false = inr tt

pub eqb-T : (a b : ℕ) → a ≡ b → T (eqb a b)
eqb-T a b e = rw (eq-eqb a b e) tt

pub and_split : (a b : Bool) → T (a && b) → T a × T b
and_split true b t = (tt, t)
and_split false b t = absurd t

pub and_join : (a b : Bool) → T a → T b → T (a && b)
and_join true b t u = u
and_join false b t u = absurd t

pub or_cases : (a b : Bool) → T (a || b) → T a ⊎ T b
or_cases true b t = inl tt
or_cases false b t = inr t

pub or_left : (a b : Bool) → T a → T (a || b)
or_left true b t = tt
or_left false b t = absurd t

pub or_right : (a b : Bool) → T b → T (a || b)
or_right true b t = tt
or_right false b t = t

pub or_hit : (a b : Bool) → T b → (a || b) ≡ true
or_hit true b h = refl
or_hit false true h = refl
or_hit false false h = absurd h

pub or_miss : (a b : Bool) → T (not b) → (a || b) ≡ a
or_miss true b h = refl
or_miss false true h = absurd h
or_miss false false h = refl

pub cond_hit : {A : Type 0} (t : Bool) (a b : A) → T t → cond t a b ≡ a
cond_hit true a b h = refl
cond_hit false a b h = absurd h

pub cond_miss : {A : Type 0} (t : Bool) (a b : A) → T (not t) → cond t a b ≡ b
cond_miss true a b h = absurd h
cond_miss false a b h = refl

-- TESTS AS EQUATIONS --------------------------------------------------------------------------------------------------

pub passes_so : (b : Bool) → T b → b ≡ true
passes_so true t = refl
passes_so false t = absurd t

pub so_passes : (b : Bool) → b ≡ true → T b
so_passes b e = subst T (sym e) tt

pub not_true : (a : Bool) → not a ≡ true → a ≡ false
not_true true e = sym e
not_true false e = refl

pub not-false : (a : Bool) → not a ≡ false → a ≡ true
not-false true e = refl
not-false false e = sym e

pub and_both : (a b : Bool) → (a && b) ≡ true → (a ≡ true) × (b ≡ true)
and_both true b e = (refl, e)
and_both false b e = absurd (let z : ◌≡◌ {A = ℕ} 0 1 = cc in omega arith)

pub and_false : (a : Bool) → (a && false) ≡ false
and_false true = refl
and_false false = refl

pub or_either : (a b : Bool) → (a || b) ≡ true → (a ≡ true) ⊎ (b ≡ true)
or_either true b e = inl refl
or_either false b e = inr e

pub or_false : (a b : Bool) → (a || b) ≡ false → (a ≡ false) × (b ≡ false)
or_false true b e = absurd (let z : ◌≡◌ {A = ℕ} 0 1 = cc in omega arith)
or_false false b e = (refl, e)

-- two tests that pass together are one
pub same_test : (a b : Bool) → (a ≡ true → b ≡ true) → (b ≡ true → a ≡ true) → a ≡ b
same_test true b f g = sym (f refl)
same_test false true f g = g refl
same_test false false f g = refl

-- what holds of both sides of a test, each under its answer
pub cases : {A : Type 0} (P : A → Type 0) (t : Bool) (x y : A) → (t ≡ true → P x) → (t ≡ false → P y) → P (cond t x y)
cases P true x y f g = f refl
cases P false x y f g = g refl

-- by a test whose answer is known
pub chosen : {A : Type 0} (t u : Bool) (x y : A) → t ≡ u → cond t x y ≡ cond u x y
chosen t u x y e = ap (λ (b : Bool). cond b x y) e

-- which side was chosen
pub chose_first : {A : Type 0} {x y z : A} (t : Bool) → cond t x y ≡ z → (y ≡ z → ⊥) → (t ≡ true) × (x ≡ z)
chose_first true e n = (refl, e)
chose_first false e n = absurd (n e)

pub chose_second : {A : Type 0} {x z : A} (y : A) (t : Bool) → cond t x y ≡ z → (x ≡ z → ⊥) → t ≡ false
chose_second y true e n = absurd (n e)
chose_second y false e n = refl

-- an answer that is the one promised says the same
pub said_too : {A B : Type 0} (f : A → B) {x y : A} → x ≡ y → record { exact : x ≡ y; said : f x ≡ f y }
said_too f e = record { exact = e; said = ap f e }
