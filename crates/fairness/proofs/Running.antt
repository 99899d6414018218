-- Figure 1 as a function, on lists of values, whose laws come first: each round is one (`is_round`), keeps what holds, and fixes a session, until nobody
-- is open.
-- Assumes nothing.
use mathlib.Core.Bool.{Bool, cond, false, not, true}
use mathlib.Core.List.{List, [], ◌∷◌, ◌++◌}
use mathlib.Core.Logic.{◌↔◌, ◌⊎◌, inl, inr}
use mathlib.Core.Path.{◌∙◌, ◌≡◌, ap, ap₂, refl, sym}
use Prim.Native.Nat.{ℕ, zero, suc, ◌*◌, ◌+◌, ◌≤◌, ◌<◌}
use native.Mathlib.Nat.{le_of_mul-le-mul_right, mul-le-mul_right}
use native.Mathlib.Omega.{arith}
use lib.Dec.{T, eqb→eq, ltb}
use lib.ListN.{get_or, length}
use borrow.Author.Tests.{le-ltb, lt-ltb, ltb-false, ltb-true}
use Rattle.fairness.specs.Figure1.{Net, Pick, State, at, chosen, counts, fix_at, is_fixed, left_at, lefts, nobody, one_round, open_all, open_at, rate, round_on, rounds, smaller, smallest, values}
use Rattle.fairness.specs.Sum.{part}
use Rattle.fairness.proofs.Anys.{any_at, any_found}
use Rattle.fairness.proofs.Denominators.{SmallDenominator, all_weight, small_step}
use Rattle.fairness.proofs.Rounds.{Filling, Round, falls, step}
use Rattle.fairness.proofs.Sums.{sum_at, sum_none}
use Rattle.fractions.proofs.Cases.{and_join, and_split, cond_hit, cond_miss, eqb-T, extend, or_hit, or_miss, order, pos_right}
use Rattle.fairness.proofs.Parts.{part_is}

-- LISTS OF VALUES -----------------------------------------------------------------------------------------------------

values_from : {A : Type 0} (n i j : ℕ) (f : ℕ → A) (z : A) → j < n → get_or (values i n f) j z ≡ f (i + j)
unfolding values
values_from zero i j f z h = absurd (omega arith)
values_from (suc n) i zero f z h = ap f (omega arith)
values_from (suc n) i (suc j) f z h = values_from n (suc i) j f z (omega arith) ∙ ap f (omega arith)

pub values_at : {A : Type 0} (n j : ℕ) (f : ℕ → A) (z : A) → j < n → get_or (values 0 n f) j z ≡ f j
values_at n j f z h = values_from n 0 j f z h ∙ ap f (omega arith)

-- functions that agree on the places have the same
pub values_same : {A : Type 0} (i n : ℕ) (f g : ℕ → A) → ((h : ℕ) → h < i + n → f h ≡ g h) → values i n f ≡ values i n g
unfolding values
values_same i zero f g p = refl
values_same i (suc n) f g p = ap₂ ◌∷◌ (p i (omega arith)) (values_same (suc i) n f g (λ h l. p h (omega arith)))

pub values_long : {A : Type 0} (i n : ℕ) (f : ℕ → A) → length (values i n f) ≡ n
unfolding values
values_long i zero f = refl
values_long i (suc n) f = ap suc (values_long (suc i) n f)

-- one more comes last
pub values_last : {A : Type 0} (i n : ℕ) (f : ℕ → A) → values i (suc n) f ≡ values i n f ++ (f (i + n) ∷ [])
unfolding values
values_last i zero f = ap (λ (k : ℕ). f k ∷ []) {x = i} {y = i + 0} (omega arith)
values_last {A} i (suc n) f =
    ap (λ (l : List A). f i ∷ l) (values_last (suc i) n f ∙ ap (λ (k : ℕ). values (suc i) n f ++ (f k ∷ [])) {x = suc i + n} {y = i + suc n} (omega arith))

-- a bound of each, and of 0, which stands past the end, bounds every place
pub values_below : (i n : ℕ) (f : ℕ → ℕ) (m : ℕ) → 0 < m → ((j : ℕ) → j < i + n → f j < m) → (j : ℕ) → get_or (values i n f) j 0 < m
unfolding values
values_below i zero f m p h j = p
values_below i (suc n) f m p h zero = h i (omega arith)
values_below i (suc n) f m p h (suc j) = values_below (suc i) n f m p (λ k l. h k (omega arith)) j

-- THE LEAST SHARE -----------------------------------------------------------------------------------------------------

abbrev Least : (ℕ → ℕ) → (ℕ → ℕ) → ℕ → Pick → Type 0
Least a c n nobody = (e : ℕ) → e < n → c e ≡ 0
Least a c n (at b) = (b < n) × (0 < c b) × ((e : ℕ) → e < n → a b * c e ≤ a e * c b)

-- a smaller than b, and b no larger than e: a no larger than e
cross : (a₁ c₁ a₂ c₂ a₃ c₃ : ℕ) → 0 < c₂ → a₁ * c₂ ≤ a₂ * c₁ → a₂ * c₃ ≤ a₃ * c₂ → a₁ * c₃ ≤ a₃ * c₁
cross a₁ c₁ a₂ c₂ a₃ c₃ p h k =
    le_of_mul-le-mul_right {k = c₂} (omega (arith, mul-le-mul_right c₃ h, mul-le-mul_right c₁ k)) p

smallest_least : (a c : ℕ → ℕ) (n : ℕ) → Least a c n (smallest a c n)
unfolding smallest smaller
smallest_least a c zero = λ e h. absurd (omega arith)
smallest_least a c (suc n) = go (smallest a c n) (smallest_least a c n)
  where
    first : Least a c n nobody → (t : Bool) → ltb 0 (c n) ≡ t → Least a c (suc n) (cond t (at n) nobody)
    first l true q = (
      omega arith,
      ltb-true 0 (c n) q,
      extend (λ e. a n * c e ≤ a e * c n) n (λ e h. rw (l e h) (omega arith)) (omega arith),
    )
    first l false q = extend (λ e. c e ≡ 0) n l (omega (arith, ltb-false 0 (c n) q))

    next : (b : ℕ) → Least a c n (at b) → (t : Bool) → ltb (a n * c b) (a b * c n) ≡ t → Least a c (suc n) (cond t (at n) (at b))
    next b l true q =
        let lt = ltb-true (a n * c b) (a b * c n) q in (
          omega arith,
          pos_right (a b) (c n) (omega arith),
          extend (λ e. a n * c e ≤ a e * c n) n (λ e h. cross (a n) (c n) (a b) (c b) (a e) (c e) l.1 (omega arith) (l.2 e h)) (omega arith),
        )
    next b l false q = (omega arith, l.1, extend (λ e. a b * c e ≤ a e * c b) n l.2 (ltb-false (a n * c b) (a b * c n) q))

    go : (p : Pick) → Least a c n p → Least a c (suc n) (smaller a c n p)
    go nobody l = first l (ltb 0 (c n)) refl
    go (at b) l = next b l (ltb (a n * c b) (a b * c n)) refl

-- ROUNDS --------------------------------------------------------------------------------------------------------------

-- one round at b is a round
module _ (w : Net) (z : State) (A C : ℕ → ℕ) (h_a : (e : ℕ) → e < w.links → A e ≡ left_at w z.den (rate z) e) (h_c : (e : ℕ) → e < w.links → C e ≡ open_at w (is_fixed z) e) (b : ℕ) (least : Least A C w.links (at b)) where
  same : (e : ℕ) → e < w.links
      → (A e * C b ≡ A b * C e) ↔ (left_at w z.den (rate z) e * open_at w (is_fixed z) b ≡ left_at w z.den (rate z) b * open_at w (is_fixed z) e)
  same e h = (
    λ q. rw (h_c b least.0, h_c e h, h_a b least.0, h_a e h) at q,
    λ q. rw (h_c b least.0, h_c e h, h_a b least.0, h_a e h) q,
  )

  is_chosen : (s : ℕ) → T (chosen w A C b z s)
      → T (not (is_fixed z s))
      × ((e : ℕ) × (e < w.links) × T (w.on e s) × (left_at w z.den (rate z) e * open_at w (is_fixed z) b ≡ left_at w z.den (rate z) b * open_at w (is_fixed z) e))
  unfolding chosen
  is_chosen s t =
      let p = and_split (not (is_fixed z s)) _ t in
      let q = any_found w.links _ p.1 in
      let e = q.0 in
      let u = and_split (w.on e s) _ q.2 in
      (p.0, (e, q.1, u.0, (same e q.1).0 (eqb→eq (A e * C b) (A b * C e) u.1)))

  all_chosen : (s : ℕ) → T (not (is_fixed z s)) → (e : ℕ) → e < w.links → T (w.on e s)
      → left_at w z.den (rate z) e * open_at w (is_fixed z) b ≡ left_at w z.den (rate z) b * open_at w (is_fixed z) e → T (chosen w A C b z s)
  unfolding chosen
  all_chosen s o e h on q =
      and_join (not (is_fixed z s)) _ o
      (any_at w.links _ e h
      (and_join (w.on e s) _ on (eqb-T (A e * C b) (A b * C e) ((same e h).1 q))))

  is_round : Round w z.den (rate z) (is_fixed z) b (chosen w A C b z) (fix_at w A C z (at b)).den (rate (fix_at w A C z (at b))) (is_fixed (fix_at w A C z (at b)))
  unfolding fix_at
  is_round =
      record {
        is_a_link = least.0;
        some = rw (← h_c b least.0) least.1;
        least = λ e h. rw (← h_c b least.0, ← h_c e h, ← h_a b least.0, ← h_a e h) (least.2 e h);
        chosen = λ s h. is_chosen s;
        all = λ s h. all_chosen s;
        den = rw (h_c b least.0) refl;
        hit = λ s h t. (values_at w.sessions s _ 0 h ∙ cond_hit (chosen w A C b z s) _ _ t ∙ ap (λ v. v * w.weight s) (h_a b least.0), values_at w.sessions s _ false h ∙ or_hit (is_fixed z s) (chosen w A C b z s) t);
        miss = λ s h t. (values_at w.sessions s _ 0 h ∙ cond_miss (chosen w A C b z s) _ _ t ∙ ap (λ v. v * rate z s) (h_c b least.0), values_at w.sessions s _ false h ∙ or_miss (is_fixed z s) (chosen w A C b z s) t);
      }

-- what holds after each round; the bound on the denominator where there are at most 32 sessions
pub record StateFilling (w : Net) (z : State) : Type 0 where
  pub inv : Filling w z.den (rate z) (is_fixed z)
  pub small : all_weight w ≤ 32 → SmallDenominator w z.den (is_fixed z)

abbrev pub Crosses : Net → Type 0
Crosses w = (s : ℕ) → s < w.sessions → (e : ℕ) × (e < w.links) × T (w.on e s) × (0 < w.weight s)

part_not : (b : Bool) (v : ℕ) → 0 < v → part (not b) v ≤ 0 → T b
part_not true v p h = tt
part_not false v p h = omega arith

-- no link has an open session: no session is open
none_open : (w : Net) → Crosses w → (d : ℕ → Bool) → ((e : ℕ) → e < w.links → open_at w d e ≡ 0) → open_all w d ≡ 0
unfolding open_at open_all
none_open w each d h =
    sum_none w.sessions _
    (λ s hs.
    let o = each s hs in
    omega (
      arith,
      sum_at w.sessions (λ s. part (w.on o.0 s) (part (not (d s)) (w.weight s))) s hs,
      part_is (w.on o.0 s) (part (not (d s)) (w.weight s)) o.2,
      h o.0 o.1,
    ))

-- a round keeps the invariant, and fixes a session if one is open
round_goes : (w : Net) → Crosses w → (z : State) → StateFilling w z
    → StateFilling w (one_round w z) × ((open_all w (is_fixed (one_round w z)) < open_all w (is_fixed z)) ⊎ (open_all w (is_fixed (one_round w z)) ≡ 0))
unfolding one_round round_on fix_at lefts counts
round_goes w each z i = go (smallest A C w.links) (smallest_least A C w.links)
  where
    A : ℕ → ℕ
    A e = get_or (lefts w z) e 0

    C : ℕ → ℕ
    C e = get_or (counts w z) e 0

    h_a : (e : ℕ) → e < w.links → A e ≡ left_at w z.den (rate z) e
    h_a e h = values_at w.links e _ 0 h

    h_c : (e : ℕ) → e < w.links → C e ≡ open_at w (is_fixed z) e
    h_c e h = values_at w.links e _ 0 h

    go : (p : Pick) → Least A C w.links p
        → StateFilling w (fix_at w A C z p) × ((open_all w (is_fixed (fix_at w A C z p)) < open_all w (is_fixed z)) ⊎ (open_all w (is_fixed (fix_at w A C z p)) ≡ 0))
    go nobody l = (i, inr (none_open w each (is_fixed z) (λ e h. sym (h_c e h) ∙ l e h)))
    go (at b) l =
        let r = is_round w z A C h_a h_c b l in (
          record {
            inv = step w _ _ _ (λ s h. (each s h).3) i.inv b _ _ _ _ r;
            small = λ h. small_step w h _ _ _ (λ s h. (each s h).3) i.inv b _ _ _ _ r (i.small h);
          },
          inl (omega (arith, falls w _ _ _ (λ s h. (each s h).3) i.inv b _ _ _ _ r, r.some)),
        )

pub all_fixed : (w : Net) → Crosses w → (d : ℕ → Bool) → open_all w d ≡ 0 → (s : ℕ) → s < w.sessions → T (d s)
unfolding open_all
all_fixed w each d h s hs = part_not (d s) (w.weight s) (each s hs).3 (omega (arith, sum_at w.sessions (λ s. part (not (d s)) (w.weight s)) s hs))

pub filled : (w : Net) → Crosses w → (k : ℕ) (z : State) → StateFilling w z → open_all w (is_fixed z) ≤ k
    → StateFilling w (rounds w k z) × (open_all w (is_fixed (rounds w k z)) ≡ 0)
unfolding rounds
filled w each zero z i h = (i, omega arith)
filled w each (suc k) z i h = stop (filled w each k (one_round w z)) (order (open_all w (is_fixed z)) 0)
  where
    fewer : (open_all w (is_fixed (one_round w z)) < open_all w (is_fixed z)) ⊎ (open_all w (is_fixed (one_round w z)) ≡ 0) → open_all w (is_fixed (one_round w z)) ≤ k
    fewer (inl l) = omega arith
    fewer (inr e) = omega arith

    stop : (StateFilling w (one_round w z) → open_all w (is_fixed (one_round w z)) ≤ k → StateFilling w (rounds w k (one_round w z)) × (open_all w (is_fixed (rounds w k (one_round w z))) ≡ 0))
        → (open_all w (is_fixed z) ≤ 0) ⊎ (0 < open_all w (is_fixed z))
        → StateFilling w (rounds w (suc k) z) × (open_all w (is_fixed (rounds w (suc k) z)) ≡ 0)
    stop ih (inl n) = rw (le-ltb 0 (open_all w (is_fixed z)) n) (i, omega arith)
    stop ih (inr n) =
        let g = round_goes w each z i in
        rw (lt-ltb 0 (open_all w (is_fixed z)) n) (ih g.0 (fewer g.1))

-- what holds, holds after any number of rounds
pub rounds_filling : (w : Net) → Crosses w → (k : ℕ) (z : State) → StateFilling w z → StateFilling w (rounds w k z)
unfolding rounds
rounds_filling w each zero z i = i
rounds_filling w each (suc k) z i = go (ltb 0 (open_all w (is_fixed z))) (rounds_filling w each k (one_round w z) (round_goes w each z i).0)
  where
    go : (t : Bool) → StateFilling w (rounds w k (one_round w z)) → StateFilling w (cond t (rounds w k (one_round w z)) z)
    go true r = r
    go false r = i
