-- Sums over the members of a set: with fewer members, with one more, with other numbers; and that the sum of F, as a link works it out one member
-- after the other, is the sum of its members' rates.
-- Assumes nothing.
use Rattle.std.specs.Prelude.{Result, Ok, Err}
use mathlib.Core.Logic.{◌⊎◌, inl, inr}
use mathlib.Core.Path.{◌≡◌, ap, refl, subst, sym, ◌∙◌}
use Prim.Native.Nat.{ℕ, zero, suc, ◌+◌, ◌*◌, ◌/◌, ◌%◌, ◌≤◌, ◌<◌}
use lib.Count.{ones_in}
use lib.Dec.{eqb, eqb→eq, lit≤}
use native.Mathlib.Nat.{le_of_mul-le-mul_right, lt_of_mul-lt-mul_right, mul-le-mul_right, mul-lt-mul_of_pos_right, mul-pos}
use native.Mathlib.Decide.{ℕ_discrete}
use native.Mathlib.Omega.{arith}
use borrow.Author.Tests.{eq-eqb, ne_eqb}
use Rattle.fairness.specs.Sum.{part, sum}
use Rattle.fairness.proofs.Sums.{sum_add, sum_at, sum_eq, sum_first, sum_le, sum_one, sum_scale}
use Rattle.fractions.specs.declared.Rate.{Rate}
use Rattle.fractions.specs.declared.TooFine.{TooFine}
use Rattle.fractions.specs.Fraction.{Same, Sized, add_of, frac, le_of, plus_of, whole_of, zero_of}
use Rattle.fractions.proofs.Cases.{cases, eqb-T}
use Rattle.fractions.proofs.LowestTerms.{lowest_pos, lowest_same}
use Rattle.fractions.proofs.Order.{le_false, same_trans}
use Rattle.fractions.proofs.Ranges.{plus_rate}
use Rattle.links.specs.declared.Place.{Place}
use Rattle.links.specs.declared.NoTotal.{NoTotal}
use Rattle.links.specs.declared.NoTotal.TheVariants as no_total
use Rattle.links.specs.Links.{F, TotalSized, Workable, more_of, rate_at, sum_of, upto_of}
use Rattle.links.proofs.Sizes.{sum_sized}
use Rattle.sessions.specs.Set.{has, members_from, put, size_of, walk}
use Rattle.sessions.proofs.Members.{has_or_not, has_put_other, has_put_same}
use Rattle.sessions.proofs.Walks.{members_even, members_odd}
use Rattle.soundness.specs.Sound.{weight}

-- WEIGHTS -------------------------------------------------------------------------------------------------------------

-- fewer members, less weight
pub weight_le : (v w : ℕ) (x : ℕ → ℕ) → ((s : ℕ) → s < 32 → has s v ≤ has s w) → weight v x ≤ weight w x
unfolding weight
weight_le v w x h = sum_le 32 (λ s. has s v * x s) (λ s. has s w * x s) (λ s l. mul-le-mul_right (x s) (h s l))

-- the weight goes by the numbers of the members alone
pub weight_same : (w : ℕ) (x y : ℕ → ℕ) → ((s : ℕ) → s < 32 → has s w ≡ 1 → x s ≡ y s) → weight w x ≡ weight w y
unfolding weight
weight_same w x y h = sum_eq 32 (λ s. has s w * x s) (λ s. has s w * y s) (λ s l. go s l (has_or_not s w))
  where
    go : (s : ℕ) → s < 32 → (has s w ≡ 0) ⊎ (has s w ≡ 1) → has s w * x s ≡ has s w * y s
    go s l (inl e) = rw e (omega arith)
    go s l (inr e) = ap (λ (k : ℕ). has s w * k) (h s l e)

pub weight_scale : (w c : ℕ) (x : ℕ → ℕ) → weight w (λ s. c * x s) ≡ c * weight w x
unfolding weight
weight_scale w c x =
    sum_eq 32 (λ s. has s w * (c * x s)) (λ s. c * (has s w * x s)) (λ s l. omega arith) ∙ sum_scale 32 c (λ s. has s w * x s)

-- one member more
pub weight_put : (w s : ℕ) (x : ℕ → ℕ) → s < 32 → has s w ≡ 0 → weight (put s w) x ≡ weight w x + x s
unfolding weight
weight_put w s x l h =
    sum_eq 32 (λ t. has t (put s w) * x t) (λ t. has t w * x t + part (eqb t s) (x t)) (λ t k. go t (ℕ_discrete t s))
    ∙ sum_add 32 (λ t. has t w * x t) (λ t. part (eqb t s) (x t))
    ∙ ap (λ (k : ℕ). sum 32 (λ t. has t w * x t) + k) (sum_one 32 (λ t. eqb t s) x s (eqb-T s s refl) (λ t k u. eqb→eq t s u) l)
  where
    go : (t : ℕ) → Dec (t ≡ s) → has t (put s w) * x t ≡ has t w * x t + part (eqb t s) (x t)
    go t (yes e) = rw (eq-eqb t s e, e, has_put_same s w, h) (omega arith)
    go t (no n) = rw (ne_eqb t s n, has_put_other s t w (λ e. n (sym e))) (omega arith)

-- a member weighs no more than all
pub weight_at : (w s : ℕ) (x : ℕ → ℕ) → s < 32 → has s w ≡ 1 → x s ≤ weight w x
unfolding weight
weight_at w s x l e = omega (arith, sum_at 32 (λ t. has t w * x t) s l, ap (λ (k : ℕ). k * x s) e)

-- the size of a set is the sum of its digits
ones_sum : (k w : ℕ) → ones_in k w ≡ sum k (λ s. has s w)
unfolding ones_in sum has
ones_sum zero w = refl
ones_sum (suc k) w = omega (arith, ones_sum k (w / 2), sum_first k (λ s. has s w))

pub size_sum : (w : ℕ) → size_of w ≡ sum 32 (λ s. has s w)
size_sum w = ones_sum 32 w

-- a set with a member has a size above 0
pub member_size : (w s : ℕ) → s < 32 → has s w ≡ 1 → 0 < size_of w
member_size w s l h = omega (arith, size_sum w, sum_at 32 (λ t. has t w) s l)

-- A WALK OVER THE MEMBERS ---------------------------------------------------------------------------------------------

-- where each step over a member adds that member's number, the walk adds the weight
module _ {S : Type 0} (P : S → ℕ → Type 0) (step : S → ℕ → S) (x : ℕ → ℕ) where
  walk_adds_from : (k b w : ℕ)
      → ((j : ℕ) → j < k → has j w ≡ 1 → (a : S) (n : ℕ) → P a n → P (step a (b + j)) (n + x (b + j)))
      → (a : S) (n : ℕ) → P a n → P (walk step a (members_from k b w)) (n + sum k (λ j. has j w * x (b + j)))
  unfolding walk members_from sum has
  walk_adds_from zero b w h a n p = subst (P a) (omega arith) p
  walk_adds_from (suc k) b w h a n p =
      let more : (j : ℕ) → j < k → has j (w / 2) ≡ 1 → (a : S) (n : ℕ) → P a n → P (step a (suc b + j)) (n + x (suc b + j)) =
      λ j l m a n q. subst (λ (i : ℕ). P (step a i) (n + x i)) (omega arith) (h (suc j) (omega arith) m a n q) in
      let first = sum_first k (λ j. has j w * x (b + j)) in
      let rest = sum_eq k (λ j. has j (w / 2) * x (suc b + j)) (λ j. has j (w / 2) * x (b + suc j)) (λ j l. ap (λ (i : ℕ). has j (w / 2) * x i) (omega arith)) in
      let z : x (b + 0) ≡ x b = ap x (omega arith) in
      go first rest z (has_or_not 0 w) (walk_adds_from k (suc b) (w / 2) more)
    where
      go : sum (suc k) (λ j. has j w * x (b + j)) ≡ w % 2 * x (b + 0) + sum k (λ j. has j (w / 2) * x (b + suc j))
          → sum k (λ j. has j (w / 2) * x (suc b + j)) ≡ sum k (λ j. has j (w / 2) * x (b + suc j))
          → x (b + 0) ≡ x b
          → (has 0 w ≡ 0) ⊎ (has 0 w ≡ 1)
          → ((a : S) (n : ℕ) → P a n → P (walk step a (members_from k (suc b) (w / 2))) (n + sum k (λ j. has j (w / 2) * x (suc b + j))))
          → P (walk step a (members_from (suc k) b w)) (n + sum (suc k) (λ j. has j w * x (b + j)))
      go first rest z (inl e) ih =
          rw (members_even k b w (w / 2) e refl)
          (subst (P _) (omega (arith, first, rest, ap (λ (i : ℕ). i * x (b + 0)) e)) (ih a n p))
      go first rest z (inr e) ih =
          rw (members_odd k b w (w / 2) e refl)
          (subst (P _) (omega (arith, first, rest, z, ap (λ (i : ℕ). i * x (b + 0)) e))
          (ih (step a b) (n + x b) (subst (λ (i : ℕ). P (step a i) (n + x i)) (omega arith) (h 0 (omega arith) e a n p))))

  pub walk_adds : (w : ℕ) → ((j : ℕ) → j < 32 → has j w ≡ 1 → (a : S) (n : ℕ) → P a n → P (step a j) (n + x j))
      → (a : S) (n : ℕ) → P a n → P (walk step a (members_from 32 0 w)) (n + weight w x)
  unfolding weight
  walk_adds w h a n p =
      subst (λ (m : ℕ). P (walk step a (members_from 32 0 w)) (n + m))
      (sum_eq 32 (λ j. has j w * x (0 + j)) (λ j. has j w * x j) (λ j l. ap (λ (i : ℕ). has j w * x i) (omega arith)))
      (walk_adds_from 32 0 w (λ j l m a n q. subst (λ (i : ℕ). P (step a i) (n + x i)) (omega arith) (h j l m a n q)) a n p)

-- THE SUM OF F --------------------------------------------------------------------------------------------------------

-- the rate y is n / N
pub record Comes (N : ℕ) (y : Rate) (n : ℕ) : Type 0 where
  pub pos : 0 < y.den
  pub same : Same y (frac n N)

plus_comes : (N n m : ℕ) (u v y : Rate) → Comes N u n → Comes N v m → plus_of u v ≡ Ok y → Comes N y (n + m)
unfolding add_of
plus_comes N n m u v y i j e =
    let D = mul-pos i.pos j.pos in
    let M = u.num * v.den + v.num * u.den in
    subst (λ (z : Rate). Comes N z (n + m)) (plus_rate u v e).0
    (record {
      pos = lowest_pos M (u.den * v.den) D;
      same =
          same_trans {b = frac M (u.den * v.den)} D (lowest_same M (u.den * v.den))
          (record { cross = omega (arith, ap (λ (k : ℕ). k * v.den) i.same.cross, ap (λ (k : ℕ). k * u.den) j.same.cross) });
    })

-- what a total at a link of capacity c says of the sum n / N: past C means that the sum is
abbrev Stands : ℕ → ℕ → Result Rate NoTotal → ℕ → Type 0
Stands c N (Ok y) n = Comes N y n
Stands c N (Err no_total.TooFine) n = 0 ≤ 0
Stands c N (Err no_total.PastC) n = N * c < n

upto_stands : (c N n : ℕ) (y : Rate) → 0 < N → Comes N y n → Stands c N (upto_of c (Ok y)) n
unfolding upto_of
upto_stands c N n y h i =
    cases (λ (t : Result Rate NoTotal). Stands c N t n) (le_of y (whole_of c)) (Ok y) (Err no_total.PastC) (λ e. i)
    (λ e.
    let lt = le_false {a = y} {b = whole_of c} e in
    lt_of_mul-lt-mul_right y.den (omega (arith, mul-lt-mul_of_pos_right lt.cross h, i.same.cross)))

more_stands : (c N n m : ℕ) (t : Result Rate NoTotal) (v : Rate) → 0 < N → Stands c N t n → Comes N v m → Stands c N (more_of c t v) (n + m)
unfolding more_of upto_of
more_stands c N n m (Ok y) v h i j = go (plus_of y v) refl
  where
    go : (z : Result Rate TooFine) → plus_of y v ≡ z → Stands c N (upto_of c z) (n + m)
    go (Ok u) e = upto_stands c N (n + m) u h (plus_comes N n m y v u i j e)
    go (Err _) e = lit≤ tt
more_stands c N n m (Err no_total.TooFine) v h i j = lit≤ tt
more_stands c N n m (Err no_total.PastC) v h i j = omega arith

-- the rates of F's members over one denominator: x s / N
module _ (N : ℕ) (x : ℕ → ℕ) (p : Place) (h : 0 < N) (c : (s : ℕ) → s < 32 → has s (F p) ≡ 1 → Comes N (rate_at p s) (x s)) where
  sum_stands : Stands p.link.capacity N (sum_of p) (weight (F p) x)
  unfolding sum_of
  sum_stands =
      let C = p.link.capacity in
      subst (Stands C N (sum_of p)) {x = 0 + weight (F p) x} {y = weight (F p) x} (omega arith)
      (walk_adds (Stands C N) (λ a s. more_of C a (rate_at p s)) x (F p)
      (λ s l m a n q. more_stands C N n (x s) a (rate_at p s) h q (c s l m))
      (Ok zero_of) 0 (record { pos = lit≤ tt; same = record { cross = omega arith } }))

  -- where the sum of F is a rate, it is what F's members weigh
  pub members_weigh : (y : Rate) → sum_of p ≡ Ok y → Comes N y (weight (F p) x)
  members_weigh y e = subst (λ (t : Result Rate NoTotal). Stands p.link.capacity N t (weight (F p) x)) e sum_stands

  -- and as it is then at most C, they weigh at most C
  pub members_within : (y : Rate) → Workable p → sum_of p ≡ Ok y → weight (F p) x ≤ N * p.link.capacity
  members_within y work e =
      let i = members_weigh y e in
      let z : Sized p.link.capacity y = subst (TotalSized p.link.capacity) e (sum_sized p work) in
      le_of_mul-le-mul_right {k = y.den} (omega (arith, i.same.cross, mul-le-mul_right N z.num)) i.pos

  -- and where it is past C, they weigh more than C
  pub past_weigh : sum_of p ≡ Err no_total.PastC → N * p.link.capacity < weight (F p) x
  past_weigh e = subst (λ (t : Result Rate NoTotal). Stands p.link.capacity N t (weight (F p) x)) e sum_stands
