-- The words of the links in the terms of Figure 1: the count of ones is the number of open sessions, the room is what is left, and a member is a
-- session that crosses the link and is open. Links 64 + s are the own limits.
-- Assumes nothing.
use mathlib.Core.Bool.{Bool, false, not, true}
use mathlib.Core.Logic.{◌⊎◌, inl, inr}
use mathlib.Core.Path.{◌≡◌, refl, sym, ap, ◌∙◌, subst}
use Prim.Native.Nat.{ℕ, zero, suc, ◌+◌, ◌-◌, ◌*◌, ◌/◌, ◌%◌, ◌^◌, ◌<◌, ◌≤◌}
use native.Mathlib.Decide.{ℕ_discrete}
use native.Mathlib.Nat.{add-sub_cancel_left, pow-suc}
use native.Mathlib.Omega.{arith}
use borrow.Author.Tests.{lt-ltb, le-ltb, eq-eqb}
use lib.Count.{ones, ones-ones, ones_step}
use lib.Dec.{T, eqb, eqb→eq}
use lib.ListN.{get_or}
use lib.Pow.{pow-lt}
use Rattle.sessions.specs.Set.{has}
use Rattle.sessions.proofs.Members.{has_lt, has_or_not, has_zero}
use Rattle.sessions.proofs.Counts.{ones_zero}
use Rattle.sessions.proofs.Operations.{has_two_other, has_two_same, ones_two}
use Rattle.fairness.specs.Figure1.{Net, left_at, net, open_all, open_at}
use Rattle.fairness.specs.Sum.{part, sum}
use Rattle.fairness.proofs.Denominators.{all_weight}
use Rattle.fairness.proofs.Figure1IsFair.{weight_32}
use Rattle.fairness.proofs.NetOfProblem.{cap_link, cap_own, load_own, on_own, open_own}
use Rattle.fairness.proofs.Sums.{sum_eq, sum_first}
use Rattle.fractions.proofs.Cases.{order, split}
use Rattle.fairness.proofs.Parts.{part_is}
use Rattle.declarations.specs.declared.Declared.{Declared}
use Rattle.filling.specs.Lines.{problem_of}
use Rattle.filling.specs.OneRound.{Running, fixed_in}
use Rattle.filling.specs.SmallestShare.{count_of, limits_of, room_of, word_of}
use Rattle.filling.specs.State.{Fill}

-- DIGITS AS TESTS -----------------------------------------------------------------------------------------------------

pub open_part : (h : ℕ) → h < 2 → part (not (eqb h 0)) 1 ≡ h
open_part zero l = refl
open_part (suc zero) l = refl
open_part (suc (suc h)) l = absurd (omega arith)

pub open-T : (h : ℕ) → h < 2 → T (not (eqb h 0)) → h ≡ 1
open-T zero l t = absurd t
open-T (suc zero) l t = refl
open-T (suc (suc h)) l t = absurd (omega arith)

pub T-open : (h : ℕ) → h ≡ 1 → T (not (eqb h 0))
T-open h e = rw e tt

pub T-one : (h : ℕ) → h ≡ 1 → T (eqb h 1)
T-one h e = rw e tt

pub T-not_one : (h : ℕ) → h < 2 → T (not (eqb h 1)) → h ≡ 0
T-not_one zero l t = refl
T-not_one (suc zero) l t = absurd t
T-not_one (suc (suc h)) l t = absurd (omega arith)

-- the count of ones is the sum of the members
pub ones_sum : (k w : ℕ) → w < 2 ^ k → ones w ≡ sum k (λ s. has s w)
unfolding has sum
ones_sum zero w h = ap ones {x = w} {y = 0} (omega arith) ∙ ones-ones 0
ones_sum (suc k) w h =
    ones_step w ∙ ap (λ (x : ℕ). w % 2 + x) (ones_sum k (w / 2) (omega (arith, pow-suc 2 k))) ∙ sym (sum_first k (λ s. has s w))

-- as many as are open
pub open_ones : (d : Declared) (t : ℕ) → t < 2 ^ 32 → open_all (net (problem_of d)) (fixed_in t) ≡ ones t
unfolding open_all net problem_of
open_ones d t h =
    sum_eq 32 (λ s. part (not (fixed_in t s)) 1) (λ s. has s t) (λ s k. open_part (has s t) (has_lt s t)) ∙ sym (ones_sum 32 t h)

-- links below 64, and own limits from there
pub each : (P : ℕ → Type 0) → ((e : ℕ) → e < 64 → P e) → ((j : ℕ) → j < 32 → P (64 + j)) → (e : ℕ) → e < 96 → P e
each P f g e h = go (order 64 e)
  where
    go : (64 ≤ e) ⊎ (e < 64) → P e
    go (inr l) = f e l
    go (inl l) =
        let q : e ≡ 64 + (e - 64) = omega arith in
        rw q (g (e - 64) (omega arith))

pub few : (d : Declared) → all_weight (net (problem_of d)) ≤ 32
unfolding problem_of
few d = weight_32 (problem_of d) (omega arith)

pub weights : (d : Declared) (s : ℕ) → s < (net (problem_of d)).sessions → 0 < (net (problem_of d)).weight s
unfolding net
weights d s h = omega arith

-- ROOMS AND WORDS OF THE LINKS ----------------------------------------------------------------------------------------

module _ (d : Declared) (z : Fill) (run : Running d z) where
  abbrev w : Net
  w = net (problem_of d)

  abbrev x : ℕ → ℕ
  x s = get_or z.rate s 0

  abbrev fixed : ℕ → Bool
  fixed = fixed_in z.opens

  abbrev R : ℕ → ℕ
  R = room_of z.links.room z.den (limits_of d.access d.maximum)

  abbrev W : ℕ → ℕ
  W = word_of z.links z.opens

  room_own : (j : ℕ) → R (64 + j) ≡ z.den * limits_of d.access d.maximum j
  room_own j = rw (le-ltb (64 + j) 64 (omega arith), add-sub_cancel_left 64 j)

  word_own : (j : ℕ) → W (64 + j) ≡ has j z.opens * 2 ^ j
  word_own j = rw (le-ltb (64 + j) 64 (omega arith), add-sub_cancel_left 64 j)

  pub room_link : (e : ℕ) → e < 64 → R e ≡ get_or z.links.room e 0
  room_link e h = rw (lt-ltb e 64 h)

  pub word_link : (e : ℕ) → e < 64 → W e ≡ get_or z.links.at e 0
  word_link e h = rw (lt-ltb e 64 h)

  pub word_open : (j : ℕ) → has j z.opens ≡ 1 → W (64 + j) ≡ 2 ^ j
  word_open j q = word_own j ∙ rw q (omega arith)

  pub word_shut : (j : ℕ) → has j z.opens ≡ 0 → W (64 + j) ≡ 0
  word_shut j q = word_own j ∙ rw q (omega arith)

  -- the count of ones is the number of open sessions
  at_part : (on : Bool) (h a : ℕ) → h < 2 → (T on → a ≡ h) × (T (not on) → a ≡ 0) → part on (part (not (eqb h 0)) 1) ≡ a
  at_part true h a l q = open_part h l ∙ sym (q.0 tt)
  at_part false h a l q = sym (q.1 tt)

  open_link : (e : ℕ) → e < 64 → open_at w fixed e ≡ ones (W e)
  unfolding open_at net problem_of
  open_link e h =
      sum_eq 32 (λ s. part (w.on e s) (part (not (fixed s)) 1)) (λ s. has s (get_or z.links.at e 0))
      (λ s l. at_part (w.on e s) (has s z.opens) (has s (get_or z.links.at e 0)) (has_lt s z.opens) (run.at e h s l))
      ∙ sym (ones_sum 32 (get_or z.links.at e 0) (omega (arith, run.links.at e h)))
      ∙ sym (ap ones (word_link e h))

  own_ones : (j : ℕ) → has j z.opens ≡ ones (W (64 + j))
  own_ones j = go (has_or_not j z.opens)
    where
      go : (has j z.opens ≡ 0) ⊎ (has j z.opens ≡ 1) → has j z.opens ≡ ones (W (64 + j))
      go (inl q) = q ∙ sym (ap ones (word_shut j q) ∙ ones_zero)
      go (inr q) = q ∙ sym (ap ones (word_open j q) ∙ ones_two j)

  open_limit : (j : ℕ) → j < 32 → open_at w fixed (64 + j) ≡ ones (W (64 + j))
  unfolding problem_of
  open_limit j h = open_own (problem_of d) fixed j h ∙ open_part (has j z.opens) (has_lt j z.opens) ∙ own_ones j

  pub open_is : (e : ℕ) → e < 96 → open_at w fixed e ≡ ones (W e)
  open_is = each (λ e. open_at w fixed e ≡ ones (W e)) open_link open_limit

  -- the count that is kept is the count of ones
  pub count_is : (e : ℕ) → e < 96 → count_of z.links.count z.opens e ≡ ones (W e)
  count_is = each (λ e. count_of z.links.count z.opens e ≡ ones (W e)) link own
    where
      link : (e : ℕ) → e < 64 → count_of z.links.count z.opens e ≡ ones (W e)
      link e h = rw (lt-ltb e 64 h) (run.links.count e h)

      own : (j : ℕ) → j < 32 → count_of z.links.count z.opens (64 + j) ≡ ones (W (64 + j))
      own j h =
          let q : count_of z.links.count z.opens (64 + j) ≡ has j z.opens = rw (le-ltb (64 + j) 64 (omega arith), add-sub_cancel_left 64 j) in
          q ∙ own_ones j

  -- the room is what is left, at a link with somebody open
  left_link : (e : ℕ) → e < 64 → 0 < W e → left_at w z.den x e ≡ R e
  unfolding left_at problem_of
  left_link e h p =
      rw (room_link e h, cap_link (problem_of d) e h) (omega (arith, run.room e h (rw (word_link e h) at p)))

  own_cap : (j : ℕ) → j < 32 → has j z.opens ≡ 1 → w.capacity (64 + j) ≡ limits_of d.access d.maximum j
  unfolding problem_of
  own_cap j h q =
      cap_own (problem_of d) j
      ∙ part_is (eqb (has j d.sessions) 1) _ (T-one (has j d.sessions) (omega (arith, run.declared j h, has_lt j d.sessions)))

  left_own : (j : ℕ) → j < 32 → 0 < W (64 + j) → left_at w z.den x (64 + j) ≡ R (64 + j)
  unfolding left_at problem_of net
  left_own j h p = go (has_or_not j z.opens)
    where
      go : (has j z.opens ≡ 0) ⊎ (has j z.opens ≡ 1) → left_at w z.den x (64 + j) ≡ R (64 + j)
      go (inl q) = absurd (omega (arith, word_shut j q))
      go (inr q) =
          rw (room_own j, own_cap j h q, load_own (problem_of d) x j h)
          (omega (arith, run.filling.none_yet j h (T-open (has j z.opens) q)))

  pub left_is : (e : ℕ) → e < 96 → 0 < W e → left_at w z.den x e ≡ R e
  left_is = each (λ e. 0 < W e → left_at w z.den x e ≡ R e) left_link left_own

  -- a member of the word is a session that crosses the link and is open
  pub member_link : (e : ℕ) → e < 64 → (s : ℕ) → s < 32 → has s (W e) ≡ 1 → T (w.on e s) × T (not (fixed s))
  member_link e h s l q = go (split (w.on e s))
    where
      q' : has s (get_or z.links.at e 0) ≡ 1
      q' = ap (has s) (sym (word_link e h)) ∙ q

      go : T (w.on e s) ⊎ T (not (w.on e s)) → T (w.on e s) × T (not (fixed s))
      go (inl o) = (o, T-open (has s z.opens) (sym ((run.at e h s l).0 o) ∙ q'))
      go (inr o) = absurd (let n : has s (get_or z.links.at e 0) ≡ 0 = (run.at e h s l).1 o in omega (arith, q'))

  member_own : (j : ℕ) → j < 32 → (s : ℕ) → s < 32 → has s (W (64 + j)) ≡ 1 → T (w.on (64 + j) s) × T (not (fixed s))
  unfolding problem_of
  member_own j h s l q = go (has_or_not j z.opens)
    where
      found : has j z.opens ≡ 1 → Dec (j ≡ s) → T (w.on (64 + j) s) × T (not (fixed s))
      found t (yes e) = (
        subst T (sym (on_own (problem_of d) j s)) (rw (eq-eqb (64 + j) (64 + s) (omega arith)) tt),
        T-open (has s z.opens) (ap (λ (v : ℕ). has v z.opens) (sym e) ∙ t),
      )
      found t (no n) = absurd (omega (arith, q, ap (has s) (word_open j t), has_two_other j s n))

      go : (has j z.opens ≡ 0) ⊎ (has j z.opens ≡ 1) → T (w.on (64 + j) s) × T (not (fixed s))
      go (inl t) = absurd (omega (arith, q, ap (has s) (word_shut j t), has_zero s))
      go (inr t) = found t (ℕ_discrete j s)

  pub member : (e : ℕ) → e < 96 → (s : ℕ) → s < 32 → has s (W e) ≡ 1 → T (w.on e s) × T (not (fixed s))
  member = each (λ e. (s : ℕ) → s < 32 → has s (W e) ≡ 1 → T (w.on e s) × T (not (fixed s))) member_link member_own

  pub is_member_link : (e : ℕ) → e < 64 → (s : ℕ) → s < 32 → T (w.on e s) → T (not (fixed s)) → has s (W e) ≡ 1
  is_member_link e h s l o t = ap (has s) (word_link e h) ∙ (run.at e h s l).0 o ∙ open-T (has s z.opens) (has_lt s z.opens) t

  is_member_own : (j : ℕ) → j < 32 → (s : ℕ) → s < 32 → T (w.on (64 + j) s) → T (not (fixed s)) → has s (W (64 + j)) ≡ 1
  unfolding problem_of
  is_member_own j h s l o t =
      let e : j ≡ s = omega (arith, eqb→eq (64 + j) (64 + s) (subst T (on_own (problem_of d) j s) o)) in
      let q : has j z.opens ≡ 1 = ap (λ (v : ℕ). has v z.opens) e ∙ open-T (has s z.opens) (has_lt s z.opens) t in
      ap (has s) (word_open j q) ∙ ap (λ (v : ℕ). has s (2 ^ v)) e ∙ has_two_same s

  pub is_member : (e : ℕ) → e < 96 → (s : ℕ) → s < 32 → T (w.on e s) → T (not (fixed s)) → has s (W e) ≡ 1
  is_member = each (λ e. (s : ℕ) → s < 32 → T (w.on e s) → T (not (fixed s)) → has s (W e) ≡ 1) is_member_link is_member_own

  pub word_lt : (e : ℕ) → e < 96 → W e < 2 ^ 32
  word_lt = each (λ e. W e < 2 ^ 32) (λ e h. rw (word_link e h) (omega (arith, run.links.at e h))) own
    where
      own : (j : ℕ) → j < 32 → W (64 + j) < 2 ^ 32
      own j h = go (has_or_not j z.opens)
        where
          go : (has j z.opens ≡ 0) ⊎ (has j z.opens ≡ 1) → W (64 + j) < 2 ^ 32
          go (inl q) = rw (word_shut j q) (omega arith)
          go (inr q) = rw (word_open j q) (pow-lt h)
