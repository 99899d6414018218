-- One round of the code is a round of Figure 1 (001): the smallest share goes to all open sessions at every link that has it.
-- Assumes nothing.
use mathlib.Core.Bool.{Bool}
use mathlib.Core.List.{List}
use mathlib.Core.Logic.{◌⊎◌, inl, inr}
use mathlib.Core.Path.{◌≡◌, refl, sym, ap, ◌∙◌}
use Prim.Native.Nat.{ℕ, ◌+◌, ◌-◌, ◌*◌, ◌^◌, ◌<◌, ◌≤◌, min}
use native.Mathlib.Nat.{mul-le-mul, mul-le-mul_left}
use native.Mathlib.Omega.{arith}
use borrow.Author.Tests.{eq-eqb, ne_eqb}
use lib.Bits.{and_le_l, bit_and}
use lib.Count.{ones, count_trailing_zeros}
use lib.Dec.{eqb, eqb→eq}
use lib.ListN.{get_or}
use Rattle.sessions.specs.Set.{has}
use Rattle.sessions.proofs.Members.{has_lt, has_or_not, has_pos}
use Rattle.sessions.proofs.Counts.{ones_zero}
use Rattle.sessions.proofs.Operations.{has_without, ones_two}
use Rattle.sessions.proofs.Walks.{ones_some, low_has, low_lt}
use Rattle.fairness.specs.Figure1.{Net, left_at, net, open_at}
use Rattle.fairness.specs.Sum.{part}
use Rattle.fairness.proofs.Denominators.{small_32}
use Rattle.fairness.proofs.NetOfProblem.{cap_own, load_own}
use Rattle.fairness.proofs.Rounds.{Round}
use Rattle.fractions.proofs.Cases.{order}
use Rattle.fairness.proofs.Parts.{part_le}
use Rattle.declarations.proofs.OwnLimit.{own_limit_le}
use Rattle.declarations.specs.declared.Declared.{Declared}
use Rattle.filling.specs.Lines.{problem_of}
use Rattle.filling.specs.OneRound.{RatesAfter, Running, fixed_in, rate_after}
use Rattle.filling.specs.SmallestShare.{GivenAmong, limits_of, parts_limit, room_of, word_of}
use Rattle.filling.specs.State.{Fill}
use Rattle.filling.specs.declared.Given.{Given}
use Rattle.filling.proofs.OpenSessions.{T-not_one, T-one, T-open, few, is_member, left_is, member, open-T, open_is, room_link, word_link, word_lt, word_open}

-- the sessions that are open after a round
abbrev pub open_after : ℕ → Given → ℕ
open_after opens l = bit_and opens ((2 ^ 32 - 1) - l.chosen)

-- a round of Figure 1 from z, at a link b that has the share l, to the rates x'
pub record Turn (d : Declared) (z : Fill) (l : Given) (x' : List ℕ) : Type 0 where
  pub b : ℕ
  pub b_room : left_at (net (problem_of d)) z.den (λ s. get_or z.rate s 0) b ≡ l.room
  pub b_count : open_at (net (problem_of d)) (fixed_in z.opens) b ≡ l.count
  pub is_round : Round (net (problem_of d)) z.den (λ s. get_or z.rate s 0) (fixed_in z.opens) b (λ s. eqb (has s l.chosen) 1)
      (z.den * l.count) (λ s. get_or x' s 0) (fixed_in (open_after z.opens l))
  pub chosen_open : (s : ℕ) → s < 32 → has s l.chosen ≡ 1 → has s z.opens ≡ 1
  pub open_after_lem : (s : ℕ) → s < 32 → has s (open_after z.opens l) ≡ min (has s z.opens) (1 - has s l.chosen)

module _ (d : Declared) (z : Fill) (run : Running d z) where
  abbrev w : Net
  w = net (problem_of d)

  abbrev x : ℕ → ℕ
  x s = get_or z.rate s 0

  abbrev fixed : ℕ → Bool
  fixed = fixed_in z.opens

  abbrev R : ℕ → ℕ
  R = room_of z.links.room z.den (limits_of d.access d.maximum)

  abbrev W : ℕ → ℕ
  W = word_of z.links z.opens

  -- WHAT THE CALLS OF A ROUND ASK -------------------------------------------------------------------------------------

  pub den_before : z.den ≤ 118098
  den_before = small_32 w (few d) z.den fixed run.small

  own_fits : (s : ℕ) → s < 32 → x s ≤ z.den * part (eqb (has s d.sessions) 1) (limits_of d.access d.maximum s)
  unfolding net problem_of
  own_fits s h =
      omega (arith, load_own (problem_of d) x s h, run.filling.fits (64 + s) (omega arith), ap (λ (v : ℕ). z.den * v) (cap_own (problem_of d) s))

  pub rate_before : (s : ℕ) → s < 32 → x s ≤ parts_limit
  rate_before s h =
      omega (
        arith,
        own_fits s h,
        mul-le-mul_left z.den (part_le (eqb (has s d.sessions) 1) (limits_of d.access d.maximum s)),
        mul-le-mul_left z.den (own_limit_le (get_or d.access s 0) (get_or d.maximum s 0)),
        mul-le-mul den_before (run.ranges.access s h),
      )

  -- a session that is not declared has no rate
  no_rate_lem : (s : ℕ) → s < 32 → has s d.sessions ≡ 0 → x s ≡ 0
  no_rate_lem s h q =
      let n : eqb (has s d.sessions) 1 ≡ eqb 0 1 = ap (λ (v : ℕ). eqb v 1) q in
      omega (arith, own_fits s h, ap (λ (t : Bool). z.den * part t (limits_of d.access d.maximum s)) n)

  module _ (l : Given) (best : GivenAmong R W l) where
    pub room_enough : (e : ℕ) → e < 64 → 0 < get_or z.links.at e 0 → l.room * ones (get_or z.links.at e 0) ≤ get_or z.links.room e 0 * l.count
    room_enough e h p = rw (word_link d z run e h, room_link d z run e h) at (best.low e (omega arith))

    chosen_open : (s : ℕ) → s < 32 → has s l.chosen ≡ 1 → has s z.opens ≡ 1
    chosen_open s h q =
        let a = best.some s h q in
        open-T (has s z.opens) (has_lt s z.opens) (member d z run a.0 a.1 s h a.2).1

    undeclared : (s : ℕ) → s < 32 → has s d.sessions ≡ 0 → (x s ≡ 0) × (has s l.chosen ≡ 0)
    undeclared s h q = (no_rate_lem s h q, go (has_or_not s l.chosen))
      where
        go : (has s l.chosen ≡ 0) ⊎ (has s l.chosen ≡ 1) → has s l.chosen ≡ 0
        go (inl n) = n
        go (inr c) = absurd (omega (arith, chosen_open s h c, run.declared s h))

    -- who is not declared, or is still open after the round, has no rate and gets none
    pub others : l.chosen < 2 ^ 32 → (s : ℕ) → s < 32 → has s (bit_and d.sessions ((2 ^ 32 - 1) - open_after z.opens l)) ≡ 0
        → (x s ≡ 0) × (has s l.chosen ≡ 0)
    unfolding net problem_of
    others small_word s h q = go (has_or_not s d.sessions)
      where
        after : has s (open_after z.opens l) ≡ min (has s z.opens) (1 - has s l.chosen)
        after = has_without 32 s z.opens l.chosen h small_word

        opens_lt : open_after z.opens l < 2 ^ 32
        opens_lt = omega (arith, and_le_l z.opens ((2 ^ 32 - 1) - l.chosen), run.word)

        go : (has s d.sessions ≡ 0) ⊎ (has s d.sessions ≡ 1) → (x s ≡ 0) × (has s l.chosen ≡ 0)
        go (inl n) = undeclared s h n
        go (inr m) =
            let o = has_without 32 s d.sessions (open_after z.opens l) h opens_lt in
            let is_open : has s z.opens ≡ 1 = omega (arith, q, o, m, after, has_lt s z.opens, has_lt s l.chosen) in
            (run.filling.none_yet s h (T-open (has s z.opens) is_open), omega (arith, q, o, m, after, has_lt s z.opens, has_lt s l.chosen))

    -- THE ROUND -------------------------------------------------------------------------------------------------------

    module _ (small_word : l.chosen < 2 ^ 32) (some_open : 0 < z.opens) (rate' : List ℕ) (rates-are : RatesAfter z.rate l rate') where
      opens_lt : z.opens < 2 ^ 32
      opens_lt = omega (arith, run.word)

      abbrev found_at : Type 0
      found_at = (b : ℕ) × (b < 96) × (l.room ≡ R b) × (l.count ≡ ones (W b)) × (0 < W b)

      found : found_at
      found = go best.from
        where
          s : ℕ
          s = count_trailing_zeros 32 z.opens

          s_has : has s z.opens ≡ 1
          s_has = low_has 32 z.opens some_open opens_lt

          go : ((l.room ≡ 1) × (l.count ≡ 0)) ⊎ found_at → found_at
          go (inr b) = b
          go (inl n) =
              absurd
              (omega (
                arith,
                n.0,
                rw (n.0, n.1, word_open d z run s s_has, ones_two s) at (best.low (64 + s) (omega (arith, low_lt 32 z.opens some_open opens_lt))),
              ))

      abbrev b : ℕ
      b = found.0

      abbrev N' : ℕ
      N' = z.den * l.count

      abbrev opens' : ℕ
      opens' = bit_and z.opens ((2 ^ 32 - 1) - l.chosen)

      abbrev ch : ℕ → Bool
      ch s = eqb (has s l.chosen) 1

      b_room : left_at w z.den x b ≡ l.room
      b_room = left_is d z run b found.1 found.4 ∙ sym found.2

      b_count : open_at w fixed b ≡ l.count
      b_count = open_is d z run b found.1 ∙ sym found.3

      -- the smallest share, in the terms of Figure 1
      live : (e s : ℕ) → has s (W e) ≡ 1 → 0 < W e
      live e s q = has_pos s (W e) q

      least : (e : ℕ) → e < 96 → left_at w z.den x b * open_at w fixed e ≤ left_at w z.den x e * open_at w fixed b
      least e h = go (order (W e) 0)
        where
          go : (W e ≤ 0) ⊎ (0 < W e) → left_at w z.den x b * open_at w fixed e ≤ left_at w z.den x e * open_at w fixed b
          go (inl n) =
              let q : open_at w fixed e ≡ 0 = open_is d z run e h ∙ ap ones {x = W e} {y = 0} (omega arith) ∙ ones_zero in
              rw q (omega arith)
          go (inr p) = rw (b_room, b_count, open_is d z run e h, left_is d z run e h p) (best.low e h)

      has_opens' : (s : ℕ) → s < 32 → has s opens' ≡ min (has s z.opens) (1 - has s l.chosen)
      has_opens' s h = has_without 32 s z.opens l.chosen h small_word

      opens_hit : (s : ℕ) → s < 32 → has s l.chosen ≡ 1 → has s opens' ≡ 0
      opens_hit s h q = has_opens' s h ∙ rw q (omega arith)

      opens_miss : (s : ℕ) → s < 32 → has s l.chosen ≡ 0 → has s opens' ≡ has s z.opens
      opens_miss s h q = has_opens' s h ∙ rw q (omega (arith, has_lt s z.opens))

      abbrev x' : ℕ → ℕ
      x' s = get_or rate' s 0

      rate_hit : (s : ℕ) → s < 32 → has s l.chosen ≡ 1 → x' s ≡ l.room
      unfolding rate_after
      rate_hit s h q = rates-are.rate s h ∙ rw (eq-eqb (has s l.chosen) 1 q) refl

      rate_miss : (s : ℕ) → s < 32 → has s l.chosen ≡ 0 → x' s ≡ x s * l.count
      unfolding rate_after
      rate_miss s h q = rates-are.rate s h ∙ rw (ne_eqb (has s l.chosen) 1 (λ e. omega arith)) refl

      is_round : Round w z.den x fixed b ch N' x' (fixed_in opens')
      unfolding net problem_of
      is_round =
          record {
            is_a_link = found.1;
            some = rw b_count (rw found.3 (ones_some 32 (W b) found.4 (word_lt d z run b found.1)));
            least = least;
            chosen = λ s h t.
                let q = eqb→eq (has s l.chosen) 1 t in
                let a = best.some s h q in
                let m = member d z run a.0 a.1 s h a.2 in
                let left = left_is d z run a.0 a.1 (live a.0 s a.2) in
                (m.1, (a.0, a.1, m.0, rw (b_room, b_count, open_is d z run a.0 a.1, left) a.3));
            all = λ s h t e he o q.
                let m = is_member d z run e he s h o t in
                let left = left_is d z run e he (live e s m) in
                T-one (has s l.chosen) (best.every s h e he m (rw (b_room, b_count, open_is d z run e he, left) at q));
            den = ap (λ (v : ℕ). z.den * v) (sym b_count);
            hit = λ s h t.
                let q = eqb→eq (has s l.chosen) 1 t in
                (rate_hit s h q ∙ sym b_room ∙ omega arith, eq-eqb (has s opens') 0 (opens_hit s h q));
            miss = λ s h t.
                let q = T-not_one (has s l.chosen) (has_lt s l.chosen) t in
                (rate_miss s h q ∙ rw b_count (omega arith), ap (λ (v : ℕ). eqb v 0) (opens_miss s h q));
          }

      pub turn : Turn d z l rate'
      turn = record { b = b; b_room = b_room; b_count = b_count; is_round = is_round; chosen_open = chosen_open; open_after_lem = has_opens' }
