-- What holds before a round holds after it, and fewer sessions are open.
-- Assumes nothing.
use mathlib.Core.Bool.{Bool, false, not, true}
use mathlib.Core.List.{List}
use mathlib.Core.Logic.{◌⊎◌, inl, inr}
use mathlib.Core.Path.{◌≡◌, refl, sym, ap, ◌∙◌, subst}
use Prim.Native.Nat.{ℕ, zero, suc, ◌+◌, ◌-◌, ◌*◌, ◌^◌, ◌<◌, ◌≤◌, min}
use native.Mathlib.Nat.{mul-le-mul, mul-le-mul_left, mul-le-mul_right, mul-pos}
use native.Mathlib.Omega.{arith}
use lib.Bits.{and_le_l, and_zero_l, bit_and}
use lib.Count.{ones}
use lib.Dec.{T, eqb, eqb→eq}
use lib.ListN.{get_or, length}
use Rattle.sessions.specs.Set.{has}
use Rattle.sessions.proofs.Members.{has_lt, has_zero}
use Rattle.sessions.proofs.Counts.{ones_zero}
use Rattle.sessions.proofs.Operations.{has_and}
use Rattle.fairness.specs.Figure1.{Net, left_at, load_at, net, open_at}
use Rattle.fairness.specs.Sum.{part, sum}
use Rattle.fairness.proofs.Denominators.{SmallDenominator, small_32, small_step}
use Rattle.fairness.proofs.NetOfProblem.{cap_link}
use Rattle.fairness.proofs.Rounds.{Filling, at_most, falls, left_after, step}
use Rattle.fairness.proofs.Sums.{sum_eq}
use Rattle.fractions.proofs.Cases.{order, split}
use Rattle.declarations.specs.declared.Declared.{Declared}
use Rattle.filling.specs.Lines.{problem_of}
use Rattle.filling.specs.OneRound.{LinksAfter, Remembered, Running, fixed_in}
use Rattle.filling.specs.SmallestShare.{LinksFit, parts_limit, word_of}
use Rattle.filling.specs.State.{Fill, fill_of}
use Rattle.filling.specs.declared.Given.{Given}
use Rattle.filling.specs.declared.Links.{Links}
use Rattle.filling.proofs.OpenSessions.{T-one, few, left_is, member_link, ones_sum, open_ones, room_link, weights, word_link}
use Rattle.filling.proofs.RoundOfFigure1.{Turn, open_after}

-- how many of a link's sessions are chosen, one session's part
chosen_part : (on : Bool) (a t c : ℕ) → a < 2 → c < 2 → (T on → a ≡ t) × (T (not on) → a ≡ 0) → (c ≡ 1 → t ≡ 1)
    → part on (part (eqb c 1) 1) ≡ min a c
chosen_part on a t zero ha hc q o = none on
  where
    none : (on : Bool) → part on 0 ≡ min a 0
    none true = omega arith
    none false = omega arith
chosen_part true a t (suc zero) ha hc q o = rw (q.0 tt, o refl) refl
chosen_part false a t (suc zero) ha hc q o = rw (q.1 tt) (omega arith)
chosen_part on a t (suc (suc c)) ha hc q o = absurd (omega arith)

-- ALL LINKS -----------------------------------------------------------------------------------------------------------

module _ (d : Declared) (z : Fill) (run : Running d z) (l : Given) (small_word : l.chosen < 2 ^ 32) (rate' : List ℕ) (long : length rate' ≡ 32)
    (turn : Turn d z l rate') where
  abbrev w : Net
  w = net (problem_of d)

  abbrev x : ℕ → ℕ
  x s = get_or z.rate s 0

  abbrev fixed : ℕ → Bool
  fixed = fixed_in z.opens

  abbrev b : ℕ
  b = turn.b

  abbrev ch : ℕ → Bool
  ch s = eqb (has s l.chosen) 1

  abbrev N' : ℕ
  N' = z.den * l.count

  abbrev x' : ℕ → ℕ
  x' s = get_or rate' s 0

  abbrev opens' : ℕ
  opens' = open_after z.opens l

  next_filling : Filling w N' x' (fixed_in opens')
  next_filling = step w z.den x fixed (weights d) run.filling b ch N' x' (fixed_in opens') turn.is_round

  next_small : SmallDenominator w N' (fixed_in opens')
  next_small = small_step w (few d) z.den x fixed (weights d) run.filling b ch N' x' (fixed_in opens') turn.is_round run.small

  pub den_after : z.den * l.count ≤ 118098
  den_after = small_32 w (few d) N' (fixed_in opens') next_small

  opens_less : opens' < 2 ^ 32
  opens_less = omega (arith, and_le_l z.opens ((2 ^ 32 - 1) - l.chosen), run.word)

  pub fewer : ones (open_after z.opens l) < ones z.opens
  fewer =
      omega (
        arith,
        falls w z.den x fixed (weights d) run.filling b ch N' x' (fixed_in opens') turn.is_round,
        turn.is_round.some,
        open_ones d z.opens (omega (arith, run.word)),
        open_ones d opens' opens_less,
      )

  module _ (links' : Links) (links-are : LinksAfter z.links l links') where
    next_at : (e : ℕ) → e < 64 → (s : ℕ) → s < 32
        → (T (w.on e s) → has s (get_or links'.at e 0) ≡ has s opens') × (T (not (w.on e s)) → has s (get_or links'.at e 0) ≡ 0)
    next_at e h s k = (
      λ o. links-are.at e h s k ∙ rw ((run.at e h s k).0 o) (sym (turn.open_after_lem s k)),
      λ o. links-are.at e h s k ∙ rw ((run.at e h s k).1 o) (omega arith),
    )

    chosen_count : (e : ℕ) → e < 64
        → sum w.sessions (λ s. part (w.on e s) (part (ch s) (w.weight s))) ≡ ones (bit_and (get_or z.links.at e 0) l.chosen)
    unfolding net problem_of
    chosen_count e h =
        sum_eq 32 (λ s. part (w.on e s) (part (ch s) 1)) (λ s. has s (bit_and (get_or z.links.at e 0) l.chosen))
        (λ s k.
        chosen_part (w.on e s) (has s (get_or z.links.at e 0)) (has s z.opens) (has s l.chosen) (has_lt s _) (has_lt s _) (run.at e h s k)
        (turn.chosen_open s k)
        ∙ sym (has_and s (get_or z.links.at e 0) l.chosen))
        ∙ sym
        (ones_sum 32 (bit_and (get_or z.links.at e 0) l.chosen)
        (omega (arith, and_le_l (get_or z.links.at e 0) l.chosen, run.links.at e h)))

    left_next : (e : ℕ) → e < 64 → 0 < get_or z.links.at e 0 → get_or links'.room e 0 ≡ left_at w N' x' e
    unfolding net problem_of
    left_next e h p =
        let q : 0 < word_of z.links z.opens e = rw (word_link d z run e h) p in
        let f = left_is d z run e (omega arith) q ∙ room_link d z run e h in
        omega (
          arith,
          links-are.room e h p,
          left_after w z.den x fixed (weights d) run.filling b ch N' x' (fixed_in opens') turn.is_round e (omega arith),
          ap (λ (v : ℕ). l.room * v) (chosen_count e h),
          ap (λ (v : ℕ). v * sum w.sessions (λ s. part (w.on e s) (part (ch s) (w.weight s)))) turn.b_room,
          ap (λ (v : ℕ). v * left_at w z.den x e) turn.b_count,
          ap (λ (v : ℕ). l.count * v) f,
        )

    next_room : (e : ℕ) → e < 64 → 0 < get_or z.links.at e 0 → get_or links'.room e 0 + load_at w x' e ≡ N' * get_or d.capacity e 0
    unfolding left_at net problem_of
    next_room e h p =
        omega (arith, left_next e h p, next_filling.fits e (omega arith), ap (λ (v : ℕ). N' * v) (cap_link (problem_of d) e h))

    next_kept : (e : ℕ) → e < 64 → (c : ℕ) × (0 < c) × (left_at w N' x' e ≡ c * get_or links'.room e 0)
    unfolding net problem_of
    next_kept e h = go (order (get_or z.links.at e 0) 0)
      where
        a : (c : ℕ) × (0 < c) × (left_at w z.den x e ≡ c * get_or z.links.room e 0)
        a = run.kept e h

        -- nobody is there to get the share
        after : get_or z.links.at e 0 ≡ 0 → left_at w N' x' e + left_at w z.den x b * 0 ≡ open_at w fixed b * left_at w z.den x e
        after q =
            let none : ones (bit_and (get_or z.links.at e 0) l.chosen) ≡ 0 =
            ap (λ (v : ℕ). ones (bit_and v l.chosen)) q ∙ ap ones (and_zero_l l.chosen) ∙ ones_zero in
            subst (λ (v : ℕ). left_at w N' x' e + left_at w z.den x b * v ≡ open_at w fixed b * left_at w z.den x e) (chosen_count e h ∙ none)
            (left_after w z.den x fixed (weights d) run.filling b ch N' x' (fixed_in opens') turn.is_round e (omega arith))

        still : get_or z.links.at e 0 ≡ 0
            → (get_or links'.room e 0 ≡ get_or z.links.room e 0) ⊎ (get_or links'.room e 0 ≡ get_or z.links.room e 0 * l.count)
            → (c : ℕ) × (0 < c) × (left_at w N' x' e ≡ c * get_or links'.room e 0)
        still q (inl same) = (
          open_at w fixed b * a.0,
          mul-pos turn.is_round.some a.1,
          omega (arith, after q, ap (λ (v : ℕ). open_at w fixed b * v) a.2, ap (λ (v : ℕ). open_at w fixed b * a.0 * v) same),
        )
        still q (inr more) = (
          a.0,
          a.1,
          omega (
            arith,
            after q,
            ap (λ (v : ℕ). open_at w fixed b * v) a.2,
            ap (λ (v : ℕ). a.0 * get_or z.links.room e 0 * v) turn.b_count,
            ap (λ (v : ℕ). a.0 * v) more,
          ),
        )

        go : (get_or z.links.at e 0 ≤ 0) ⊎ (0 < get_or z.links.at e 0) → (c : ℕ) × (0 < c) × (left_at w N' x' e ≡ c * get_or links'.room e 0)
        go (inr p) = (1, omega arith, omega (arith, left_next e h p))
        go (inl n) = still (omega arith) (links-are.still e h (omega arith))

    -- a room is at most what is left
    next_fit : LinksFit links'
    unfolding left_at net problem_of
    next_fit =
        record {
          room = room;
          at = λ e h. omega (arith, links-are.small e h, run.links.at e h);
          count = links-are.count;
          busy = links-are.busy;
        }
      where
        room : (e : ℕ) → e < 64 → get_or links'.room e 0 ≤ parts_limit
        room e h =
            let k = next_kept e h in
            omega (
              arith,
              k.2,
              mul-le-mul_right {m = 1} {n = k.0} (get_or links'.room e 0) k.1,
              ap (λ (v : ℕ). N' * v) (cap_link (problem_of d) e h),
              mul-le-mul den_after (run.ranges.capacity e h),
            )

    -- at a link where nobody was open none is chosen
    unchosen : (e : ℕ) → e < 64 → get_or z.links.at e 0 ≡ 0 → (s : ℕ) → s < 32 → T (w.on e s) → T (not (ch s))
    unchosen e h q s k o = go (split (ch s))
      where
        go : T (ch s) ⊎ T (not (ch s)) → T (not (ch s))
        go (inl c) =
            absurd
            (omega (
              arith,
              turn.chosen_open s k (eqb→eq (has s l.chosen) 1 c),
              (run.at e h s k).0 o,
              ap (has s) q,
              has_zero s,
            ))
        go (inr n) = n

    -- a link that loses its last open session remembers one that gets the share, and no rate is above that
    next_last : (e : ℕ) → e < 64 → get_or links'.at e 0 ≡ 0 → (t : ℕ) → t < 32 → T (w.on e t)
        → T (w.on e (get_or links'.last e 0)) × (x' t ≤ x' (get_or links'.last e 0))
    unfolding net problem_of
    next_last e h q t k o = go (links-are.last e h)
      where
        u : ℕ
        u = get_or links'.last e 0

        low : u < 32
        low = links-are.long.low e h

        go : Remembered (λ s. has s l.chosen ≡ 1) (get_or z.links.at e 0) (get_or z.links.last e 0) (get_or links'.at e 0) u
            → T (w.on e u) × (x' t ≤ x' u)
        go (inl same) =
            let none = same.1 q in
            let old : T (w.on e u) × (x t ≤ x u) =
            subst (λ (v : ℕ). T (w.on e v) × (x t ≤ x v)) (sym same.0) (run.last e h none t k o) in (
              old.0,
              omega (
                arith,
                (turn.is_round.miss t k (unchosen e h none t k o)).0,
                (turn.is_round.miss u low (unchosen e h none u low old.0)).0,
                mul-le-mul_left (open_at w fixed b) old.1,
              ),
            )
        go (inr one) = (
          (member_link d z run e h u low (ap (has u) (word_link d z run e h) ∙ one.1)).0,
          omega (
            arith,
            at_most w z.den x fixed (weights d) run.filling b ch N' x' (fixed_in opens') turn.is_round t k,
            (turn.is_round.hit u low (T-one (has u l.chosen) one.0)).0,
          ),
        )

    pub running : Running d (fill_of (z.den * l.count) (open_after z.opens l) links' rate')
    running =
        record {
          ranges = run.ranges;
          word = omega (arith, opens_less);
          links = next_fit;
          whole = links-are.long;
          rates = long;
          filling = next_filling;
          small = next_small;
          declared = λ s h. omega (arith, run.declared s h, turn.open_after_lem s h);
          at = next_at;
          last = next_last;
          room = λ e h p. next_room e h (omega (arith, links-are.small e h));
          kept = next_kept;
        }
