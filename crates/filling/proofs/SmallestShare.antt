-- The smallest share, found link by link: what one link more makes of it.
-- Assumes nothing.
use mathlib.Core.Bool.{Bool, false, true, cond}
use mathlib.Core.Logic.{◌⊎◌, inl, inr}
use mathlib.Core.Path.{◌≡◌, refl, ap, ◌∙◌}
use Prim.Native.Nat.{ℕ, ◌-◌, ◌*◌, ◌^◌, ◌<◌, ◌≤◌, max}
use native.Mathlib.Decide.{ℕ_discrete}
use native.Mathlib.Nat.{mul-le-mul_right, lt_of_mul-lt-mul_right, mul-lt-mul_of_pos_right}
use native.Mathlib.Omega.{arith}
use borrow.Author.Tests.{lt-ltb, le-ltb, eq-eqb, ne_eqb, eqb-true, eqb-false, ltb-true, ltb-false}
use lib.Bits.{bit_or, or_lt}
use lib.Dec.{eqb, ltb}
use Rattle.sessions.specs.Set.{has}
use Rattle.sessions.proofs.Members.{has_lt, has_zero}
use Rattle.sessions.proofs.Operations.{has_or}
use Rattle.fractions.proofs.Cases.{order}
use Rattle.filling.specs.SmallestShare.{SmallestAmong, SmallestFits, bit_of, both_of, parts_limit, smaller_of}
use Rattle.filling.specs.declared.Smallest.{Smallest}

-- THE LINKS OF A SHARE ------------------------------------------------------------------------------------------------

-- 1/0, which no link has
abbrev pub nothing : Smallest
nothing = record { room = 1; count = 0; own = 0; links = 0 }

bits_zero : (e : ℕ) → bit_of 0 0 e ≡ 0
bits_zero e = go (ltb e 64)
  where
    go : (t : Bool) → cond t (has e 0) (has (e - 64) 0) ≡ 0
    go true = has_zero e
    go false = has_zero (e - 64)

bits_or : (a b c d e : ℕ) → bit_of (bit_or a c) (bit_or b d) e ≡ max (bit_of a b e) (bit_of c d e)
bits_or a b c d e = go (ltb e 64)
  where
    go : (t : Bool)
        → cond t (has e (bit_or b d)) (has (e - 64) (bit_or a c)) ≡ max (cond t (has e b) (has (e - 64) a)) (cond t (has e d) (has (e - 64) c))
    go true = has_or e b d
    go false = has_or (e - 64) a c

bits_lt : (a b e : ℕ) → bit_of a b e < 2
bits_lt a b e = go (ltb e 64)
  where
    go : (t : Bool) → cond t (has e b) (has (e - 64) a) < 2
    go true = has_lt e b
    go false = has_lt (e - 64) a

-- the words own and link name the link n alone
abbrev pub Only : ℕ → ℕ → ℕ → Type 0
Only own link n = (e : ℕ) → e < 96 → (e ≡ n → bit_of own link e ≡ 1) × ((e ≡ n → ⊥) → bit_of own link e ≡ 0)

pub best_none : (S : ℕ → Type 0) (R K : ℕ → ℕ) → ((e : ℕ) → S e → ⊥) → SmallestAmong S R K nothing
best_none S R K n =
    record {
      low = λ e h. absurd (n e h);
      from = inl (refl, refl);
      ok = λ e h q. absurd (let z = bits_zero e in omega arith);
      all = λ e h k. absurd (n e k);
    }

pub best_sub : (S S' : ℕ → Type 0) (R K : ℕ → ℕ) (l : Smallest) → ((e : ℕ) → S' e → S e) → SmallestAmong S R K l → SmallestAmong S' R K l
best_sub S S' R K l f b =
    record {
      low = λ e h. b.low e (f e h);
      from = b.from;
      ok = b.ok;
      all = λ e h k. b.all e h (f e k);
    }

-- links with nobody open change nothing
pub best_dead : (S : ℕ → Type 0) (R K : ℕ → ℕ) (l : Smallest) → SmallestAmong S R K l → SmallestAmong (λ e. S e ⊎ (K e ≡ 0)) R K l
best_dead S R K l b = record { low = low; from = b.from; ok = b.ok; all = every }
  where
    low : (e : ℕ) → S e ⊎ (K e ≡ 0) → l.room * K e ≤ R e * l.count
    low e (inl h) = b.low e h
    low e (inr h) = rw h (omega arith)

    every : (e : ℕ) → e < 96 → S e ⊎ (K e ≡ 0) → 0 < K e → R e * l.count ≡ l.room * K e → bit_of l.own l.links e ≡ 1
    every e h (inl k) = b.all e h k
    every e h (inr k) = λ p r. absurd (omega arith)

abbrev pub or_new : (ℕ → Type 0) → ℕ → ℕ → Type 0
or_new S n e = S e ⊎ (e ≡ n)

module _ (S : ℕ → Type 0) (R K : ℕ → ℕ) (l : Smallest) (b : SmallestAmong S R K l) (n : ℕ) (hn : n < 96) (own link : ℕ) (one : Only own link n)
    (pos : 0 < K n) where
  -- a smaller one
  module _ (less : R n * l.count < l.room * K n) where
    strictly : (e : ℕ) → S e → 0 < K e → R n * K e < R e * K n
    strictly e h p =
        lt_of_mul-lt-mul_right l.count
        (omega (arith, mul-lt-mul_of_pos_right {k = K e} less p, mul-le-mul_right (K n) (b.low e h)))

    low_less : (e : ℕ) → or_new S n e → R n * K e ≤ R e * K n
    low_less e (inr q) = rw q (omega arith)
    low_less e (inl h) = go (order (K e) 0)
      where
        go : (K e ≤ 0) ⊎ (0 < K e) → R n * K e ≤ R e * K n
        go (inl z) = let z' : K e ≡ 0 = omega arith in rw z' (omega arith)
        go (inr p) = omega (arith, strictly e h p)

    ok_less : (e : ℕ) → e < 96 → bit_of own link e ≡ 1 → (0 < K e) × (R e * K n ≡ R n * K e)
    ok_less e h q = go (ℕ_discrete e n)
      where
        go : Dec (e ≡ n) → (0 < K e) × (R e * K n ≡ R n * K e)
        go (yes x) = rw x (pos, refl)
        go (no x) = absurd (omega (arith, (one e h).1 x))

    all_less : (e : ℕ) → e < 96 → or_new S n e → 0 < K e → R e * K n ≡ R n * K e → bit_of own link e ≡ 1
    all_less e h (inr x) p r = (one e h).0 x
    all_less e h (inl k) p r = absurd (omega (arith, strictly e k p))

    best_less : SmallestAmong (or_new S n) R K (record { room = R n; count = K n; own = own; links = link })
    best_less = record { low = low_less; from = inr (n, hn, refl, refl, pos); ok = ok_less; all = all_less }

  -- an equal one
  module _ (same : R n * l.count ≡ l.room * K n) where
    low_same : (e : ℕ) → or_new S n e → l.room * K e ≤ R e * l.count
    low_same e (inl h) = b.low e h
    low_same e (inr q) = rw q (omega arith)

    ok_same : (e : ℕ) → e < 96 → bit_of (bit_or l.own own) (bit_or l.links link) e ≡ 1 → (0 < K e) × (R e * l.count ≡ l.room * K e)
    ok_same e h q = go (ℕ_discrete e n) (order (bit_of l.own l.links e) 0)
      where
        go : Dec (e ≡ n) → (bit_of l.own l.links e ≤ 0) ⊎ (0 < bit_of l.own l.links e) → (0 < K e) × (R e * l.count ≡ l.room * K e)
        go (yes x) y = rw x (pos, same)
        go (no x) (inr y) = b.ok e h (omega (arith, bits_lt l.own l.links e))
        go (no x) (inl y) = absurd (omega (arith, bits_or l.own l.links own link e, (one e h).1 x))

    all_same : (e : ℕ) → e < 96 → or_new S n e → 0 < K e → R e * l.count ≡ l.room * K e
        → bit_of (bit_or l.own own) (bit_or l.links link) e ≡ 1
    all_same e h (inl k) p r = omega (arith, bits_or l.own l.links own link e, b.all e h k p r, bits_lt own link e)
    all_same e h (inr x) p r = omega (arith, bits_or l.own l.links own link e, (one e h).0 x, bits_lt l.own l.links e)

    best_same : SmallestAmong (or_new S n) R K (both_of l own link)
    best_same = record { low = low_same; from = b.from; ok = ok_same; all = all_same }

  -- a larger one
  module _ (more : l.room * K n < R n * l.count) where
    low_more : (e : ℕ) → or_new S n e → l.room * K e ≤ R e * l.count
    low_more e (inl h) = b.low e h
    low_more e (inr q) = rw q (omega arith)

    all_more : (e : ℕ) → e < 96 → or_new S n e → 0 < K e → R e * l.count ≡ l.room * K e → bit_of l.own l.links e ≡ 1
    all_more e h (inl k) p r = b.all e h k p r
    all_more e h (inr q) p r = absurd (omega (arith, rw q at r))

    best_more : SmallestAmong (or_new S n) R K l
    best_more = record { low = low_more; from = b.from; ok = b.ok; all = all_more }

-- one link more
pub best_turn : (S : ℕ → Type 0) (R K : ℕ → ℕ) (l : Smallest) → SmallestAmong S R K l → (n : ℕ) → n < 96 → (own link : ℕ) → Only own link n
    → SmallestAmong (or_new S n) R K (smaller_of l (R n) (K n) own link)
unfolding smaller_of
best_turn S R K l b n hn own link one = empty (eqb (K n) 0) refl
  where
    equal : (t : Bool) → eqb (R n * l.count) (l.room * K n) ≡ t → 0 < K n → l.room * K n ≤ R n * l.count
        → SmallestAmong (or_new S n) R K (cond t (both_of l own link) l)
    equal true q p h = best_same S R K l b n hn own link one p (eqb-true (R n * l.count) (l.room * K n) q)
    equal false q p h = best_more S R K l b n hn own link one p (above (order (R n * l.count) (l.room * K n)))
      where
        above : (R n * l.count ≤ l.room * K n) ⊎ (l.room * K n < R n * l.count) → l.room * K n < R n * l.count
        above (inl k) = absurd (eqb-false (R n * l.count) (l.room * K n) q (omega arith))
        above (inr k) = k

    less : (t : Bool) → ltb (R n * l.count) (l.room * K n) ≡ t → 0 < K n
        → SmallestAmong (or_new S n) R K
        (cond t (record { room = R n; count = K n; own = own; links = link })
        (cond (eqb (R n * l.count) (l.room * K n)) (both_of l own link) l))
    less true q p = best_less S R K l b n hn own link one p (ltb-true (R n * l.count) (l.room * K n) q)
    less false q p = equal (eqb (R n * l.count) (l.room * K n)) refl p (ltb-false (R n * l.count) (l.room * K n) q)

    some_at : eqb (K n) 0 ≡ false → 0 < K n
    some_at q = go (order (K n) 0)
      where
        go : (K n ≤ 0) ⊎ (0 < K n) → 0 < K n
        go (inl z) = absurd (eqb-false (K n) 0 q (omega arith))
        go (inr p) = p

    empty : (t : Bool) → eqb (K n) 0 ≡ t
        → SmallestAmong (or_new S n) R K
        (cond t l
        (cond (ltb (R n * l.count) (l.room * K n)) (record { room = R n; count = K n; own = own; links = link })
        (cond (eqb (R n * l.count) (l.room * K n)) (both_of l own link) l)))
    empty true q = best_sub (λ e. S e ⊎ (K e ≡ 0)) (or_new S n) R K l (λ e. seen e) (best_dead S R K l b)
      where
        seen : (e : ℕ) → or_new S n e → S e ⊎ (K e ≡ 0)
        seen e (inl h) = inl h
        seen e (inr k) = inr (ap K k ∙ eqb-true (K n) 0 q)
    empty false q = less (ltb (R n * l.count) (l.room * K n)) refl (some_at q)

-- the same as the code finds it, by a numerator and a denominator
module _ (l : Smallest) (room count own link num den : ℕ) (n : num ≡ room) (k : den ≡ count) (some : count ≡ 0 → ⊥) where
  pub smaller_less : num * l.count < l.room * den → record { room = num; count = den; own = own; links = link } ≡ smaller_of l room count own link
  unfolding smaller_of
  smaller_less t =
      let u : room * l.count < l.room * count = rw (n, k) at t in
      rw (n, k, ne_eqb count 0 some, lt-ltb (room * l.count) (l.room * count) u) refl

  pub smaller_same : l.room * den ≤ num * l.count → num * l.count ≡ l.room * den
      → both_of l own link ≡ smaller_of l room count own link
  unfolding smaller_of
  smaller_same t q =
      let u : l.room * count ≤ room * l.count = rw (n, k) at t in
      let v : room * l.count ≡ l.room * count = rw (n, k) at q in
      rw (ne_eqb count 0 some, le-ltb (room * l.count) (l.room * count) u, eq-eqb (room * l.count) (l.room * count) v) refl

  pub smaller_more : l.room * den ≤ num * l.count → (num * l.count ≡ l.room * den → ⊥) → l ≡ smaller_of l room count own link
  unfolding smaller_of
  smaller_more t q =
      let u : l.room * count ≤ room * l.count = rw (n, k) at t in
      let v : room * l.count ≡ l.room * count → ⊥ = rw (n, k) at q in
      rw (ne_eqb count 0 some, le-ltb (room * l.count) (l.room * count) u, ne_eqb (room * l.count) (l.room * count) v) refl

-- its numbers stay small
pub smaller_fits : (l : Smallest) (room count own link : ℕ) → SmallestFits l → room ≤ parts_limit → count ≤ 32 → own < 2 ^ 32 → link < 2 ^ 64
    → SmallestFits (smaller_of l room count own link)
unfolding smaller_of
smaller_fits l room count own link f h k m o =
    go (eqb count 0) (ltb (room * l.count) (l.room * count)) (eqb (room * l.count) (l.room * count))
  where
    go : (x y z : Bool)
        → SmallestFits (cond x l (cond y (record { room = room; count = count; own = own; links = link }) (cond z (both_of l own link) l)))
    go true y z = f
    go false true z = record { room = h; count = k; own = omega arith; links = omega arith }
    go false false true =
        record {
          room = f.room;
          count = f.count;
          own = omega (arith, or_lt 32 l.own own (omega (arith, f.own)) m);
          links = omega (arith, or_lt 64 l.links link (omega (arith, f.links)) o);
        }
    go false false false = f
