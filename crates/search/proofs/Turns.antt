-- The turns and the ends of the loops of the search.
-- Assumes nothing.
use mathlib.Core.Bool.{false}
use mathlib.Core.Logic.{◌⊎◌, inl, inr}
use Rattle.std.specs.Prelude.{None}
use mathlib.Core.List.{List}
use mathlib.Core.Path.{◌≡◌, sym, ap, ◌∙◌, subst}
use Prim.Native.Nat.{ℕ, ◌+◌, ◌-◌, ◌*◌, ◌<◌, ◌≤◌, ◌^◌, min}
use native.Mathlib.Decide.{dec_lt, ℕ_discrete}
use native.Mathlib.Omega.{arith}
use borrow.Author.Tests.{eqb-false}
use lib.Bits.{and_le_l, bit_and}
use lib.Count.{count_trailing_zeros}
use lib.ListN.{get_or}
use lib.Pow.{pow-lt, pow_pos}
use Rattle.sessions.specs.Set.{cut, has, has_of, put}
use Rattle.sessions.proofs.Members.{cut_lt, has_cut_le, has_cut_other, has_high, has_lt, has_or_not, has_pos, has_put_other, has_put_same, has_zero, put_lt}
use Rattle.sessions.proofs.Operations.{has_without}
use Rattle.sessions.proofs.Walks.{next_below, next_first}
use Rattle.sessions.proofs.Remaining.{Remains, remains_member}
use Rattle.search.specs.Crossing.{AllAt, FirstAt, IsFirst, Meets, after_of, byte_at}

-- THE PATH OF ONE SESSION ---------------------------------------------------------------------------------------------

-- none of the first h bytes of the path of s is one of the links
abbrev pub NoneOf : List ℕ → ℕ → ℕ → ℕ → Type 0
NoneOf path links s h = (i : ℕ) → i < h → has (byte_at path s i) links ≡ 0

pub none_of_more : (path : List ℕ) (links s h e : ℕ) → e ≡ byte_at path s h → has_of e links ≡ false → NoneOf path links s h
    → NoneOf path links s (h + 1)
none_of_more path links s h e q n w i l = go (dec_lt i h)
  where
    none : (has e links ≡ 0) ⊎ (has e links ≡ 1) → has e links ≡ 0
    none (inl z) = z
    none (inr o) = absurd (eqb-false _ _ n o)

    go : Dec (i < h) → has (byte_at path s i) links ≡ 0
    go (yes k) = w i k
    go (no k) =
        let same : i ≡ h = omega arith in
        ap (λ (v : ℕ). has (byte_at path s v) links) same ∙ subst (λ (v : ℕ). has v links ≡ 0) q (none (has_or_not _ _))

-- none of all eight
pub none_of_all : (path : List ℕ) (links s h : ℕ) → 8 ≤ h → NoneOf path links s h → Meets path links s → ⊥
none_of_all path links s h k w (i, l, m) = omega (arith, w i (omega arith), m)

-- ALL SESSIONS UP TO THE FIRST HIT ------------------------------------------------------------------------------------

-- the sessions of left that are no longer in rest cross none of the links
abbrev pub Tried : List ℕ → ℕ → ℕ → ℕ → Type 0
Tried path links left rest = (s : ℕ) → s < 32 → has s left ≡ 1 → has s rest ≡ 0 → Meets path links s → ⊥

pub tried_more : (path : List ℕ) (links left rest t v : ℕ) → v ≡ cut t rest → (Meets path links t → ⊥) → Tried path links left rest → Tried path links left v
tried_more path links left rest t v q n w s l p z m = go (ℕ_discrete t s)
  where
    go : Dec (t ≡ s) → ⊥
    go (yes e) = n (subst (λ (y : ℕ). Meets path links y) (sym e) m)
    go (no e) = w s l p (sym (has_cut_other t s rest e) ∙ sym (ap (has s) q) ∙ z) m

pub first_none : (path : List ℕ) (links left rest : ℕ) → rest ≡ 0 → Tried path links left rest → FirstAt path left links None
first_none path links left rest z w s h p = w s h p (ap (has s) z ∙ has_zero s)

pub first_hit : (path : List ℕ) (links left rest t : ℕ) → Remains 32 left rest → has t rest ≡ 1 → t ≡ count_trailing_zeros 32 rest
    → Meets path links t → Tried path links left rest → IsFirst path left links t
first_hit path links left rest t r q e m w =
    let p = has_pos t rest q in
    let small = next_below 32 rest t p r.word e in
    record {
      below = small;
      member = remains_member 32 left rest r t q;
      hit = m;
      none_before = λ s b o. w s (omega arith) o (next_first 32 rest t p r.word e s b);
    }

-- THE SESSIONS AFTER THE HIT ------------------------------------------------------------------------------------------

-- the s lowest digits have nobody from s on
none_high : (s t : ℕ) → s ≤ t → has t (2 ^ s - 1) ≡ 0
none_high s t h = has_high s t (2 ^ s - 1) (omega (arith, pow_pos s)) h

rest_has : (s t left : ℕ) → s < 32 → t < 32 → has t (bit_and left ((2 ^ 32 - 1) - (2 ^ s - 1))) ≡ min (has t left) (1 - has t (2 ^ s - 1))
rest_has s t left h k = has_without 32 t left (2 ^ s - 1) k (omega (arith, pow-lt {i = s} {j = 32} h))

after_le : (s t left : ℕ) → s < 32 → t < 32 → has t (after_of left s) ≤ has t left
after_le s t left h k = omega (arith, has_cut_le t s (bit_and left ((2 ^ 32 - 1) - (2 ^ s - 1))), rest_has s t left h k)

-- those from s on stay, but for s
after_has : (s t left : ℕ) → s < 32 → t < 32 → s < t → has t (after_of left s) ≡ has t left
after_has s t left h k l =
    has_cut_other s t (bit_and left ((2 ^ 32 - 1) - (2 ^ s - 1))) (λ q. omega arith)
    ∙ omega (arith, rest_has s t left h k, none_high s t (omega arith), has_lt t left)

pub after_lt : (s left : ℕ) → s < 32 → has s left ≡ 1 → after_of left s < left
after_lt s left h q =
    let r : has s (bit_and left ((2 ^ 32 - 1) - (2 ^ s - 1))) ≡ 1 = omega (arith, rest_has s s left h h, none_high s s (omega arith)) in
    omega (arith, cut_lt s (bit_and left ((2 ^ 32 - 1) - (2 ^ s - 1))) r, and_le_l left ((2 ^ 32 - 1) - (2 ^ s - 1)))

-- ALL SESSIONS THAT CROSS ---------------------------------------------------------------------------------------------

-- the sessions found so far, and those left to ask for
pub record Found (path : List ℕ) (opens links found left : ℕ) : Type 0 where
  pub left_lt : left < 4294967296
  pub small : found < 4294967296
  pub sub : (s : ℕ) → s < 32 → has s left ≤ has s opens
  pub only : (s : ℕ) → s < 32 → has s found ≡ 1 → (has s opens ≡ 1) × Meets path links s
  pub every : (s : ℕ) → s < 32 → has s opens ≡ 1 → has s left ≡ 0 → Meets path links s → has s found ≡ 1

pub found_none : (path : List ℕ) (opens links : ℕ) → opens < 4294967296 → Found path opens links 0 opens
found_none path opens links h =
    record {
      left_lt = h;
      small = omega arith;
      sub = λ s l. omega arith;
      only = λ s l q. absurd (omega (arith, has_zero s));
      every = λ s l p q. absurd (omega arith);
    }

pub found_more : (path : List ℕ) (opens links found left t c v : ℕ) → IsFirst path left links t → c ≡ put t found → v ≡ after_of left t
    → Found path opens links found left → Found path opens links c v
found_more path opens links found left t c v f q r w =
    record {
      left_lt = omega (arith, r, after_lt t left ht f.member, w.left_lt);
      small = omega (arith, put_lt 32 t found ht (omega (arith, w.small)));
      sub = λ s l. omega (arith, ap (has s) r, after_le t s left ht l, w.sub s l);
      only = λ s l p. only s l p (ℕ_discrete t s);
      every = λ s l p z m. every s l p z m (ℕ_discrete t s);
    }
  where
    ht : t < 32
    ht = f.below

    only : (s : ℕ) → s < 32 → has s c ≡ 1 → Dec (t ≡ s) → (has s opens ≡ 1) × Meets path links s
    only s l p (yes e) =
        subst (λ (y : ℕ). (has y opens ≡ 1) × Meets path links y) e (omega (arith, w.sub t ht, has_lt t opens, f.member), f.hit)
    only s l p (no n) = w.only s l (sym (has_put_other t s found n) ∙ sym (ap (has s) q) ∙ p)

    -- who is before t and was left crosses none of the links
    asked : (s : ℕ) → s < 32 → has s v ≡ 0 → Meets path links s → (t ≡ s → ⊥) → (has s left ≡ 0) ⊎ (has s left ≡ 1) → has s left ≡ 0
    asked s l z m n (inl o) = o
    asked s l z m n (inr o) = go (dec_lt s t)
      where
        go : Dec (s < t) → has s left ≡ 0
        go (yes k) = absurd (f.none_before s k o m)
        go (no k) = absurd (omega (arith, o, z, ap (has s) r, after_has t s left ht l (omega arith)))

    every : (s : ℕ) → s < 32 → has s opens ≡ 1 → has s v ≡ 0 → Meets path links s → Dec (t ≡ s) → has s c ≡ 1
    every s l p z m (yes e) = ap (has s) q ∙ subst (λ (y : ℕ). has y (put t found) ≡ 1) e (has_put_same t found)
    every s l p z m (no n) = ap (has s) q ∙ has_put_other t s found n ∙ w.every s l p (asked s l z m n (has_or_not s left)) m

-- nobody left crosses one of the links
pub found_end : (path : List ℕ) (opens links found left : ℕ) → FirstAt path left links None → Found path opens links found left
    → AllAt path opens links found
found_end path opens links found left f w =
    record { small = w.small; only = w.only; every = λ s l p m. go s l p m (has_or_not s left) }
  where
    go : (s : ℕ) → s < 32 → has s opens ≡ 1 → Meets path links s → (has s left ≡ 0) ⊎ (has s left ≡ 1) → has s found ≡ 1
    go s l p m (inl z) = w.every s l p z m
    go s l p m (inr z) = absurd (f s l z m)

-- nobody crosses a link where there is none
pub found_nowhere : (path : List ℕ) (opens links : ℕ) → links ≡ 0 → AllAt path opens links 0
found_nowhere path opens links q =
    record {
      small = omega arith;
      only = λ s l o. absurd (omega (arith, o, has_zero s));
      every = λ s l p m.
          let e : ℕ = get_or path (s * 8 + m.0) 0 in
          absurd (omega (arith, m.2, ap (has e) q, has_zero e));
    }
