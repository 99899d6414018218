-- The words of the sessions that cross each link: one byte of a path more, and one session more.
-- Assumes nothing.
use mathlib.Core.Bool.{Bool, ◌||◌, false, true, cond}
use mathlib.Core.List.{List}
use mathlib.Core.Path.{◌≡◌, refl, sym, ap, ◌∙◌, subst}
use Prim.Native.Nat.{ℕ, ◌+◌, ◌-◌, ◌*◌, ◌<◌, ◌≤◌}
use native.Mathlib.Decide.{ℕ_discrete}
use native.Mathlib.Omega.{arith}
use borrow.Author.Tests.{eq-eqb, ne_eqb}
use lib.Dec.{eqb}
use lib.ListN.{get_or, get_or-replicate, length, length-set, replicate, set}
use lib.Seq.{get_or-set_other, get_or-set_same}
use Rattle.sessions.specs.Set.{cut, has, put}
use Rattle.sessions.proofs.Members.{has_cut_other, has_cut_same, has_put_other, has_put_same, has_zero, put_lt, put_put}
use Rattle.fairness.specs.Figure1.{any}
use Rattle.fairness.specs.Sum.{part}
use Rattle.fairness.proofs.Anys.{any_next}
use Rattle.fairness.proofs.Parts.{part_zero}
use Rattle.filling.specs.Crossings.{Beside, Crossing, Joins}
use Rattle.filling.specs.Lines.{crosses_of}
use Rattle.filling.specs.SmallestShare.{Busy}
use Rattle.filling.specs.declared.Links.{Links}

-- THE PATH OF ONE SESSION ---------------------------------------------------------------------------------------------

-- one of the first h bytes of the path of s is e
abbrev pub some_hop : List ℕ → ℕ → ℕ → ℕ → Bool
some_hop path s h e = any h (λ i. eqb (get_or path (s * 8 + i) 0) e)

-- nobody comes to a byte that is no link
pub joins_skip : (e s : ℕ) (k : Links) → length k.at ≡ 64 → 64 ≤ e → Joins (eqb e) s k k
joins_skip e s k long h =
    record { long = long; word = λ j l. rw (ne_eqb e j (λ q. omega arith)) refl; busy = λ b. b; beside = (refl, refl, refl) }

-- session s comes to a byte that is a link
pub joins_one : (e s : ℕ) (k : Links) (w busy : ℕ) → length k.at ≡ 64 → e < 64 → w ≡ put s (get_or k.at e 0) → busy ≡ put e k.busy
    → Joins (eqb e) s k (record k { busy = busy; at = set k.at e w })
joins_one e s k w busy long low f g =
    record {
      long = length-set k.at e w ∙ long;
      word = λ j l. word j (ℕ_discrete e j);
      busy = λ o j l z. busy_at o j l z (ℕ_discrete e j);
      beside = (refl, refl, refl);
    }
  where
    word : (j : ℕ) → Dec (e ≡ j) → get_or (set k.at e w) j 0 ≡ cond (eqb e j) (put s (get_or k.at j 0)) (get_or k.at j 0)
    word j (yes x) =
        rw (eq-eqb e j x)
        (ap (λ (y : ℕ). get_or (set k.at e w) y 0) (sym x) ∙ get_or-set_same k.at e w 0 (omega (arith, long)) ∙ f
        ∙ ap (λ (y : ℕ). put s (get_or k.at y 0)) x)
    word j (no n) = rw (ne_eqb e j n) (get_or-set_other k.at e j w 0 (λ x. n (sym x)))

    busy_at : Busy k.busy k.at → (j : ℕ) → j < 64 → has j busy ≡ 0 → Dec (e ≡ j) → get_or (set k.at e w) j 0 ≡ 0
    busy_at o j l z (yes x) = absurd (omega (arith, z, ap (has j) g, ap (λ (y : ℕ). has j (put y k.busy)) x, has_put_same j k.busy))
    busy_at o j l z (no n) =
        get_or-set_other k.at e j w 0 (λ x. n (sym x)) ∙ o j l (sym (has_put_other e j k.busy n) ∙ sym (ap (has j) g) ∙ z)

pub joins_none : (path : List ℕ) (s : ℕ) (k : Links) → length k.at ≡ 64 → Joins (some_hop path s 0) s k k
unfolding any
joins_none path s k long = record { long = long; word = λ e h. refl; busy = λ b. b; beside = (refl, refl, refl) }

pub beside_then : (k m r : Links) → Beside k m → Beside m r → Beside k r
beside_then k m r a b = (b.0 ∙ a.0, b.1 ∙ a.1, b.2 ∙ a.2)

put_twice : (t u : Bool) (s w : ℕ) → cond t (put s (cond u (put s w) w)) (cond u (put s w) w) ≡ cond (t || u) (put s w) w
put_twice true true s w = put_put s w
put_twice true false s w = refl
put_twice false u s w = refl

-- one byte of the path more
pub joins_next : (path : List ℕ) (s h : ℕ) (k m r : Links) (e : ℕ) → e ≡ get_or path (s * 8 + h) 0 → Joins (some_hop path s h) s k m → Joins (eqb e) s m r
    → Joins (some_hop path s (h + 1)) s k r
joins_next path s h k m r e q a b =
    record {
      long = b.long;
      word = λ j l.
          b.word j l
          ∙ ap (λ (y : ℕ). cond (eqb e j) (put s y) y) (a.word j l)
          ∙ put_twice (eqb e j) (some_hop path s h j) s (get_or k.at j 0)
          ∙ ap (λ (v : Bool). cond v (put s (get_or k.at j 0)) (get_or k.at j 0))
          (ap (λ (y : ℕ). eqb y j || some_hop path s h j) q ∙ sym (any_next h (λ i. eqb (get_or path (s * 8 + i) 0) j)));
      busy = λ o. b.busy (a.busy o);
      beside = beside_then k m r a.beside b.beside;
    }

pub joins_all : (path : List ℕ) (s h : ℕ) (k r : Links) → h ≡ 8 → Joins (some_hop path s h) s k r → Joins (λ e. crosses_of path e s) s k r
joins_all path s h k r q a = subst (λ (v : ℕ). Joins (some_hop path s v) s k r) q a

-- ALL SESSIONS --------------------------------------------------------------------------------------------------------

-- the sessions that are no longer in the set `left` have their places
pub record Placed (path : List ℕ) (sessions left : ℕ) (now : Links) : Type 0 where
  pub long : length now.at ≡ 64
  pub small : (e : ℕ) → e < 64 → get_or now.at e 0 < 4294967296
  pub word : (e : ℕ) → e < 64 → (s : ℕ) → s < 32 → has s (get_or now.at e 0) ≡ part (crosses_of path e s) (has s sessions - has s left)
  pub busy : Busy now.busy now.at

new_same : (c : Bool) (t a : ℕ) → has t a ≡ part c 0 → has t (cond c (put t a) a) ≡ part c 1
new_same true t a q = has_put_same t a
new_same false t a q = q

new_other : (c : Bool) (s t a : ℕ) → (t ≡ s → ⊥) → has s (cond c (put t a) a) ≡ has s a
new_other true s t a n = has_put_other t s a n
new_other false s t a n = refl

new_small : (c : Bool) (t a : ℕ) → t < 32 → a < 4294967296 → cond c (put t a) a < 4294967296
new_small true t a h k = omega (arith, put_lt 32 t a h (omega arith))
new_small false t a h k = k

pub placed_turn : (path : List ℕ) (sessions left t v : ℕ) (now r : Links) → t < 32 → has t left ≡ 1 → has t sessions ≡ 1 → v ≡ cut t left
    → Joins (λ e. crosses_of path e t) t now r → Placed path sessions left now → Placed path sessions v r
placed_turn path sessions left t v now r ht hl hs q w p =
    record {
      long = w.long;
      small = λ e k.
          subst (λ (x : ℕ). x < 4294967296) (sym (w.word e k)) (new_small (crosses_of path e t) t (get_or now.at e 0) ht (p.small e k));
      word = λ e k s l. ap (has s) (w.word e k) ∙ turn e k s l (ℕ_discrete t s);
      busy = w.busy p.busy;
    }
  where
    turn : (e : ℕ) → e < 64 → (s : ℕ) → s < 32 → Dec (t ≡ s)
        → has s (cond (crosses_of path e t) (put t (get_or now.at e 0)) (get_or now.at e 0)) ≡ part (crosses_of path e s) (has s sessions - has s v)
    turn e k s l (yes x) =
        let z : has t v ≡ 0 = ap (has t) q ∙ has_cut_same t left in
        let old : has t (get_or now.at e 0) ≡ part (crosses_of path e t) 0 = p.word e k t ht ∙ ap (part (crosses_of path e t)) (omega arith) in
        subst
        (λ (y : ℕ).
        has y (cond (crosses_of path e t) (put t (get_or now.at e 0)) (get_or now.at e 0)) ≡ part (crosses_of path e y) (has y sessions - has y v))
        x
        (new_same (crosses_of path e t) t (get_or now.at e 0) old ∙ ap (part (crosses_of path e t)) (omega arith))
    turn e k s l (no n) =
        new_other (crosses_of path e t) s t (get_or now.at e 0) n ∙ p.word e k s l
        ∙ ap (λ (y : ℕ). part (crosses_of path e s) (has s sessions - y)) (sym (has_cut_other t s left n) ∙ sym (ap (has s) q))

pub placed_none : (path : List ℕ) (sessions : ℕ) (now : Links) → now.at ≡ replicate 64 0 → Placed path sessions sessions now
placed_none path sessions now q =
    record {
      long = ap length q;
      small = λ e k. omega (arith, zero_at e k);
      word = λ e k s l.
          let d : has s sessions - has s sessions ≡ 0 = omega arith in
          ap (has s) (zero_at e k) ∙ has_zero s ∙ sym (ap (part (crosses_of path e s)) d ∙ part_zero (crosses_of path e s));
      busy = λ e k z. zero_at e k;
    }
  where
    zero_at : (e : ℕ) → e < 64 → get_or now.at e 0 ≡ 0
    zero_at e k = ap (λ l. get_or l e 0) q ∙ get_or-replicate 64 e 0 0 k

pub placed_all : (path : List ℕ) (sessions left : ℕ) (now : Links) → left ≡ 0 → Placed path sessions left now → Crossing path sessions now
placed_all path sessions left now q p =
    record {
      long = p.long;
      small = p.small;
      word = λ e k s l.
          let z : has s left ≡ 0 = ap (has s) q ∙ has_zero s in
          p.word e k s l ∙ ap (part (crosses_of path e s)) (omega arith);
      busy = p.busy;
    }
