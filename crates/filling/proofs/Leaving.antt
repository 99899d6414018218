-- Sessions that leave the links of their paths: one session, byte by byte of its path, and all that are chosen.
-- Assumes nothing.
use mathlib.Core.Bool.{Bool, ◌||◌, cond, false, true}
use mathlib.Core.List.{List}
use mathlib.Core.Logic.{◌⊎◌, inl, inr}
use mathlib.Core.Path.{◌≡◌, refl, sym, ap, ◌∙◌, subst}
use Prim.Native.Nat.{ℕ, ◌+◌, ◌*◌, ◌<◌, ◌≤◌}
use native.Mathlib.Decide.{ℕ_discrete}
use native.Mathlib.Nat.{mul-le-mul_left}
use native.Mathlib.Omega.{arith}
use lib.Count.{ones}
use lib.Dec.{T, eqb, eqb→eq, eqb_refl}
use lib.ListN.{get_or}
use Rattle.sessions.specs.Set.{cut, has}
use Rattle.sessions.proofs.Counts.{ones_pos}
use Rattle.sessions.proofs.Members.{cut_le, has_cut_le, has_cut_other, has_cut_same, has_pos, has_zero}
use Rattle.fairness.specs.Figure1.{any}
use Rattle.fairness.proofs.Anys.{any_at, any_next}
use Rattle.filling.specs.Lines.{crosses_of}
use Rattle.filling.specs.OneRound.{Enough, Leavable, Leaves, Remembers, Whole, Without}
use Rattle.filling.specs.SmallestShare.{Busy}
use Rattle.filling.specs.declared.Links.{Links}
use Rattle.filling.proofs.Crossings.{some_hop}
use Rattle.filling.proofs.LeavingALink.{cut_none, leaves_still}
use Rattle.filling.proofs.Remembering.{remembers_more, remembers_none, remembers_then}

-- THE PATH OF ONE SESSION ---------------------------------------------------------------------------------------------

pub leaves_none : (path : List ℕ) (s share : ℕ) (k : Links) → Leaves (some_hop path s 0) s share k k
unfolding any
leaves_none path s share k = leaves_still (some_hop path s 0) s share k (λ e h t. absurd t)

cut_twice : (t u : Bool) (s w : ℕ) → cond t (cut s (cond u (cut s w) w)) (cond u (cut s w) w) ≡ cond (t || u) (cut s w) w
cut_twice true true s w = cut_none s (cut s w) (has_cut_same s w)
cut_twice true false s w = refl
cut_twice false u s w = refl

-- a word without session s, where it leaves
none_comes : (c : Bool) (s t w : ℕ) → has t (cond c (cut s w) w) ≤ has t w
none_comes true s t w = has_cut_le t s w
none_comes false s t w = omega arith

module _ (path : List ℕ) (s share h : ℕ) (k m : Links) (e : ℕ) (e-is : e ≡ get_or path (s * 8 + h) 0) (a : Leaves (some_hop path s h) s share k m) where
  -- one byte of the path more
  pub leaves_next : (r : Links) → Leaves (eqb e) s share m r → Leaves (some_hop path s (h + 1)) s share k r
  leaves_next r b =
      record {
        at = λ j l.
            b.at j l
            ∙ ap (λ (y : ℕ). cond (eqb e j) (cut s y) y) (a.at j l)
            ∙ cut_twice (eqb e j) (some_hop path s h j) s (get_or k.at j 0)
            ∙ ap (λ (v : Bool). cond v (cut s (get_or k.at j 0)) (get_or k.at j 0))
            (ap (λ (y : ℕ). eqb y j || some_hop path s h j) e-is ∙ sym (any_next h (λ i. eqb (get_or path (s * 8 + i) 0) j)));
        room = λ j l. omega (arith, a.room j l, b.room j l);
        count = λ j l. omega (arith, a.count j l, b.count j l);
        last =
            remembers_then (◌≡◌ s) k m r (λ j l t. omega (arith, ap (has t) (a.at j l), none_comes (some_hop path s h j) s t (get_or k.at j 0)))
            a.last b.last;
        busy = λ o. b.busy (a.busy o);
        long = λ o. b.long (a.long o);
      }

  -- a link where the session is still open has what it had
  still_open : (t : Bool) (w v : ℕ) → v ≡ cond t (cut s w) w → has s v ≡ 1 → v ≡ w
  still_open true w v q o = absurd (omega (arith, ap (has s) q, has_cut_same s w))
  still_open false w v q o = q

  pub leavable_next : h < 8 → Leavable (λ j. crosses_of path j s) s share k → Leavable (eqb e) s share m
  leavable_next l f j low t o =
      let x : e ≡ j = eqb→eq e j t in
      let same : get_or m.at j 0 ≡ get_or k.at j 0 = still_open (some_hop path s h j) (get_or k.at j 0) (get_or m.at j 0) (a.at j low) o in
      let c : T (crosses_of path j s) =
      any_at 8 (λ i. eqb (get_or path (s * 8 + i) 0) j) h l (subst (λ (y : ℕ). T (eqb y j)) (sym x ∙ e-is) (eqb_refl j)) in
      let g = f j low c (sym (ap (has s) same) ∙ o) in
      (omega (arith, a.room j low, ap (λ (v : ℕ). share * ones v) same, g.0), omega (arith, a.count j low, ap ones same, g.1))

pub leaves_all : (path : List ℕ) (s share h : ℕ) (k r : Links) → h ≡ 8 → Leaves (some_hop path s h) s share k r
    → Leaves (λ e. crosses_of path e s) s share k r
leaves_all path s share h k r q a = subst (λ (v : ℕ). Leaves (some_hop path s v) s share k r) q a

-- ALL THAT ARE CHOSEN -------------------------------------------------------------------------------------------------

-- the chosen sessions that are no longer in the set `left` have left
pub record Departed (path : List ℕ) (chosen left share : ℕ) (k r : Links) : Type 0 where
  pub stays : (e : ℕ) → e < 64 → (t : ℕ) → (has t left ≡ 1) ⊎ (has t chosen ≡ 0) → has t (get_or r.at e 0) ≡ has t (get_or k.at e 0)
  pub gone : (e : ℕ) → e < 64 → (t : ℕ) → t < 32 → has t chosen ≡ 1 → has t left ≡ 0 → T (crosses_of path e t) → has t (get_or r.at e 0) ≡ 0
  pub fewer : (e : ℕ) → e < 64 → (t : ℕ) → has t (get_or r.at e 0) ≤ has t (get_or k.at e 0)
  pub small : (e : ℕ) → e < 64 → get_or r.at e 0 ≤ get_or k.at e 0
  pub room : (e : ℕ) → e < 64 → get_or r.room e 0 + share * ones (get_or k.at e 0) ≡ get_or k.room e 0 + share * ones (get_or r.at e 0)
  pub count : (e : ℕ) → e < 64 → get_or r.count e 0 + ones (get_or k.at e 0) ≡ get_or k.count e 0 + ones (get_or r.at e 0)
  pub last : Remembers (λ t. has t chosen ≡ 1) k r
  pub busy : Busy k.busy k.at → Busy r.busy r.at
  pub long : Whole k → Whole r

pub departed_none : (path : List ℕ) (chosen share : ℕ) (k : Links) → Departed path chosen chosen share k k
departed_none path chosen share k =
    record {
      stays = λ e h t o. refl;
      gone = λ e h t l p q. absurd (omega arith);
      fewer = λ e h t. omega arith;
      small = λ e h. omega arith;
      room = λ e h. refl;
      count = λ e h. refl;
      last = remembers_none (λ t. has t chosen ≡ 1) k;
      busy = λ b. b;
      long = λ w. w;
    }

-- what session s leaves of a word
other_stays : (c : Bool) (s t w : ℕ) → (s ≡ t → ⊥) → has t (cond c (cut s w) w) ≡ has t w
other_stays true s t w n = has_cut_other s t w n
other_stays false s t w n = refl

it_goes : (c : Bool) (s w : ℕ) → T c → has s (cond c (cut s w) w) ≡ 0
it_goes true s w t = has_cut_same s w
it_goes false s w t = absurd t

no_larger : (c : Bool) (s w : ℕ) → cond c (cut s w) w ≤ w
no_larger true s w = cut_le s w
no_larger false s w = omega arith

module _ (path : List ℕ) (chosen left share : ℕ) (k now : Links) (d : Departed path chosen left share k now) (s : ℕ) (there : has s left ≡ 1) where
  -- it has a share left at each link of its path
  pub leavable_turn : Enough share k → Leavable (λ e. crosses_of path e s) s share now
  leavable_turn f e h c o =
      let p = ones_pos s (get_or now.at e 0) o in
      let q : 0 < get_or k.at e 0 = has_pos s (get_or k.at e 0) (sym (d.stays e h s (inl there)) ∙ o) in (
        omega (arith, d.room e h, f.room e h q, mul-le-mul_left {m = 1} {n = ones (get_or now.at e 0)} share p),
        omega (arith, d.count e h, f.count e h, p),
      )

  -- one session more
  pub departed_turn : (v : ℕ) (r : Links) → has s chosen ≡ 1 → v ≡ cut s left → Leaves (λ e. crosses_of path e s) s share now r
      → Departed path chosen v share k r
  departed_turn v r mine q b =
      record {
        stays = λ e h t o. ap (has t) (b.at e h) ∙ stays e h t o (ℕ_discrete s t);
        gone = λ e h t l p z c. ap (has t) (b.at e h) ∙ gone e h t l p z c (ℕ_discrete s t);
        fewer = λ e h t.
            omega (arith, ap (has t) (b.at e h), none_comes (crosses_of path e s) s t (get_or now.at e 0), d.fewer e h t);
        small = λ e h. omega (arith, b.at e h, no_larger (crosses_of path e s) s (get_or now.at e 0), d.small e h);
        room = λ e h. omega (arith, d.room e h, b.room e h);
        count = λ e h. omega (arith, d.count e h, b.count e h);
        last =
            remembers_then (λ t. has t chosen ≡ 1) k now r d.fewer d.last
            (remembers_more (◌≡◌ s) (λ t. has t chosen ≡ 1) (λ t e. subst (λ (y : ℕ). has y chosen ≡ 1) e mine) now r b.last);
        busy = λ o. b.busy (d.busy o);
        long = λ o. b.long (d.long o);
      }
    where
      was : (t : ℕ) → (s ≡ t → ⊥) → has t v ≡ has t left
      was t n = ap (has t) q ∙ has_cut_other s t left n

      old : (t : ℕ) → (s ≡ t → ⊥) → (has t v ≡ 1) ⊎ (has t chosen ≡ 0) → (has t left ≡ 1) ⊎ (has t chosen ≡ 0)
      old t n (inl o) = inl (sym (was t n) ∙ o)
      old t n (inr o) = inr o

      stays : (e : ℕ) → e < 64 → (t : ℕ) → (has t v ≡ 1) ⊎ (has t chosen ≡ 0) → Dec (s ≡ t)
          → has t (cond (crosses_of path e s) (cut s (get_or now.at e 0)) (get_or now.at e 0)) ≡ has t (get_or k.at e 0)
      stays e h t o (no n) = other_stays (crosses_of path e s) s t (get_or now.at e 0) n ∙ d.stays e h t (old t n o)
      stays e h t (inl o) (yes x) =
          absurd (omega (arith, o, ap (has t) q, ap (λ (y : ℕ). has t (cut y left)) x, has_cut_same t left))
      stays e h t (inr o) (yes x) = absurd (omega (arith, o, ap (λ (y : ℕ). has y chosen) x, mine))

      gone : (e : ℕ) → e < 64 → (t : ℕ) → t < 32 → has t chosen ≡ 1 → has t v ≡ 0 → T (crosses_of path e t) → Dec (s ≡ t)
          → has t (cond (crosses_of path e s) (cut s (get_or now.at e 0)) (get_or now.at e 0)) ≡ 0
      gone e h t l p z c (yes x) =
          subst (λ (y : ℕ). has y (cond (crosses_of path e s) (cut s (get_or now.at e 0)) (get_or now.at e 0)) ≡ 0) x
          (it_goes (crosses_of path e s) s (get_or now.at e 0) (subst (λ (y : ℕ). T (crosses_of path e y)) (sym x) c))
      gone e h t l p z c (no n) =
          other_stays (crosses_of path e s) s t (get_or now.at e 0) n ∙ d.gone e h t l p (sym (was t n) ∙ z) c

pub departed_all : (path : List ℕ) (chosen left share : ℕ) (k r : Links) → left ≡ 0 → Departed path chosen left share k r → Without path chosen share k r
departed_all path chosen left share k r z d =
    record {
      stays = λ e h t o. d.stays e h t (inr o);
      gone = λ e h t l p. d.gone e h t l p (ap (has t) z ∙ has_zero t);
      fewer = d.fewer;
      small = d.small;
      room = d.room;
      count = d.count;
      last = d.last;
      busy = d.busy;
      long = d.long;
    }
