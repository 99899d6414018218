-- A session leaves one link, of a byte of its path: where it is not open nothing changes; where it is, its share and its place in the word and the
-- count go, and a link that it leaves last remembers it.
-- Assumes nothing.
use mathlib.Core.Bool.{Bool, cond, false, true}
use mathlib.Core.List.{List}
use mathlib.Core.Logic.{◌⊎◌, inl, inr}
use mathlib.Core.Path.{◌≡◌, refl, sym, ap, ◌∙◌, subst}
use Prim.Native.Nat.{ℕ, zero, suc, ◌+◌, ◌*◌, ◌/◌, ◌%◌, ◌<◌, ◌≤◌}
use native.Mathlib.Decide.{ℕ_discrete}
use native.Mathlib.Omega.{arith}
use borrow.Author.Tests.{eq-eqb, ne_eqb}
use lib.Count.{ones}
use lib.Dec.{T, eqb, eqb→eq}
use lib.ListN.{get_or, length, length-set, set}
use lib.Seq.{get_or-set_other, get_or-set_same}
use Rattle.sessions.specs.Set.{cut, has}
use Rattle.sessions.proofs.Counts.{ones_cut}
use Rattle.sessions.proofs.Members.{has_cut_other, has_pos}
use Rattle.filling.specs.OneRound.{Leaves, Remembered, Whole}
use Rattle.filling.specs.SmallestShare.{Busy}
use Rattle.filling.specs.declared.Links.{Links}
use Rattle.filling.proofs.Remembering.{remembers_none}

-- who is no member cannot be taken out
pub cut_none : (s w : ℕ) → has s w ≡ 0 → cut s w ≡ w
unfolding has cut
cut_none zero w q = omega arith
cut_none (suc s) w q = ap (λ (v : ℕ). v * 2 + w % 2) (cut_none s (w / 2) q) ∙ omega arith

-- nobody leaves where the session is not open
pub leaves_still : (there : ℕ → Bool) (s share : ℕ) (k : Links) → ((e : ℕ) → e < 64 → T (there e) → has s (get_or k.at e 0) ≡ 0)
    → Leaves there s share k k
leaves_still there s share k n =
    record {
      at = λ e h. go (there e) (get_or k.at e 0) (n e h);
      room = λ e h. refl;
      count = λ e h. refl;
      last = remembers_none (◌≡◌ s) k;
      busy = λ b. b;
      long = λ w. w;
    }
  where
    go : (t : Bool) (w : ℕ) → (T t → has s w ≡ 0) → w ≡ cond t (cut s w) w
    go true w f = sym (cut_none s w (f tt))
    go false w f = refl

-- a byte that is no link
pub leaves_skip : (e s share : ℕ) (k : Links) → 64 ≤ e → Leaves (eqb e) s share k k
leaves_skip e s share k h = leaves_still (eqb e) s share k (λ j l t. absurd (omega (arith, eqb→eq e j t)))

-- a link where the session is not open
pub leaves_out : (e s share : ℕ) (k : Links) → has s (get_or k.at e 0) ≡ 0 → Leaves (eqb e) s share k k
leaves_out e s share k q = leaves_still (eqb e) s share k (λ j l t. ap (λ (y : ℕ). has s (get_or k.at y 0)) (sym (eqb→eq e j t)) ∙ q)

-- a link where it is: the last one there, or not
abbrev Ending : ℕ → ℕ → Links → ℕ → ℕ → List ℕ → Type 0
Ending e s k w busy last =
    ((w ≡ 0) × (busy ≡ cut e k.busy) × (last ≡ set k.last e s)) ⊎ ((0 < w) × (busy ≡ k.busy) × (last ≡ k.last))

module _ (e s share : ℕ) (k : Links) (w x n busy : ℕ) (last : List ℕ) (whole : Whole k)
    (low : e < 64) (s-low : s < 32) (there : has s (get_or k.at e 0) ≡ 1) (w-is : w ≡ cut s (get_or k.at e 0)) (x-is : x + share ≡ get_or k.room e 0)
    (n-is : n + 1 ≡ get_or k.count e 0) (ending : Ending e s k w busy last) where
  abbrev r : Links
  r = record { busy = busy; room = set k.room e x; at = set k.at e w; count = set k.count e n; last = last }

  at_here : get_or r.at e 0 ≡ w
  at_here = get_or-set_same k.at e w 0 (omega (arith, whole.words))

  fewer : ones (get_or k.at e 0) ≡ ones w + 1
  fewer = ones_cut s (get_or k.at e 0) there ∙ ap (λ (v : ℕ). ones v + 1) (sym w-is)

  at_other : (j : ℕ) → (e ≡ j → ⊥) → get_or r.at j 0 ≡ get_or k.at j 0
  at_other j d = get_or-set_other k.at e j w 0 (λ q. d (sym q))

  room_here : get_or r.room e 0 + share * ones (get_or k.at e 0) ≡ get_or k.room e 0 + share * ones (get_or r.at e 0)
  room_here =
      omega (
        arith,
        get_or-set_same k.room e x 0 (omega (arith, whole.rooms)),
        ap (λ (v : ℕ). share * v) fewer,
        ap (λ (v : ℕ). share * ones v) at_here,
        x-is,
      )

  count_here : get_or r.count e 0 + ones (get_or k.at e 0) ≡ get_or k.count e 0 + ones (get_or r.at e 0)
  count_here = omega (arith, get_or-set_same k.count e n 0 (omega (arith, whole.counts)), fewer, ap ones at_here, n-is)

  at : (j : ℕ) → Dec (e ≡ j) → get_or r.at j 0 ≡ cond (eqb e j) (cut s (get_or k.at j 0)) (get_or k.at j 0)
  at j (yes q) =
      rw (eq-eqb e j q) (ap (λ (y : ℕ). get_or r.at y 0) (sym q) ∙ at_here ∙ w-is ∙ ap (λ (y : ℕ). cut s (get_or k.at y 0)) q)
  at j (no d) = rw (ne_eqb e j d) (at_other j d)

  room : (j : ℕ) → Dec (e ≡ j) → get_or r.room j 0 + share * ones (get_or k.at j 0) ≡ get_or k.room j 0 + share * ones (get_or r.at j 0)
  room j (yes q) =
      subst (λ (y : ℕ). get_or r.room y 0 + share * ones (get_or k.at y 0) ≡ get_or k.room y 0 + share * ones (get_or r.at y 0)) q room_here
  room j (no d) =
      omega (arith, get_or-set_other k.room e j x 0 (λ q. d (sym q)), ap (λ (v : ℕ). share * ones v) (at_other j d))

  count : (j : ℕ) → Dec (e ≡ j) → get_or r.count j 0 + ones (get_or k.at j 0) ≡ get_or k.count j 0 + ones (get_or r.at j 0)
  count j (yes q) =
      subst (λ (y : ℕ). get_or r.count y 0 + ones (get_or k.at y 0) ≡ get_or k.count y 0 + ones (get_or r.at y 0)) q count_here
  count j (no d) = omega (arith, get_or-set_other k.count e j n 0 (λ q. d (sym q)), ap ones (at_other j d))

  stays_busy : Busy k.busy k.at → (j : ℕ) → j < 64 → has j busy ≡ 0 → Dec (e ≡ j) → Ending e s k w busy last → get_or r.at j 0 ≡ 0
  stays_busy b j h z (yes q) (inl o) = ap (λ (y : ℕ). get_or r.at y 0) (sym q) ∙ at_here ∙ o.0
  stays_busy b j h z (yes q) (inr o) =
      absurd (omega (arith, b e low (ap (λ (y : ℕ). has y k.busy) q ∙ sym (ap (has j) o.1) ∙ z), has_pos s (get_or k.at e 0) there))
  stays_busy b j h z (no d) (inl o) = at_other j d ∙ b j h (sym (has_cut_other e j k.busy d) ∙ sym (ap (has j) o.1) ∙ z)
  stays_busy b j h z (no d) (inr o) = at_other j d ∙ b j h (sym (ap (has j) o.1) ∙ z)

  -- the link remembers s where nobody is left
  last_here : last ≡ set k.last e s → get_or last e 0 ≡ s
  last_here o = ap (λ (l : List ℕ). get_or l e 0) o ∙ get_or-set_same k.last e s 0 (omega (arith, whole.lasts))

  last_other : last ≡ set k.last e s → (j : ℕ) → (e ≡ j → ⊥) → get_or last j 0 ≡ get_or k.last j 0
  last_other o j d = ap (λ (l : List ℕ). get_or l j 0) o ∙ get_or-set_other k.last e j s 0 (λ q. d (sym q))

  remembered : (j : ℕ) → Dec (e ≡ j) → Ending e s k w busy last
      → Remembered (◌≡◌ s) (get_or k.at j 0) (get_or k.last j 0) (get_or r.at j 0) (get_or last j 0)
  remembered j (yes q) (inl o) =
      let v : get_or last j 0 ≡ s = ap (λ (y : ℕ). get_or last y 0) (sym q) ∙ last_here o.2 in
      inr (sym v, ap (λ (y : ℕ). has y (get_or k.at j 0)) v ∙ ap (λ (y : ℕ). has s (get_or k.at y 0)) (sym q) ∙ there)
  remembered j (yes q) (inr o) =
      inl (
        ap (λ (l : List ℕ). get_or l j 0) o.2,
        λ z. absurd (omega (arith, o.0, at_here, ap (λ (y : ℕ). get_or r.at y 0) q, z)),
      )
  remembered j (no d) (inl o) = inl (last_other o.2 j d, λ z. sym (at_other j d) ∙ z)
  remembered j (no d) (inr o) = inl (ap (λ (l : List ℕ). get_or l j 0) o.2, λ z. sym (at_other j d) ∙ z)

  lasts_long : Ending e s k w busy last → length last ≡ length k.last
  lasts_long (inl o) = ap length o.2 ∙ length-set k.last e s
  lasts_long (inr o) = ap length o.2

  lasts_low : ((i : ℕ) → i < 64 → get_or k.last i 0 < 32) → (j : ℕ) → j < 64 → Dec (e ≡ j) → Ending e s k w busy last → get_or last j 0 < 32
  lasts_low f j h (yes q) (inl o) = omega (arith, ap (λ (y : ℕ). get_or last y 0) q, last_here o.2, s-low)
  lasts_low f j h (no d) (inl o) = omega (arith, last_other o.2 j d, f j h)
  lasts_low f j h d (inr o) = omega (arith, ap (λ (l : List ℕ). get_or l j 0) o.2, f j h)

  pub leaves_one : Leaves (eqb e) s share k r
  leaves_one =
      record {
        at = λ j h. at j (ℕ_discrete e j);
        room = λ j h. room j (ℕ_discrete e j);
        count = λ j h. count j (ℕ_discrete e j);
        last = λ j h. remembered j (ℕ_discrete e j) ending;
        busy = λ b j h z. stays_busy b j h z (ℕ_discrete e j) ending;
        long = λ o.
            record {
              rooms = length-set k.room e x ∙ o.rooms;
              words = length-set k.at e w ∙ o.words;
              counts = length-set k.count e n ∙ o.counts;
              lasts = lasts_long ending ∙ o.lasts;
              low = λ j h. lasts_low o.low j h (ℕ_discrete e j) ending;
            };
      }
