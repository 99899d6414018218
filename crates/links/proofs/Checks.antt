-- One turn, and each end, of the F check.
-- Assumes nothing.
use mathlib.Core.Bool.{true, false, not}
use mathlib.Core.Path.{◌≡◌, ap, sym, ◌∙◌}
use Prim.Native.Nat.{ℕ, suc, ◌+◌, ◌-◌, ◌≤◌, ◌<◌}
use borrow.Author.Tests.{eq-eqb, ne_eqb}
use native.Mathlib.Omega.{arith}
use Rattle.links.specs.declared.Bound.{Bound}
use Rattle.links.specs.declared.Checked.{Checked}
use Rattle.links.specs.declared.Place.{Place}
use Rattle.links.specs.declared.Processed.{Processed}
use Rattle.links.specs.FCheck.{check_of, checked_of, process_of, turn_of}
use Rattle.links.specs.Links.{B, F, R, some_of, those_of, waiting_of, at_least, idle_above}

fuel : (n : ℕ) → n < 32 → 32 - n ≡ suc (32 - (n + 1))
fuel n h = omega arith

-- z are the members of F with a rate of at least B
module _ (p : Place) (n z : ℕ) (b : Bound) (h : n < 32) (e : b ≡ B p) (f : z ≡ those_of (at_least b) p.entries (F p)) where
  found : z ≡ those_of (at_least (B p)) p.entries (F p)
  found = f ∙ ap (λ (x : Bound). those_of (at_least x) p.entries (F p)) e

  -- none is left: the check ends
  pub check_stays : z ≡ 0 → check_of (32 - n) p ≡ p
  unfolding check_of
  check_stays k =
      let t : some_of (at_least (B p)) p.entries (F p) ≡ false = ap not (eq-eqb _ _ (sym found ∙ k)) in
      rw (fuel n h, t)

  -- some are: it takes a turn
  pub check_turns : (z ≡ 0 → ⊥) → (q : Place) → q ≡ turn_of p → check_of (32 - n) p ≡ check_of (32 - (n + 1)) q
  unfolding check_of
  check_turns k q g =
      let t : some_of (at_least (B p)) p.entries (F p) ≡ true = ap not (ne_eqb _ _ (λ x. k (found ∙ x))) in
      rw (fuel n h, t, g)

pub check_ends : (p : Place) (n : ℕ) → 32 ≤ n → check_of (32 - n) p ≡ p
unfolding check_of
check_ends p n h =
    let t : 32 - n ≡ 0 = omega arith in
    rw t

-- the link that is left, with its B
abbrev with_bound : Place → Bound → Checked
with_bound q b = record { place = q; bound = b }

pub checked_is : (p q : Place) (b : Bound) → b ≡ B q → q ≡ check_of 32 p → with_bound q b ≡ checked_of (check_of 32 p)
checked_is p q b e f = ap (with_bound q) e ∙ ap checked_of f

-- the whole of ProcessNewRestricted
abbrev processed : Place → ℕ → Bound → Processed
processed q w b = record { place = q; to = w; bound = b }

abbrev above_in : Checked → ℕ
above_in q = those_of (idle_above q.bound) q.place.entries (R q.place)

pub processed_is : (p q : Place) (b : Bound) (w : ℕ) (r : Place) → with_bound q b ≡ checked_of (check_of 32 p) → w ≡ above_in (with_bound q b) → r ≡ waiting_of q w
    → processed r w b ≡ process_of p
unfolding process_of
processed_is p q b w r e f g =
    ap (λ (x : Place). processed x w b) g
    ∙ (ap (λ (v : ℕ). processed (waiting_of q v) v b) f
    ∙ ap (λ (x : Checked). processed (waiting_of x.place (above_in x)) (above_in x) x.bound) e)
