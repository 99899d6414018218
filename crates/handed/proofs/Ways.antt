-- The tests of one packet's hop and way, of a session in both sets, and of a total, as facts.
-- Assumes nothing.
use Rattle.fractions.specs.declared.Rate.{Rate}
use Rattle.std.specs.Prelude.{Result, Ok, Err}
use mathlib.Core.Bool.{Bool, cond, false, not, true, ◌&&◌}
use mathlib.Core.Path.{ap, ap₂, refl, sym, ◌≡◌}
use Prim.Native.Nat.{ℕ, ◌+◌, ◌<◌, ◌≤◌}
use borrow.Author.Tests.{le-leb, leb-true, lt-ltb, ltb-true}
use lib.Dec.{leb, ltb}
use Rattle.fractions.proofs.Cases.{and_both, not_true}
use Rattle.links.specs.declared.NoTotal.{NoTotal}
use Rattle.links.specs.declared.NoTotal.TheVariants as no_total
use Rattle.records.proofs.Somes.{clash}
use Rattle.tasks.specs.Packets.{same_way}
use Rattle.links.specs.Links.{is_past_c}
use Rattle.handed.specs.Handed.{hop_on_path}

pub hop_down : (n h : ℕ) (d : Bool) → hop_on_path n d h ≡ true → d ≡ true → (0 < h) × (h ≤ n + 1)
hop_down n h true e q = let b = and_both (ltb 0 h) (leb h (n + 1)) e in (ltb-true 0 h b.0, leb-true h (n + 1) b.1)
hop_down n h false e q = absurd (clash false q refl)

pub hop_up : (n h : ℕ) (d : Bool) → hop_on_path n d h ≡ true → d ≡ false → h ≤ n
hop_up n h true e q = absurd (clash true refl q)
hop_up n h false e q = leb-true h n e

pub hop_on : (n h : ℕ) (d : Bool) → (d ≡ true → (0 < h) × (h ≤ n + 1)) → (d ≡ false → h ≤ n) → hop_on_path n d h ≡ true
hop_on n h true f g = ap₂ ◌&&◌ (lt-ltb 0 h (f refl).0) (le-leb h (n + 1) (f refl).1)
hop_on n h false f g = le-leb h n (g refl)

pub way_same : (d g : Bool) → same_way d g ≡ true → d ≡ g
way_same true g e = sym e
way_same false g e = sym (not_true g e)

pub same_way_lem : (d g : Bool) → d ≡ g → same_way d g ≡ true
same_way_lem true g e = sym e
same_way_lem false g e = ap not (sym e)

pub not_both : (a b : Bool) → not (a && b) ≡ true → a ≡ true → b ≡ false
not_both true b e h = not_true b e
not_both false b e h = absurd (clash false h refl)

pub both_not : (a b : Bool) → (a ≡ true → b ≡ false) → not (a && b) ≡ true
both_not true b f = ap not (f refl)
both_not false b f = refl

pub cond_then : (t a b : Bool) → cond t a b ≡ true → t ≡ true → a ≡ true
cond_then true a b e h = e
cond_then false a b e h = absurd (clash false h refl)

pub cond_else : (t a b : Bool) → cond t a b ≡ true → t ≡ false → b ≡ true
cond_else true a b e h = absurd (clash true refl h)
cond_else false a b e h = e

pub within : (y : Result Rate NoTotal) → not (is_past_c y) ≡ true → y ≡ Err no_total.PastC → ⊥
within y e q = clash (is_past_c y) (ap is_past_c q) (not_true (is_past_c y) e)

pub within_test : (y : Result Rate NoTotal) → (y ≡ Err no_total.PastC → ⊥) → not (is_past_c y) ≡ true
within_test (Ok y) f = refl
within_test (Err no_total.TooFine) f = refl
within_test (Err no_total.PastC) f = absurd (f refl)
