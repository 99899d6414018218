-- Two tables that differ in their packets alone: what is read of links, sources and paths is the same, and the writers of packets leave it so.
-- Assumes nothing.
use mathlib.Core.List.{List}
use mathlib.Core.Logic.{inl}
use mathlib.Core.Path.{◌≡◌, refl, ◌∙◌}
use Prim.Native.Nat.{ℕ, ◌<◌}
use native.Mathlib.Omega.{arith}
use lib.ListN.{length}
use Rattle.table.specs.Words.{appended, hops_of, path_of, place_of, removed, source_of, stop_of}
use Rattle.table.proofs.Places.{appended_off, hops_agree, length_appended, length_removed, link_agree, path_agree, removed_off, row_agree, source_agree, stop_agree}
use Rattle.table.proofs.Store.{Agree}
use Rattle.tasks.specs.declared.Packet.{Packet}

-- two tables that differ in their packets alone
pub record SameLines (w v : List ℕ) : Type 0 where
  pub long : length v ≡ length w
  pub place : (e : ℕ) → e < 64 → place_of v e ≡ place_of w e
  pub source : (s : ℕ) → s < 32 → source_of v s ≡ source_of w s
  pub hops : (s : ℕ) → s < 32 → hops_of v s ≡ hops_of w s
  pub stop : (s i : ℕ) → s < 32 → i < 8 → stop_of v s i ≡ stop_of w s i
  pub path : (s : ℕ) → s < 32 → path_of v s ≡ path_of w s

pub lines_refl : (w : List ℕ) → SameLines w w
lines_refl w = record {
  long = refl;
  place = λ e l. refl;
  source = λ s l. refl;
  hops = λ s l. refl;
  stop = λ s i l m. refl;
  path = λ s l. refl;
}

pub lines_trans : {w v u : List ℕ} → SameLines w v → SameLines v u → SameLines w u
lines_trans a b = record {
  long = b.long ∙ a.long;
  place = λ e l. b.place e l ∙ a.place e l;
  source = λ s l. b.source s l ∙ a.source s l;
  hops = λ s l. b.hops s l ∙ a.hops s l;
  stop = λ s i l m. b.stop s i l m ∙ a.stop s i l m;
  path = λ s l. b.path s l ∙ a.path s l;
}

-- the words before those of the packets are all that the lines go by
pub lines_agree : (w v : List ℕ) → length v ≡ length w → Agree v w 0 7104 → SameLines w v
lines_agree w v n h = record {
  long = n;
  place = λ e l.
      rw (
        link_agree v w e (λ i a b. h i (omega arith) (omega arith)),
        row_agree v w e (λ i a b. h i (omega arith) (omega arith)),
      );
  source = λ s l. source_agree v w s (λ i a b. h i (omega arith) (omega arith));
  hops = λ s l. hops_agree v w s (λ i a b. h i (omega arith) (omega arith));
  stop = λ s i l m. stop_agree v w s i (λ j a b. h j (omega arith) (omega arith)) m;
  path = λ s l. path_agree v w s (λ i a b. h i (omega arith) (omega arith));
}

pub lines_appended : (w : List ℕ) (p : Packet) → length w ≡ 9153 → SameLines w (appended w p)
lines_appended w p n = lines_agree w (appended w p) (length_appended w p) (λ i a b. appended_off w p i (inl (omega arith)))

pub lines_removed : (w : List ℕ) (i : ℕ) → length w ≡ 9153 → SameLines w (removed w i)
lines_removed w i n = lines_agree w (removed w i) (length_removed w i) (λ j a b. removed_off w i j (inl (omega arith)))
