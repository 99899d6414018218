-- What a write leaves as it was: other links, other sessions, and every other part of the table.
-- Assumes nothing.
use mathlib.Core.List.{List}
use mathlib.Core.Logic.{◌⊎◌, inl, inr, ⊎_elim}
use mathlib.Core.Path.{◌≡◌, ap, refl}
use Prim.Native.Nat.{ℕ, zero, suc, ◌≤◌, ◌<◌}
use native.Mathlib.Omega.{arith}
use lib.ListN.{length}
use Rattle.fractions.proofs.Cases.{order}
use Rattle.links.specs.declared.Entry.{Entry}
use Rattle.links.specs.declared.Link.{Link}
use Rattle.tasks.specs.declared.Packet.{Packet}
use Rattle.links.specs.declared.Place.{Place}
use Rattle.ends.specs.declared.Source.{Source}
use Rattle.table.specs.Words.{appended, count_of, hops_of, link_of, packets_of, path_of, place_of, put_hops, put_link, put_path, put_place, put_row, put_source, removed, row_of, source_of}
use Rattle.table.proofs.Places.{appended_off, count_agree, hops_agree, link_agree, packets_agree, path_agree, put_hops_off, put_link_off, put_path_off, put_place_off, put_row_off, put_source_off, removed_off, row_agree, source_agree}

-- ANOTHER LINK, ANOTHER SESSION ---------------------------------------------------------------------------------------

sides : (e d : ℕ) → (d ≡ e → ⊥) → (e < d) ⊎ (d < e)
sides zero zero n = absurd (n refl)
sides zero (suc d) n = inl (omega arith)
sides (suc e) zero n = inr (omega arith)
sides (suc e) (suc d) n = ⊎_elim (λ h. inl (omega arith)) (λ h. inr (omega arith)) (sides e d (λ q. n (ap suc q)))

pub link_other : (w : List ℕ) (e : ℕ) (l : Link) (d : ℕ) → (d ≡ e → ⊥) → link_of (put_link w e l) d ≡ link_of w d
link_other w e l d n =
    ⊎_elim
    (λ (o : e < d). link_agree (put_link w e l) w d (λ i a b. put_link_off w e l i (inr (omega arith))))
    (λ (o : d < e). link_agree (put_link w e l) w d (λ i a b. put_link_off w e l i (inl (omega arith))))
    (sides e d n)

pub row_other : (w : List ℕ) (e : ℕ) (es : List Entry) (d : ℕ) → (d ≡ e → ⊥) → length es ≡ 32 → row_of (put_row w e es) d ≡ row_of w d
row_other w e es d n m =
    ⊎_elim
    (λ (o : e < d). row_agree (put_row w e es) w d (λ i a b. put_row_off w e es i m (inr (omega arith))))
    (λ (o : d < e). row_agree (put_row w e es) w d (λ i a b. put_row_off w e es i m (inl (omega arith))))
    (sides e d n)

pub link_other_place : (w : List ℕ) (e : ℕ) (p : Place) (d : ℕ)
    → (d ≡ e → ⊥)
    → d < 64
    → length p.entries ≡ 32
    → link_of (put_place w e p) d ≡ link_of w d
link_other_place w e p d n h m =
    ⊎_elim
    (λ (o : e < d). link_agree (put_place w e p) w d (λ i a b. put_place_off w e p i m (inr (omega arith)) (inl (omega arith))))
    (λ (o : d < e). link_agree (put_place w e p) w d (λ i a b. put_place_off w e p i m (inl (omega arith)) (inl (omega arith))))
    (sides e d n)

pub row_other_place : (w : List ℕ) (e : ℕ) (p : Place) (d : ℕ)
    → (d ≡ e → ⊥)
    → e < 64
    → length p.entries ≡ 32
    → row_of (put_place w e p) d ≡ row_of w d
row_other_place w e p d n h m =
    ⊎_elim
    (λ (o : e < d). row_agree (put_place w e p) w d (λ i a b. put_place_off w e p i m (inr (omega arith)) (inr (omega arith))))
    (λ (o : d < e). row_agree (put_place w e p) w d (λ i a b. put_place_off w e p i m (inr (omega arith)) (inl (omega arith))))
    (sides e d n)

pub place_other : (w : List ℕ) (e : ℕ) (p : Place) (d : ℕ)
    → (d ≡ e → ⊥)
    → e < 64
    → d < 64
    → length p.entries ≡ 32
    → place_of (put_place w e p) d ≡ place_of w d
place_other w e p d n g h m = rw (link_other_place w e p d n h m, row_other_place w e p d n g m)

pub source_other : (w : List ℕ) (q : ℕ) (z : Source) (s : ℕ) → (s ≡ q → ⊥) → source_of (put_source w q z) s ≡ source_of w s
source_other w q z s n =
    ⊎_elim
    (λ (o : q < s). source_agree (put_source w q z) w s (λ i a b. put_source_off w q z i (inr (omega arith))))
    (λ (o : s < q). source_agree (put_source w q z) w s (λ i a b. put_source_off w q z i (inl (omega arith))))
    (sides q s n)

pub hops_other_hops : (w : List ℕ) (q n : ℕ) (s : ℕ) → (s ≡ q → ⊥) → hops_of (put_hops w q n) s ≡ hops_of w s
hops_other_hops w q n s m =
    ⊎_elim
    (λ (o : q < s). hops_agree (put_hops w q n) w s (λ i a b. put_hops_off w q n i (inr (omega arith))))
    (λ (o : s < q). hops_agree (put_hops w q n) w s (λ i a b. put_hops_off w q n i (inl (omega arith))))
    (sides q s m)

pub path_other_hops : (w : List ℕ) (q n : ℕ) (s : ℕ) → (s ≡ q → ⊥) → path_of (put_hops w q n) s ≡ path_of w s
path_other_hops w q n s m =
    ⊎_elim
    (λ (o : q < s). path_agree (put_hops w q n) w s (λ i a b. put_hops_off w q n i (inr (omega arith))))
    (λ (o : s < q). path_agree (put_hops w q n) w s (λ i a b. put_hops_off w q n i (inl (omega arith))))
    (sides q s m)

pub path_other_path : (w : List ℕ) (q : ℕ) (bytes : List ℕ) (at : ℕ) (s : ℕ) → (s ≡ q → ⊥) → path_of (put_path w q bytes at) s ≡ path_of w s
path_other_path w q bytes at s m =
    ⊎_elim
    (λ (o : q < s). path_agree (put_path w q bytes at) w s (λ i a b. put_path_off w q bytes at i (inr (omega arith))))
    (λ (o : s < q). path_agree (put_path w q bytes at) w s (λ i a b. put_path_off w q bytes at i (inl (omega arith))))
    (sides q s m)

-- LINKS, WHEN ANOTHER PART IS WRITTEN ---------------------------------------------------------------------------------

pub link_after_row : (w : List ℕ) (e : ℕ) (es : List Entry) (d : ℕ) → e < 64 → length es ≡ 32 → d < 64 → link_of (put_row w e es) d ≡ link_of w d
link_after_row w e es d y n x = link_agree (put_row w e es) w d (λ i a b. put_row_off w e es i n (inl (omega arith)))

pub link_after_source : (w : List ℕ) (q : ℕ) (z : Source) (d : ℕ) → q < 32 → d < 64 → link_of (put_source w q z) d ≡ link_of w d
link_after_source w q z d y x = link_agree (put_source w q z) w d (λ i a b. put_source_off w q z i (inl (omega arith)))

pub link_after_hops : (w : List ℕ) (q n : ℕ) (d : ℕ) → q < 32 → d < 64 → link_of (put_hops w q n) d ≡ link_of w d
link_after_hops w q n d y x = link_agree (put_hops w q n) w d (λ i a b. put_hops_off w q n i (inl (omega arith)))

pub link_after_path : (w : List ℕ) (q : ℕ) (bytes : List ℕ) (at : ℕ) (d : ℕ) → q < 32 → d < 64 → link_of (put_path w q bytes at) d ≡ link_of w d
link_after_path w q bytes at d y x = link_agree (put_path w q bytes at) w d (λ i a b. put_path_off w q bytes at i (inl (omega arith)))

pub link_after_appended : (w : List ℕ) (p : Packet) (d : ℕ) → d < 64 → link_of (appended w p) d ≡ link_of w d
link_after_appended w p d x = link_agree (appended w p) w d (λ i a b. appended_off w p i (inl (omega arith)))

pub link_after_removed : (w : List ℕ) (k : ℕ) (d : ℕ) → d < 64 → link_of (removed w k) d ≡ link_of w d
link_after_removed w k d x = link_agree (removed w k) w d (λ i a b. removed_off w k i (inl (omega arith)))

-- ENTRIES, WHEN ANOTHER PART IS WRITTEN -------------------------------------------------------------------------------

pub row_after_link : (w : List ℕ) (e : ℕ) (l : Link) (d : ℕ) → e < 64 → d < 64 → row_of (put_link w e l) d ≡ row_of w d
row_after_link w e l d y x = row_agree (put_link w e l) w d (λ i a b. put_link_off w e l i (inr (omega arith)))

pub row_after_source : (w : List ℕ) (q : ℕ) (z : Source) (d : ℕ) → q < 32 → d < 64 → row_of (put_source w q z) d ≡ row_of w d
row_after_source w q z d y x = row_agree (put_source w q z) w d (λ i a b. put_source_off w q z i (inl (omega arith)))

pub row_after_hops : (w : List ℕ) (q n : ℕ) (d : ℕ) → q < 32 → d < 64 → row_of (put_hops w q n) d ≡ row_of w d
row_after_hops w q n d y x = row_agree (put_hops w q n) w d (λ i a b. put_hops_off w q n i (inl (omega arith)))

pub row_after_path : (w : List ℕ) (q : ℕ) (bytes : List ℕ) (at : ℕ) (d : ℕ) → q < 32 → d < 64 → row_of (put_path w q bytes at) d ≡ row_of w d
row_after_path w q bytes at d y x = row_agree (put_path w q bytes at) w d (λ i a b. put_path_off w q bytes at i (inl (omega arith)))

pub row_after_appended : (w : List ℕ) (p : Packet) (d : ℕ) → d < 64 → row_of (appended w p) d ≡ row_of w d
row_after_appended w p d x = row_agree (appended w p) w d (λ i a b. appended_off w p i (inl (omega arith)))

pub row_after_removed : (w : List ℕ) (k : ℕ) (d : ℕ) → d < 64 → row_of (removed w k) d ≡ row_of w d
row_after_removed w k d x = row_agree (removed w k) w d (λ i a b. removed_off w k i (inl (omega arith)))

-- SOURCES, WHEN ANOTHER PART IS WRITTEN -------------------------------------------------------------------------------

pub source_after_link : (w : List ℕ) (e : ℕ) (l : Link) (s : ℕ) → e < 64 → s < 32 → source_of (put_link w e l) s ≡ source_of w s
source_after_link w e l s y x = source_agree (put_link w e l) w s (λ i a b. put_link_off w e l i (inr (omega arith)))

pub source_after_row : (w : List ℕ) (e : ℕ) (es : List Entry) (s : ℕ) → e < 64 → length es ≡ 32 → s < 32 → source_of (put_row w e es) s ≡ source_of w s
source_after_row w e es s y n x = source_agree (put_row w e es) w s (λ i a b. put_row_off w e es i n (inr (omega arith)))

pub source_after_place : (w : List ℕ) (e : ℕ) (p : Place) (s : ℕ) → e < 64 → length p.entries ≡ 32 → s < 32 → source_of (put_place w e p) s ≡ source_of w s
source_after_place w e p s y n x = source_agree (put_place w e p) w s (λ i a b. put_place_off w e p i n (inr (omega arith)) (inr (omega arith)))

pub source_after_hops : (w : List ℕ) (q n : ℕ) (s : ℕ) → q < 32 → s < 32 → source_of (put_hops w q n) s ≡ source_of w s
source_after_hops w q n s y x =
    ⊎_elim
    (λ (o : s ≤ q). source_agree (put_hops w q n) w s (λ i a b. put_hops_off w q n i (inl (omega arith))))
    (λ (o : q < s). source_agree (put_hops w q n) w s (λ i a b. put_hops_off w q n i (inr (omega arith))))
    (order s q)

pub source_after_path : (w : List ℕ) (q : ℕ) (bytes : List ℕ) (at : ℕ) (s : ℕ) → q < 32 → s < 32 → source_of (put_path w q bytes at) s ≡ source_of w s
source_after_path w q bytes at s y x =
    ⊎_elim
    (λ (o : s ≤ q). source_agree (put_path w q bytes at) w s (λ i a b. put_path_off w q bytes at i (inl (omega arith))))
    (λ (o : q < s). source_agree (put_path w q bytes at) w s (λ i a b. put_path_off w q bytes at i (inr (omega arith))))
    (order s q)

pub source_after_appended : (w : List ℕ) (p : Packet) (s : ℕ) → s < 32 → source_of (appended w p) s ≡ source_of w s
source_after_appended w p s x = source_agree (appended w p) w s (λ i a b. appended_off w p i (inl (omega arith)))

pub source_after_removed : (w : List ℕ) (k : ℕ) (s : ℕ) → s < 32 → source_of (removed w k) s ≡ source_of w s
source_after_removed w k s x = source_agree (removed w k) w s (λ i a b. removed_off w k i (inl (omega arith)))

-- PATHS, WHEN ANOTHER PART IS WRITTEN ---------------------------------------------------------------------------------

pub hops_after_link : (w : List ℕ) (e : ℕ) (l : Link) (s : ℕ) → e < 64 → s < 32 → hops_of (put_link w e l) s ≡ hops_of w s
hops_after_link w e l s y x = hops_agree (put_link w e l) w s (λ i a b. put_link_off w e l i (inr (omega arith)))

pub hops_after_row : (w : List ℕ) (e : ℕ) (es : List Entry) (s : ℕ) → e < 64 → length es ≡ 32 → s < 32 → hops_of (put_row w e es) s ≡ hops_of w s
hops_after_row w e es s y n x = hops_agree (put_row w e es) w s (λ i a b. put_row_off w e es i n (inr (omega arith)))

pub hops_after_place : (w : List ℕ) (e : ℕ) (p : Place) (s : ℕ) → e < 64 → length p.entries ≡ 32 → s < 32 → hops_of (put_place w e p) s ≡ hops_of w s
hops_after_place w e p s y n x = hops_agree (put_place w e p) w s (λ i a b. put_place_off w e p i n (inr (omega arith)) (inr (omega arith)))

pub hops_after_source : (w : List ℕ) (q : ℕ) (z : Source) (s : ℕ) → q < 32 → s < 32 → hops_of (put_source w q z) s ≡ hops_of w s
hops_after_source w q z s y x =
    ⊎_elim
    (λ (o : q ≤ s). hops_agree (put_source w q z) w s (λ i a b. put_source_off w q z i (inr (omega arith))))
    (λ (o : s < q). hops_agree (put_source w q z) w s (λ i a b. put_source_off w q z i (inl (omega arith))))
    (order q s)

pub hops_after_path : (w : List ℕ) (q : ℕ) (bytes : List ℕ) (at : ℕ) (s : ℕ) → q < 32 → s < 32 → hops_of (put_path w q bytes at) s ≡ hops_of w s
hops_after_path w q bytes at s y x =
    ⊎_elim
    (λ (o : s ≤ q). hops_agree (put_path w q bytes at) w s (λ i a b. put_path_off w q bytes at i (inl (omega arith))))
    (λ (o : q < s). hops_agree (put_path w q bytes at) w s (λ i a b. put_path_off w q bytes at i (inr (omega arith))))
    (order s q)

pub hops_after_appended : (w : List ℕ) (p : Packet) (s : ℕ) → s < 32 → hops_of (appended w p) s ≡ hops_of w s
hops_after_appended w p s x = hops_agree (appended w p) w s (λ i a b. appended_off w p i (inl (omega arith)))

pub hops_after_removed : (w : List ℕ) (k : ℕ) (s : ℕ) → s < 32 → hops_of (removed w k) s ≡ hops_of w s
hops_after_removed w k s x = hops_agree (removed w k) w s (λ i a b. removed_off w k i (inl (omega arith)))

pub path_after_link : (w : List ℕ) (e : ℕ) (l : Link) (s : ℕ) → e < 64 → s < 32 → path_of (put_link w e l) s ≡ path_of w s
path_after_link w e l s y x = path_agree (put_link w e l) w s (λ i a b. put_link_off w e l i (inr (omega arith)))

pub path_after_row : (w : List ℕ) (e : ℕ) (es : List Entry) (s : ℕ) → e < 64 → length es ≡ 32 → s < 32 → path_of (put_row w e es) s ≡ path_of w s
path_after_row w e es s y n x = path_agree (put_row w e es) w s (λ i a b. put_row_off w e es i n (inr (omega arith)))

pub path_after_place : (w : List ℕ) (e : ℕ) (p : Place) (s : ℕ) → e < 64 → length p.entries ≡ 32 → s < 32 → path_of (put_place w e p) s ≡ path_of w s
path_after_place w e p s y n x = path_agree (put_place w e p) w s (λ i a b. put_place_off w e p i n (inr (omega arith)) (inr (omega arith)))

pub path_after_source : (w : List ℕ) (q : ℕ) (z : Source) (s : ℕ) → q < 32 → s < 32 → path_of (put_source w q z) s ≡ path_of w s
path_after_source w q z s y x =
    ⊎_elim
    (λ (o : q ≤ s). path_agree (put_source w q z) w s (λ i a b. put_source_off w q z i (inr (omega arith))))
    (λ (o : s < q). path_agree (put_source w q z) w s (λ i a b. put_source_off w q z i (inl (omega arith))))
    (order q s)

pub path_after_appended : (w : List ℕ) (p : Packet) (s : ℕ) → s < 32 → path_of (appended w p) s ≡ path_of w s
path_after_appended w p s x = path_agree (appended w p) w s (λ i a b. appended_off w p i (inl (omega arith)))

pub path_after_removed : (w : List ℕ) (k : ℕ) (s : ℕ) → s < 32 → path_of (removed w k) s ≡ path_of w s
path_after_removed w k s x = path_agree (removed w k) w s (λ i a b. removed_off w k i (inl (omega arith)))

-- PACKETS, WHEN ANOTHER PART IS WRITTEN -------------------------------------------------------------------------------

pub count_after_link : (w : List ℕ) (e : ℕ) (l : Link) → e < 64 → count_of (put_link w e l) ≡ count_of w
count_after_link w e l y = count_agree (put_link w e l) w (λ i a b. put_link_off w e l i (inr (omega arith)))

pub count_after_row : (w : List ℕ) (e : ℕ) (es : List Entry) → e < 64 → length es ≡ 32 → count_of (put_row w e es) ≡ count_of w
count_after_row w e es y n = count_agree (put_row w e es) w (λ i a b. put_row_off w e es i n (inr (omega arith)))

pub count_after_place : (w : List ℕ) (e : ℕ) (p : Place) → e < 64 → length p.entries ≡ 32 → count_of (put_place w e p) ≡ count_of w
count_after_place w e p y n = count_agree (put_place w e p) w (λ i a b. put_place_off w e p i n (inr (omega arith)) (inr (omega arith)))

pub count_after_source : (w : List ℕ) (q : ℕ) (z : Source) → q < 32 → count_of (put_source w q z) ≡ count_of w
count_after_source w q z y = count_agree (put_source w q z) w (λ i a b. put_source_off w q z i (inr (omega arith)))

pub count_after_hops : (w : List ℕ) (q n : ℕ) → q < 32 → count_of (put_hops w q n) ≡ count_of w
count_after_hops w q n y = count_agree (put_hops w q n) w (λ i a b. put_hops_off w q n i (inr (omega arith)))

pub count_after_path : (w : List ℕ) (q : ℕ) (bytes : List ℕ) (at : ℕ) → q < 32 → count_of (put_path w q bytes at) ≡ count_of w
count_after_path w q bytes at y = count_agree (put_path w q bytes at) w (λ i a b. put_path_off w q bytes at i (inr (omega arith)))

pub packets_after_link : (w : List ℕ) (e : ℕ) (l : Link) → e < 64 → packets_of (put_link w e l) ≡ packets_of w
packets_after_link w e l y = packets_agree (put_link w e l) w (λ i a b. put_link_off w e l i (inr (omega arith)))

pub packets_after_row : (w : List ℕ) (e : ℕ) (es : List Entry) → e < 64 → length es ≡ 32 → packets_of (put_row w e es) ≡ packets_of w
packets_after_row w e es y n = packets_agree (put_row w e es) w (λ i a b. put_row_off w e es i n (inr (omega arith)))

pub packets_after_place : (w : List ℕ) (e : ℕ) (p : Place) → e < 64 → length p.entries ≡ 32 → packets_of (put_place w e p) ≡ packets_of w
packets_after_place w e p y n = packets_agree (put_place w e p) w (λ i a b. put_place_off w e p i n (inr (omega arith)) (inr (omega arith)))

pub packets_after_source : (w : List ℕ) (q : ℕ) (z : Source) → q < 32 → packets_of (put_source w q z) ≡ packets_of w
packets_after_source w q z y = packets_agree (put_source w q z) w (λ i a b. put_source_off w q z i (inr (omega arith)))

pub packets_after_hops : (w : List ℕ) (q n : ℕ) → q < 32 → packets_of (put_hops w q n) ≡ packets_of w
packets_after_hops w q n y = packets_agree (put_hops w q n) w (λ i a b. put_hops_off w q n i (inr (omega arith)))

pub packets_after_path : (w : List ℕ) (q : ℕ) (bytes : List ℕ) (at : ℕ) → q < 32 → packets_of (put_path w q bytes at) ≡ packets_of w
packets_after_path w q bytes at y = packets_agree (put_path w q bytes at) w (λ i a b. put_path_off w q bytes at i (inr (omega arith)))

-- A LINK WITH ITS ENTRIES, WHEN ANOTHER PART IS WRITTEN ---------------------------------------------------------------

pub place_after_source : (w : List ℕ) (q : ℕ) (z : Source) (d : ℕ) → q < 32 → d < 64 → place_of (put_source w q z) d ≡ place_of w d
place_after_source w q z d y x = rw (link_after_source w q z d y x, row_after_source w q z d y x)

pub place_after_hops : (w : List ℕ) (q n : ℕ) (d : ℕ) → q < 32 → d < 64 → place_of (put_hops w q n) d ≡ place_of w d
place_after_hops w q n d y x = rw (link_after_hops w q n d y x, row_after_hops w q n d y x)

pub place_after_path : (w : List ℕ) (q : ℕ) (bytes : List ℕ) (at : ℕ) (d : ℕ) → q < 32 → d < 64 → place_of (put_path w q bytes at) d ≡ place_of w d
place_after_path w q bytes at d y x = rw (link_after_path w q bytes at d y x, row_after_path w q bytes at d y x)

pub place_after_appended : (w : List ℕ) (p : Packet) (d : ℕ) → d < 64 → place_of (appended w p) d ≡ place_of w d
place_after_appended w p d x = rw (link_after_appended w p d x, row_after_appended w p d x)

pub place_after_removed : (w : List ℕ) (k : ℕ) (d : ℕ) → d < 64 → place_of (removed w k) d ≡ place_of w d
place_after_removed w k d x = rw (link_after_removed w k d x, row_after_removed w k d x)
