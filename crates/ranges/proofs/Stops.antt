-- A path whose stops are tested one after the other.
-- Assumes nothing.
use mathlib.Core.Bool.{Bool, ◌&&◌}
use mathlib.Core.List.{List}
use mathlib.Core.Path.{◌≡◌, ap, refl, ◌∙◌}
use Prim.Native.Nat.{ℕ, zero, suc, ◌+◌, ◌*◌, ◌≤◌, ◌<◌}
use native.Mathlib.Omega.{arith}
use lib.Dec.{leb}
use lib.ListN.{drop, get_or, length, take}
use lib.Seq.{drop-cons}
use Rattle.std.specs.List.{list_all}
use Rattle.ranges.specs.Ranges.{stops_fit}

stops_tested : (k : ℕ) (w : List ℕ) (s i : ℕ)
    → 6336 + s * 24 + 16 + i + k ≤ length w
    → list_all (λ (e : ℕ). leb e 63) (take k (drop (6336 + s * 24 + 16 + i) w)) ≡ stops_fit k w s i
unfolding stops_fit
stops_tested zero w s i h = refl
stops_tested (suc k) w s i h =
    let a = 6336 + s * 24 + 16 + i in
    let p : suc a ≡ 6336 + s * 24 + 16 + (i + 1) = omega arith in
    let l : a < length w = omega arith in
    ap (λ (x : List ℕ). list_all (λ (e : ℕ). leb e 63) (take (suc k) x)) (drop-cons w a 0 l)
    ∙ ap (λ (b : Bool). leb (get_or w a 0) 63 && b)
    (ap (λ (j : ℕ). list_all (λ (e : ℕ). leb e 63) (take k (drop j w))) p ∙ stops_tested k w s (i + 1) (omega arith))

-- the n links of a path, of which k is the number
pub path_tested : (n k : ℕ) (w : List ℕ) (s : ℕ)
    → k ≡ n
    → 6336 + s * 24 + 16 + n ≤ length w
    → list_all (λ (e : ℕ). leb e 63) (take k (drop (6336 + s * 24 + 16) w)) ≡ stops_fit n w s 0
path_tested n k w s e h =
    let p : 6336 + s * 24 + 16 ≡ 6336 + s * 24 + 16 + 0 = omega arith in
    ap (λ (j : ℕ). list_all (λ (e : ℕ). leb e 63) (take j (drop (6336 + s * 24 + 16) w))) e
    ∙ ap (λ (a : ℕ). list_all (λ (e : ℕ). leb e 63) (take n (drop a w))) p
    ∙ stops_tested n w s 0 (omega arith)
