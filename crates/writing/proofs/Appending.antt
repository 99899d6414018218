-- Where a part stands in the whole.
-- Assumes nothing.
use mathlib.Core.List.{List, ◌++◌}
use mathlib.Core.Path.{◌≡◌, ap, ◌∙◌}
use Prim.Native.Nat.{ℕ, ◌+◌, ◌<◌, ◌≤◌}
use native.Mathlib.Omega.{arith}
use lib.ListN.{get_or-append, get_or, length, length-append}
use lib.Seq.{get_or-append-add}

-- the bytes of a part stand in s from a place on
pub record Stands (s : List ℕ) (at : ℕ) (part : List ℕ) : Type 0 where
  pub fits : at + length part ≤ length s
  pub byte : (i : ℕ) → i < length part → (j : ℕ) → j ≡ at + i → get_or s j 0 ≡ get_or part i 0

pub stands : (s before part behind : List ℕ) → s ≡ before ++ (part ++ behind) → Stands s (length before) part
stands s before part behind e =
    record {
      fits = omega (arith, ap length e, length-append before (part ++ behind), length-append part behind);
      byte = λ i h j q.
          ap (λ (k : ℕ). get_or s k 0) q
          ∙ ap (λ (l : List ℕ). get_or l (length before + i) 0) e
          ∙ get_or-append-add before (part ++ behind) i 0
          ∙ get_or-append part behind 0 i h;
    }
