-- The test of refusal 8, link by link: what it says of each, paths of the same bytes, and that more links leave a path declared.
-- Assumes nothing.
use mathlib.Core.Bool.{true}
use mathlib.Core.List.{List}
use mathlib.Core.Path.{◌≡◌, ap, refl}
use Prim.Native.Nat.{ℕ, ◌+◌, ◌<◌, ◌≤◌}
use native.Mathlib.Omega.{arith}
use lib.ListN.{get_or}
use Rattle.sessions.specs.Set.{has_of, put}
use Rattle.sessions.proofs.Members.{put_is}
use Rattle.records.proofs.Alls.{all_at, all_below, all_eq}
use Rattle.declarations.specs.Declaring.{path_declared}

-- each link of a path that passes is declared
pub declared_at : (links : ℕ) (s : List ℕ) (at n : ℕ) → path_declared links s at n ≡ true → (h : ℕ) → h < n → has_of (get_or s (at + h) 0) links ≡ true
unfolding path_declared
declared_at links s at n p h l = all_at n (λ i. has_of (get_or s (at + i) 0) links) h p l

-- and where each is, it passes
pub all_declared : (links : ℕ) (s : List ℕ) (at n : ℕ) → ((h : ℕ) → h < n → has_of (get_or s (at + h) 0) links ≡ true) → path_declared links s at n ≡ true
unfolding path_declared
all_declared links s at n f = all_below n _ f

-- the same bytes at another place
pub declared_same : (s : List ℕ) (at : ℕ) (l : List ℕ) (from : ℕ) → ((h : ℕ) → h < 8 → get_or s (at + h) 0 ≡ get_or l (from + h) 0)
    → (links n : ℕ) → n ≤ 8 → path_declared links s at n ≡ path_declared links l from n
unfolding path_declared
declared_same s at l from same links n k = all_eq n _ _ (λ h i. ap (λ (v : ℕ). has_of v links) (same h (omega arith)))

-- with link e more
pub more_links : (links e : ℕ) (s : List ℕ) (at n : ℕ) → path_declared links s at n ≡ true → path_declared (put e links) s at n ≡ true
more_links links e s at n p =
    all_declared (put e links) s at n (λ h l. put_is e (get_or s (at + h) 0) links true (λ q. refl) (λ q. declared_at links s at n p h l))
