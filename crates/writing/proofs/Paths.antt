-- How many bytes of a path are links, of one that refusal 6 does not turn away.
-- Assumes nothing.
use mathlib.Core.Bool.{true}
use mathlib.Core.List.{List}
use mathlib.Core.Logic.{◌⊎◌, inl, inr}
use mathlib.Core.Path.{◌≡◌, subst, sym, ◌∙◌}
use Prim.Native.Nat.{ℕ, zero, suc, ◌+◌, ◌<◌, ◌≤◌}
use native.Mathlib.Omega.{arith}
use borrow.Author.Tests.{lt-ltb}
use lib.Dec.{ltb}
use lib.ListN.{get_or}
use Rattle.fractions.proofs.Cases.{order}
use Rattle.fairness.specs.Sum.{part, sum}
use Rattle.records.specs.Format.{path_ok}
use Rattle.records.proofs.PathBytes.{path_is}
use Rattle.search.specs.Crossing.{byte_at}
use Rattle.writing.specs.Writing.{path_size}

-- n links, and then 255
pub size_is : (k n : ℕ) (f : ℕ → ℕ) → n ≤ k → ((h : ℕ) → h < n → f h < 64) → ((h : ℕ) → h < k → n ≤ h → f h ≡ 255) → sum k (λ h. part (ltb (f h) 64) 1) ≡ n
unfolding sum
size_is zero n f h used rest = omega arith
size_is (suc k) n f h used rest = go (order n k) (λ l. size_is k n f l used (λ i p q. rest i (omega arith) q)) (λ l. size_is k k f (omega arith) (λ i p. used i (omega arith)) (λ i p q. absurd (omega arith)))
  where
    go : (n ≤ k) ⊎ (k < n) → (n ≤ k → sum k (λ h. part (ltb (f h) 64) 1) ≡ n) → (k < n → sum k (λ h. part (ltb (f h) 64) 1) ≡ k)
        → sum k (λ h. part (ltb (f h) 64) 1) + part (ltb (f k) 64) 1 ≡ n
    go (inl l) a b = let z : f k ≡ 255 = rest k (omega arith) l in rw z (omega (arith, a l))
    go (inr l) a b = rw (lt-ltb (f k) 64 (used k l)) (omega (arith, b l))

-- each is a byte
pub path_byte_lem : (s : List ℕ) (at n : ℕ) → path_ok s at n ≡ true → (h : ℕ) → h < 8 → get_or s (at + h) 0 < 256
path_byte_lem s at n e h l = go (order n h)
  where
    go : (n ≤ h) ⊎ (h < n) → get_or s (at + h) 0 < 256
    go (inl k) = omega (arith, (path_is s at n e).rest h l k)
    go (inr k) = omega (arith, (path_is s at n e).link h k)

pub path_size_is : (s : List ℕ) (at n : ℕ) (path : List ℕ) (t : ℕ) → path_ok s at n ≡ true → ((h : ℕ) → h < 8 → byte_at path t h ≡ get_or s (at + h) 0) → path_size path t ≡ n
unfolding path_size
path_size_is s at n path t e same =
    let b = path_is s at n e in
    size_is 8 n (byte_at path t) b.most
    (λ h l. subst (λ (v : ℕ). v < 64) (sym (same h (omega (arith, b.most)))) (b.link h l))
    (λ h l k. same h l ∙ b.rest h l k)
