-- How many packets of a list are of a session's probe cycle: lists put together, one taken out, and what a task sends.
-- Assumes nothing.
use Rattle.std.specs.Prelude.{None, Option, Some}
use mathlib.Core.Bool.{Bool, false, true, ◌&&◌}
use mathlib.Core.List.{List, [], ◌∷◌, ◌++◌}
use mathlib.Core.Path.{◌≡◌, ap, refl}
use Prim.Native.Nat.{ℕ, ◌+◌, ◌<◌, ◌≤◌}
use native.Mathlib.Omega.{arith}
use borrow.Author.Tests.{eq-eqb, ne_eqb}
use lib.Dec.{eqb}
use Rattle.soundness.specs.ProbeCycle.{in_cycle, sends_cycle}
use Rattle.table.specs.Codes.{bit_of}
use Rattle.tasks.specs.declared.Kind.{Kind}
use Rattle.tasks.specs.declared.Packet.{Packet}
use Rattle.reachable.specs.Cycle.{cycle_of, cycles_of}
use Rattle.reachable.specs.Invariant.{Every, also, none}
use Rattle.reachable.proofs.PacketLists.{every_map}
use Rattle.reachable.proofs.Sends.{burst_to, onward_to}

-- ONE PACKET ----------------------------------------------------------------------------------------------------------

bit_most : (b : Bool) → bit_of b ≤ 1
bit_most true = omega arith
bit_most false = omega arith

and_false : (a b : Bool) → b ≡ false → (a && b) ≡ false
and_false true b e = e
and_false false b e = refl

pub cycle_most : (s r : ℕ) (k : Kind) → cycle_of s r k ≤ 1
cycle_most s r k = bit_most (in_cycle k && eqb r s)

pub cycle_own : (s : ℕ) (k : Kind) → in_cycle k ≡ true → cycle_of s s k ≡ 1
cycle_own s k t = rw (t, eq-eqb s s refl)

pub cycle_other : (s r : ℕ) (k : Kind) → (r ≡ s → ⊥) → cycle_of s r k ≡ 0
cycle_other s r k n = ap bit_of (and_false (in_cycle k) (eqb r s) (ne_eqb r s n))

cycle_none : (s r : ℕ) (k : Kind) → in_cycle k ≡ false → cycle_of s r k ≡ 0
cycle_none s r k t = rw t

-- LISTS ---------------------------------------------------------------------------------------------------------------

module _ (s : ℕ) where
  pub cycles_append : (xs ys : List Packet) → cycles_of s (xs ++ ys) ≡ cycles_of s xs + cycles_of s ys
  unfolding cycles_of
  cycles_append [] ys = omega arith
  cycles_append (q ∷ xs) ys = omega (arith, cycles_append xs ys)

  -- p, and the others
  pub cycles_parted : (xs : List Packet) (p : Packet) (ys : List Packet)
      → cycles_of s (xs ++ p ∷ ys) ≡ cycle_of s p.session p.kind + cycles_of s (xs ++ ys)
  unfolding cycles_of
  cycles_parted [] p ys = refl
  cycles_parted (q ∷ xs) p ys = omega (arith, cycles_parted xs p ys)

  pub no_cycles : (l : List Packet) → Every (λ q. q.session ≡ s → ⊥) l → cycles_of s l ≡ 0
  unfolding cycles_of
  no_cycles [] none = refl
  no_cycles (q ∷ l) (also n u) = omega (arith, cycle_other s q.session q.kind n, no_cycles l u)

  pub burst_cycles : (w : List ℕ) (e : ℕ) (k : Kind) (l : List ℕ) → in_cycle k ≡ false → cycles_of s (burst_to w e k l) ≡ 0
  unfolding burst_to cycles_of
  burst_cycles w e k [] t = refl
  burst_cycles w e k (r ∷ l) t = omega (arith, cycle_none s r k t, burst_cycles w e k l t)

-- each packet of a probe cycle counts
pub counted : (l : List Packet) → Every (λ q. in_cycle q.kind ≡ true → 0 < cycles_of q.session l) l
unfolding cycles_of
counted [] = none
counted (q ∷ l) =
    also {q = q} (λ t. omega (arith, cycle_own q.session q.kind t))
    (every_map l (λ p f t. omega (arith, f t)) (counted l))

-- WHAT GOES ON --------------------------------------------------------------------------------------------------------

module _ (s r h : ℕ) where
  pub onward_most : (o : Option Kind) → cycles_of s (onward_to r h o) ≤ 1
  unfolding cycles_of
  onward_most None = omega arith
  onward_most (Some j) = omega (arith, cycle_most s r j)

  pub onward_other : (o : Option Kind) → (r ≡ s → ⊥) → cycles_of s (onward_to r h o) ≡ 0
  unfolding cycles_of
  onward_other None n = refl
  onward_other (Some j) n = omega (arith, cycle_other s r j n)

  pub onward_none : (o : Option Kind) → sends_cycle o ≡ false → cycles_of s (onward_to r h o) ≡ 0
  unfolding cycles_of
  onward_none None t = refl
  onward_none (Some j) t = omega (arith, cycle_none s r j t)

  -- in place of a packet of kind k
  pub onward_for : (k : Kind) (o : Option Kind) → (sends_cycle o ≡ true → in_cycle k ≡ true) → cycles_of s (onward_to r h o) ≤ cycle_of s r k
  unfolding cycles_of
  onward_for k None f = omega arith
  onward_for k (Some j) f = go (in_cycle j) refl
    where
      go : (b : Bool) → in_cycle j ≡ b → cycle_of s r j + 0 ≤ cycle_of s r k
      go true t = rw (t, f t) (omega arith)
      go false t = omega (arith, cycle_none s r j t)
