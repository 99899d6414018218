-- The sessions that a burst goes to: those of a set whose paths have the link.
-- Assumes nothing.
use mathlib.Core.Bool.{Bool, cond, false}
use mathlib.Core.List.{List}
use mathlib.Core.Path.{◌≡◌, ap, refl, subst, sym, ◌∙◌}
use Prim.Native.Nat.{ℕ, zero, suc, ◌+◌, ◌/◌, ◌%◌, ◌^◌, ◌<◌}
use native.Mathlib.Decide.{ℕ_discrete}
use native.Mathlib.Omega.{arith}
use borrow.Author.Tests.{eqb-false, ne_eqb}
use lib.Dec.{eqb}
use lib.ListN.{length}
use Rattle.sending.specs.Sending.{add_on_path, on_path_of}
use Rattle.table.specs.Words.{hop_of}
use Rattle.fractions.proofs.Cases.{cases}
use Rattle.sessions.specs.Set.{cons_if, has, members, members_from, put, size_of}
use Rattle.sessions.proofs.Counts.{ones_in_lem}
use Rattle.sessions.proofs.Members.{has_put_other, has_zero, put_lt}
use Rattle.sessions.proofs.Walks.{members_length, members_put, walk_cong, walk_keeps}
use Rattle.reachable.proofs.Kept.{hop_on}
use Rattle.reachable.proofs.Sends.{Each, Sessions, more, nobody}
use Rattle.reachable.proofs.SentPackets.{Crosses, Crossing}

-- MEMBERS OF A WORD ---------------------------------------------------------------------------------------------------

each_from : (P : ℕ → Type 0) (k b w : ℕ) → ((s : ℕ) → s < k → has s w ≡ 1 → P (b + s)) → Each P (members_from k b w)
unfolding members_from has
each_from P zero b w h = nobody
each_from P (suc k) b w h =
    go (w % 2) (omega arith) refl (each_from P k (suc b) (w / 2) (λ s l e. subst P (omega arith) (h (suc s) (omega arith) e)))
  where
    go : (d : ℕ) → d < 2 → w % 2 ≡ d → Each P (members_from k (suc b) (w / 2)) → Each P (cons_if d b (members_from k (suc b) (w / 2)))
    go zero l e r = r
    go (suc zero) l e r = more {r = b} (subst P {x = b + 0} {y = b} (omega arith) (h 0 (omega arith) e)) r
    go (suc (suc d)) l e r = absurd (omega arith)

pub each_member : (P : ℕ → Type 0) (w : ℕ) → ((s : ℕ) → s < 32 → has s w ≡ 1 → P s) → Each P (members w)
each_member P w h = each_from P 32 0 w (λ s l e. subst P {x = s} {y = 0 + s} (omega arith) (h s l e))

pub members_sessions : (w : ℕ) → Sessions (members w)
members_sessions w = each_member (λ r. r < 32) w (λ s l e. l)

pub members_count : (w : ℕ) → w < 2 ^ 32 → length (members w) ≡ size_of w
members_count w h = members_length 32 0 w h ∙ ones_in_lem 32 w h

-- THOSE ON WHOSE PATH THE LINK IS -------------------------------------------------------------------------------------

record Picked (w : List ℕ) (e a : ℕ) : Type 0 where
  small : a < 2 ^ 32
  on : (r : ℕ) → has r a ≡ 1 → hop_of w r e ≡ 0 → ⊥

picked_next : (w : List ℕ) (e a j : ℕ) → j < 32 → Picked w e a → Picked w e (add_on_path w e a j)
picked_next w e a j l o =
    cases (Picked w e) (eqb (hop_of w j e) 0) a (put j a) (λ t. o)
    (λ t. record { small = put_lt 32 j a l o.small; on = λ r h. there r h t (ℕ_discrete j r) })
  where
    there : (r : ℕ) → has r (put j a) ≡ 1 → eqb (hop_of w j e) 0 ≡ false → Dec (j ≡ r) → hop_of w r e ≡ 0 → ⊥
    there r h t (yes q) z = eqb-false (hop_of w j e) 0 t (ap (λ (x : ℕ). hop_of w x e) q ∙ z)
    there r h t (no n) z = o.on r (sym (has_put_other j r a n) ∙ h) z

picked : (w : List ℕ) (e to : ℕ) → Picked w e (on_path_of w e to)
unfolding on_path_of
picked w e to =
    walk_keeps (Picked w e) (add_on_path w e) 32 to (picked_next w e) 0
    (record { small = omega arith; on = λ r h z. absurd (omega (arith, h, has_zero r)) })

pub on_path_count : (w : List ℕ) (e to : ℕ) → length (members (on_path_of w e to)) ≡ size_of (on_path_of w e to)
on_path_count w e to = members_count (on_path_of w e to) (picked w e to).small

pub on_path_crosses : (w : List ℕ) (e to : ℕ) → Crossing w e (members (on_path_of w e to))
on_path_crosses w e to = each_member (Crosses w e) (on_path_of w e to) (λ r l h. crosses r l (hop_of w r e) refl ((picked w e to).on r h))
  where
    crosses : (r : ℕ) → r < 32 → (n : ℕ) → hop_of w r e ≡ n → (hop_of w r e ≡ 0 → ⊥) → Crosses w e r
    crosses r l zero q f = absurd (f q)
    crosses r l (suc n) q f = let o = hop_on w r e (omega (arith, q)) in record { session = l; joined = o.joined; upto = o.upto }

-- where the link is on the paths of all of them, none is left out
pub on_path_all : (w : List ℕ) (e to : ℕ) → to < 2 ^ 32 → ((r : ℕ) → r < 32 → has r to ≡ 1 → 0 < hop_of w r e) → on_path_of w e to ≡ to
unfolding on_path_of
on_path_all w e to few on =
    walk_cong (add_on_path w e) (λ a r. put r a) 32 to
    (λ r l h a. ap (λ (b : Bool). cond b a (put r a)) (ne_eqb (hop_of w r e) 0 (λ q. omega (arith, q, on r l h)))) 0
    ∙ members_put 32 to few
