-- Declarations of the links and active sessions that a table holds, taken as a problem of max-min fair rates, are the problem that the table poses.
-- Assumes nothing.
use mathlib.Core.List.{List}
use mathlib.Core.Path.{◌≡◌, ap₂, refl, sym, ◌∙◌}
use Prim.Native.Nat.{ℕ, ◌+◌, ◌*◌, ◌<◌}
use native.Mathlib.Omega.{arith}
use borrow.Author.Tests.{lt-ltb, ltb-true}
use lib.Dec.{T, eqb, eqb→eq, ltb}
use lib.ListN.{get_or}
use Rattle.conditions.specs.Conditions.{Active, OnPath}
use Rattle.fairness.proofs.Anys.{any_at, any_found}
use Rattle.filling.specs.Lines.{crosses_of, problem_of}
use Rattle.fractions.proofs.Cases.{cases, eqb-T}
use Rattle.declarations.specs.Declaring.{own_limit_of}
use Rattle.declarations.specs.declared.Declared.{Declared}
use Rattle.table.proofs.InRange.{hops_most}
use Rattle.table.specs.Words.{hops_of}
use Rattle.present_set.specs.Held.{Declares, path_byte}
use Rattle.agreement.proofs.Poses.{Poses}

-- a byte that is a link's number is a place of the path: 255 is no link
byte_on_path : (w : List ℕ) (s h e : ℕ) → e < 64 → path_byte w s h ≡ e → OnPath w s e
unfolding path_byte
byte_on_path w s h e l q =
    cases (λ (v : ℕ). v ≡ e → OnPath w s e) (ltb h (hops_of w s)) _ _
    (λ b p. record { place = h; within = ltb-true h (hops_of w s) b; stop = p })
    (λ b p. absurd (omega arith))
    q

-- and a place of the path has the byte of its link
on_path_byte : (w : List ℕ) (s e : ℕ) (o : OnPath w s e) → path_byte w s o.place ≡ e
unfolding path_byte
on_path_byte w s e o = rw (lt-ltb o.place (hops_of w s) o.within) o.stop

module _ (d : Declared) (w : List ℕ) (h : Declares d w) where
  -- a link that an active session crosses is on its path, and the other way round
  crosses_on_path : (e s : ℕ) → e < 64 → s < 32 → Active w s → T (crosses_of d.path e s) → OnPath w s e
  crosses_on_path e s l k a t =
      let r = any_found 8 (λ i. eqb (get_or d.path (s * 8 + i) 0) e) t in
      byte_on_path w s r.0 e l (sym (h.path s r.0 k r.1 a) ∙ eqb→eq (get_or d.path (s * 8 + r.0) 0) e r.2)

  on_path_crosses : (e s : ℕ) → s < 32 → Active w s → OnPath w s e → T (crosses_of d.path e s)
  on_path_crosses e s k a o =
      let i = o.place in
      let b : i < 8 = omega (arith, o.within, hops_most w s) in
      any_at 8 (λ i. eqb (get_or d.path (s * 8 + i) 0) e) i b
      (eqb-T (get_or d.path (s * 8 + i) 0) e (h.path s i k b a ∙ on_path_byte w s e o))

  pub declares_poses : Poses w (problem_of d)
  unfolding problem_of
  declares_poses =
      record {
        links = refl;
        sessions = refl;
        capacity = h.capacity;
        active = h.active;
        D = λ s k a. ap₂ own_limit_of (h.access s k a) (h.maximum s k a);
        on_path = crosses_on_path;
        crosses = λ e s l k a o. on_path_crosses e s k a o;
      }
