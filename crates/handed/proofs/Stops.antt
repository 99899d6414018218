-- The links of a path that were seen so far, as a word: a link is new exactly where it is no member.
-- Assumes nothing.
use mathlib.Core.Bool.{Bool, false, not, true, ◌&&◌}
use mathlib.Core.List.{List}
use mathlib.Core.Path.{ap, subst, sym, ◌∙◌, ◌≡◌}
use Prim.Native.Nat.{ℕ, ◌+◌, ◌<◌}
use native.Mathlib.Decide.{ℕ_discrete}
use native.Mathlib.Omega.{arith}
use borrow.Author.Tests.{eq-eqb, lt-ltb, ne_eqb}
use lib.Dec.{eqb, ltb}
use Rattle.fractions.proofs.Cases.{not-false, not_true, same_test}
use Rattle.links.specs.declared.Link.{Link}
use Rattle.records.specs.Format.{all}
use Rattle.records.proofs.Alls.{all_at, all_below, all_fails, all_next, all_none}
use Rattle.sessions.specs.Set.{has, has_of, put}
use Rattle.sessions.proofs.Members.{has_put_other, has_put_same, has_zero}
use Rattle.table.specs.Words.{link_of, stop_of}
use Rattle.handed.specs.Handed.{stop_declared, stop_new}

-- link e is none of the first i of the path of session s
abbrev other : List ℕ → ℕ → ℕ → ℕ → Bool
other w s e j = not (eqb (stop_of w s j) e)

-- the members are the first i links of the path
abbrev pub Seen : List ℕ → ℕ → ℕ → ℕ → Type 0
Seen w s i seen = (e : ℕ) → has_of e seen ≡ not (all i (other w s e))

-- one more that passes changes nothing
all_same : (n : ℕ) (f : ℕ → Bool) → f n ≡ true → all (n + 1) f ≡ all n f
all_same n f h = same_test (all (n + 1) f) (all n f) (λ a. all_below n f (λ i l. all_at (n + 1) f i a (omega arith))) (λ a. all_next n f a h)

module _ (w : List ℕ) (s : ℕ) where
  pub seen_none : Seen w s 0 0
  seen_none e = ap (λ (d : ℕ). eqb d 1) (has_zero e) ∙ sym (ap not (all_none (other w s e)))

  -- the link at place i is declared, or not
  module _ (i d : ℕ) (q : d ≡ stop_of w s i) (l : Link) (e : l ≡ link_of w d) where
    there : (link_of w (stop_of w s i)).capacity ≡ l.capacity
    there = ap (λ (j : ℕ). (link_of w j).capacity) (sym q) ∙ sym (ap (λ (l : Link). l.capacity) e)

    pub undeclared : l.capacity ≡ 0 → (stop_declared w s i && stop_new w s i) ≡ false
    unfolding stop_declared
    undeclared z = ap (λ (c : ℕ). ltb 0 c && stop_new w s i) (there ∙ z)

    pub declared : 0 < l.capacity → stop_declared w s i ≡ true
    unfolding stop_declared
    declared z = lt-ltb 0 (link_of w (stop_of w s i)).capacity (subst (λ (c : ℕ). 0 < c) (sym there) z)

  module _ (i d : ℕ) (q : d ≡ stop_of w s i) (seen : ℕ) (h : Seen w s i seen) where
    pub seen_next : (v : ℕ) → v ≡ put d seen → Seen w s (i + 1) v
    seen_next v p e = go (ℕ_discrete d e)
      where
        go : Dec (d ≡ e) → has_of e v ≡ not (all (i + 1) (other w s e))
        go (yes x) =
            ap (λ (n : ℕ). eqb n 1) (ap (has e) p ∙ ap (λ (n : ℕ). has n (put d seen)) (sym x) ∙ has_put_same d seen)
            ∙ sym (ap not (all_fails (i + 1) (other w s e) i (omega arith) (ap not (eq-eqb (stop_of w s i) e (sym q ∙ x)))))
        go (no n) =
            ap (λ (m : ℕ). eqb m 1) (ap (has e) p ∙ has_put_other d e seen n)
            ∙ (h e ∙ ap not (sym (all_same i (other w s e) (ap not (ne_eqb (stop_of w s i) e (λ y. n (q ∙ y)))))))

    pub stop_old : has_of d seen ≡ true → stop_new w s i ≡ false
    unfolding stop_new
    stop_old t = not_true (all i (other w s (stop_of w s i))) (sym (h (stop_of w s i)) ∙ sym (ap (λ (e : ℕ). has_of e seen) q) ∙ t)

    pub stop_fresh : has_of d seen ≡ false → stop_new w s i ≡ true
    unfolding stop_new
    stop_fresh t = not-false (all i (other w s (stop_of w s i))) (sym (h (stop_of w s i)) ∙ sym (ap (λ (e : ℕ). has_of e seen) q) ∙ t)
