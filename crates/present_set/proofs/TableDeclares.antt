-- The declarations that a table holds declare its links and its active sessions.
-- Assumes nothing.
use mathlib.Core.Bool.{Bool, cond}
use mathlib.Core.List.{List}
use mathlib.Core.Logic.{◌⊎◌, inl, inr}
use mathlib.Core.Path.{◌≡◌, ap, ap₂, ◌∙◌}
use Prim.Native.Nat.{ℕ, zero, suc, ◌+◌, ◌*◌, ◌/◌, ◌%◌, ◌^◌, ◌≤◌, ◌<◌}
use native.Mathlib.Nat.{pow-suc}
use native.Mathlib.Omega.{arith}
use lib.Dec.{eqb, ltb}
use lib.ListN.{get_or}
use Rattle.fairness.proofs.Running.{values_at}
use Rattle.fractions.proofs.Cases.{cases, last}
use Rattle.sessions.proofs.Members.{has_put_other, has_put_same, has_zero, put_lt}
use Rattle.sessions.specs.Set.{has, has_of, put}
use Rattle.table.specs.Words.{link_of, source_of}
use Rattle.present_set.specs.Held.{Declares, declarations_in, path_byte, word_of}

-- WORDS OF THE NUMBERS THAT PASS A TEST -------------------------------------------------------------------------------

module _ (test : ℕ → Bool) where
  -- no number of n or more is a member
  word_none : (n s : ℕ) → n ≤ s → has s (word_of n test) ≡ 0
  unfolding word_of
  word_none zero s l = has_zero s
  word_none (suc n) s l =
      let none = word_none n s (omega arith) in
      cases (λ (v : ℕ). has s v ≡ 0) (test n) (put n (word_of n test)) (word_of n test)
      (λ t. has_put_other n s (word_of n test) (λ e. omega arith) ∙ none)
      (λ t. none)

  -- a number below n is a member where it passes
  word_has : (n s : ℕ) → s < n → has_of s (word_of n test) ≡ test s
  unfolding word_of
  word_has zero s l = absurd (omega arith)
  word_has (suc n) s l = go (word_has n s) (last l)
    where
      go : (s < n → has_of s (word_of n test) ≡ test s) → (s < n) ⊎ (s ≡ n) → has_of s (cond (test n) (put n (word_of n test)) (word_of n test)) ≡ test s
      go ih (inl k) =
          cases (λ (v : ℕ). has_of s v ≡ test s) (test n) (put n (word_of n test)) (word_of n test)
          (λ t. ap (λ (v : ℕ). eqb v 1) (has_put_other n s (word_of n test) (λ e. omega arith)) ∙ ih k)
          (λ t. ih k)
      go ih (inr e) =
          rw e
          (cases (λ (v : ℕ). has_of n v ≡ test n) (test n) (put n (word_of n test)) (word_of n test)
          (λ t. rw (has_put_same n (word_of n test), t))
          (λ t. rw (word_none n n (omega arith), t)))

  -- no digit is past the numbers
  word_lt : (n : ℕ) → word_of n test < 2 ^ n
  unfolding word_of
  word_lt zero = omega arith
  word_lt (suc n) =
      let h : word_of n test < 2 ^ suc n = omega (arith, word_lt n, pow-suc 2 n) in
      cases (λ (v : ℕ). v < 2 ^ suc n) (test n) (put n (word_of n test)) (word_of n test) (λ t. put_lt (suc n) n (word_of n test) (omega arith) h) (λ t. h)

-- WHAT THE TABLE HOLDS ------------------------------------------------------------------------------------------------

-- the declared links are those with a capacity
pub table_links : (w : List ℕ) (e : ℕ) → e < 64 → has_of e (declarations_in w).links ≡ ltb 0 (link_of w e).capacity
unfolding declarations_in
table_links w e l = word_has (λ e. ltb 0 (link_of w e).capacity) 64 e l

-- its words have no digit past the links and sessions
pub table_words : (w : List ℕ) → ((declarations_in w).links < 2 ^ 64) × ((declarations_in w).sessions < 2 ^ 32)
unfolding declarations_in
table_words w = (word_lt (λ e. ltb 0 (link_of w e).capacity) 64, word_lt (λ s. (source_of w s).active) 32)

-- byte h of session s stands at s * 8 + h, as in a declaration
pub table_path : (w : List ℕ) (s h : ℕ) → s < 32 → h < 8 → get_or (declarations_in w).path (s * 8 + h) 0 ≡ path_byte w s h
unfolding declarations_in
table_path w s h l k =
    let q : (s * 8 + h) / 8 ≡ s = omega arith in
    let r : (s * 8 + h) % 8 ≡ h = omega arith in
    values_at 256 (s * 8 + h) _ 0 (omega arith) ∙ ap₂ (path_byte w) q r

pub table_declares : (w : List ℕ) → Declares (declarations_in w) w
unfolding declarations_in
table_declares w =
    record {
      capacity = λ e l. values_at 64 e _ 0 l;
      active = λ s l. word_has (λ s. (source_of w s).active) 32 s l;
      access = λ s l a. values_at 32 s _ 0 l;
      maximum = λ s l a. values_at 32 s _ 0 l;
      path = λ s h l k a. table_path w s h l k;
    }
