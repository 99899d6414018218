-- The links and the active sessions that a table holds, as declarations of the calculation. w are the words of the table.
-- Assumes nothing: definitions.
use Rattle.std.specs.Prelude.{Bool, cond, true, List, ◌≡◌, ℕ, zero, suc, ◌*◌, ◌+◌, ◌/◌, ◌%◌, ◌<◌, ltb, get_or}
use Rattle.fairness.specs.Figure1.{values}
use Rattle.declarations.specs.declared.Declared.{Declared}
use Rattle.sessions.specs.Set.{has_of, put}
use Rattle.table.specs.Words.{hops_of, link_of, source_of, stop_of}

-- byte h of the path of session s, as a record has it: 01, "Unused link bytes are 255"
unfoldable pub path_byte : List ℕ → ℕ → ℕ → ℕ
path_byte w s h = cond (ltb h (hops_of w s)) (stop_of w s h) 255

-- d declares the links of the table, and its active sessions with their access rates, present maxima and paths; a link of capacity 0 is one that
-- is not declared
pub record Declares (d : Declared) (w : List ℕ) : Type 0 where
  pub capacity : (e : ℕ) → e < 64 → get_or d.capacity e 0 ≡ (link_of w e).capacity
  pub active : (s : ℕ) → s < 32 → has_of s d.sessions ≡ (source_of w s).active
  pub access : (s : ℕ) → s < 32 → (source_of w s).active ≡ true → get_or d.access s 0 ≡ (source_of w s).access
  pub maximum : (s : ℕ) → s < 32 → (source_of w s).active ≡ true → get_or d.maximum s 0 ≡ (source_of w s).maximum
  pub path : (s h : ℕ) → s < 32 → h < 8 → (source_of w s).active ≡ true → get_or d.path (s * 8 + h) 0 ≡ path_byte w s h

-- the numbers below n that pass a test, as a word
unfoldable pub word_of : ℕ → (ℕ → Bool) → ℕ
word_of zero test = 0
word_of (suc n) test = cond (test n) (put n (word_of n test)) (word_of n test)

-- the declarations that the table holds; what a source keeps of a session that is not active counts for nothing, as the word of sessions leaves it out
unfoldable pub declarations_in : List ℕ → Declared
declarations_in w =
    record {
      links = word_of 64 (λ e. ltb 0 (link_of w e).capacity);
      capacity = values 0 64 (λ e. (link_of w e).capacity);
      sessions = word_of 32 (λ s. (source_of w s).active);
      access = values 0 32 (λ s. (source_of w s).access);
      maximum = values 0 32 (λ s. (source_of w s).maximum);
      path = values 0 256 (λ i. path_byte w (i / 8) (i % 8));
    }
