-- R and F as words: no session is in both exactly where the word of those in both is 0.
-- Assumes nothing.
use mathlib.Core.Bool.{Bool, not, true, ◌&&◌}
use mathlib.Core.Path.{◌≡◌}
use Prim.Native.Nat.{ℕ, ◌^◌, ◌<◌}
use lib.Bits.{bit_and}
use lib.Dec.{eqb}
use borrow.Author.Tests.{eq-eqb, eqb-true}
use Rattle.fractions.proofs.Cases.{same_test}
use Rattle.records.specs.Format.{all}
use Rattle.records.proofs.Alls.{all_at, all_below}
use Rattle.sessions.specs.Set.{has_of}
use Rattle.sessions.proofs.Operations.{apart_each, word_apart}
use Rattle.links.specs.declared.Link.{Link}
use Rattle.lent.specs.Lent.{apart}

-- of one session
abbrev one : ℕ → ℕ → ℕ → Bool
one r f s = not (has_of s r && has_of s f)

-- a word of 32 digits
words_apart : (r f : ℕ) → r < 2 ^ 32 → eqb (bit_and r f) 0 ≡ all 32 (one r f)
words_apart r f n = same_test (eqb (bit_and r f) 0) (all 32 (one r f)) none empty
  where
    none : eqb (bit_and r f) 0 ≡ true → all 32 (one r f) ≡ true
    none h = all_below 32 (one r f) (λ s k. apart_each r f (eqb-true _ _ h) s)

    empty : all 32 (one r f) ≡ true → eqb (bit_and r f) 0 ≡ true
    empty h = eq-eqb _ _ (word_apart 32 r f n (λ s k. all_at 32 (one r f) s h k))

pub apart_word : (l : Link) → l.r < 2 ^ 32 → eqb (bit_and l.r l.f) 0 ≡ apart l
unfolding apart
apart_word l n = words_apart l.r l.f n
