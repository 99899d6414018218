-- 02, §3: "records of kinds 1 and 2", said of a file: what the writer gives has no other kind.
-- Assumes nothing: definitions.
use Rattle.std.specs.Prelude.{Bool, ◌&&◌, ◌||◌, cond, true, List, ℕ, zero, suc, ◌+◌, eqb, ltb, get_or, length}
use Rattle.records.specs.Format.{size_at}

-- the record at a place declares a link or a session: its kind is 1 or 2
abbrev pub declares_at : List ℕ → ℕ → Bool
declares_at s at = eqb (get_or s at 0) 1 || eqb (get_or s at 0) 2

-- and so does each from place `at` on, read where the one before ended: each has a byte at least, so as many turns as bytes are enough
unfoldable pub declares_from : ℕ → List ℕ → ℕ → Bool
declares_from zero s at = true
declares_from (suc k) s at = cond (ltb at (length s)) (declares_at s at && declares_from k s (at + size_at s at)) true

-- all records of a file
unfoldable pub declares_only : List ℕ → Bool
declares_only s = declares_from (length s) s 0
