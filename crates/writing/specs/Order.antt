-- 02, §3: "a file in this order": of an input that the calculation accepts, whose kinds are 1 and 2, links by rising number, then sessions by rising
-- number.
-- Assumes nothing: definitions.
use Rattle.std.specs.Prelude.{Bool, ◌&&◌, cond, true, List, ℕ, zero, suc, ◌+◌, leb, ltb, length}
use Rattle.records.specs.Format.{be2, size_at}

-- kind and number, the first two bytes of a record, rise from record to record: from place `at` on they are at least `low`
unfoldable pub rises_from : ℕ → List ℕ → ℕ → ℕ → Bool
rises_from zero s at low = true
rises_from (suc k) s at low = cond (ltb at (length s)) (leb low (be2 s at) && rises_from k s (at + size_at s at) (be2 s at + 1)) true

-- all records of an input
unfoldable pub in_order : List ℕ → Bool
in_order s = rises_from (length s) s 0 0
