-- The tables that are reached: the empty table, and what a run on a table that is reached leaves. A run leaves the table after the last record that
-- it took (01, "A run of events stops there; its table is the one before the refused record"), so these are the tables got from the empty one by
-- records that were accepted, in one call or in several.
-- Assumes nothing: definitions.
use Rattle.std.specs.Prelude.{List, ℕ}
use Rattle.machine.specs.Machine.{machine_of}
use Rattle.records.specs.Format.{Bytes}
use Rattle.table.specs.Words.{empty_words}

pub data Reachable : List ℕ → Type 0 where
  empty : Reachable empty_words
  ran : {w : List ℕ} → Reachable w → (s : List ℕ) → Bytes s → Reachable (machine_of w s).state
