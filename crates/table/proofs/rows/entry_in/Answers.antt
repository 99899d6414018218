-- `table::entry_in` meets its contract: the entry is the one in the row of its link.
-- Assumes nothing.
use mathlib.Core.Path.{sym, ◌∙◌}
use Rattle.links.specs.Links.{no_entry}
use Rattle.table.proofs.InRange.{row_entry}
use Rattle.table.proofs.rows.entry_in.Goals as goal

pub returns : goal.returns
returns c =
    let a = c.args in
    c.entry_at.ensures ∙ sym (row_entry a.t.now a.e a.s no_entry c.requires.1)
