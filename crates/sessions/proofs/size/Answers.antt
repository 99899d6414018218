-- `sessions::size` meets its contract.
-- Assumes nothing.
use mathlib.Core.Path.{ap, ◌∙◌}
use lib.Count.{ones_in}
use Rattle.sessions.proofs.Counts.{ones_in_lem}
use Rattle.sessions.proofs.size.Goals as goal

pub returns : goal.returns
returns g c = ones_in_lem g.W.Word.WIDTH c.bits.result c.bits.ensures.within ∙ ap (ones_in g.W.Word.WIDTH) c.bits.ensures.same
