-- `ranges::count_fits` meets its contract.
-- Assumes nothing.
use borrow.Author.Rules.{rules}
use Rattle.ranges.specs.Ranges.{count_fits}
use Rattle.ranges.proofs.count_fits.Goals as goal

pub returns : goal.returns
unfolding count_fits
returns c = search rules
