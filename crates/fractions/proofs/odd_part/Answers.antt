-- `fractions::odd_part` meets its contract: what is not 0 has fewer than 64 trailing zeros, so the shift is defined.
-- Assumes nothing.
use Rattle.fractions.proofs.Twos.{trailing_part}
use Rattle.fractions.proofs.odd_part.Goals as goal

pub returns : goal.returns
returns c = trailing_part 64 c.args.x c.requires c.ranges.x.fits
