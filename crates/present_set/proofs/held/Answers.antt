-- `present_set::held` meets its contract.
-- Assumes nothing.
use mathlib.Core.Path.{refl}
use Rattle.present_set.specs.Held.{declarations_in}
use Rattle.present_set.proofs.held.Goals as goal

pub returns : goal.returns
unfolding declarations_in
returns c =
    rw (c.paths.ensures, c.maxima.ensures, c.accesses.ensures, c.active.ensures, c.capacities.ensures, c.links.ensures) refl
