-- `calculation::answer` meets its contract: what was found is what Figure 1 gives, for every session that is written.
-- Assumes nothing.
use mathlib.Core.Path.{refl, ◌∙◌}
use Rattle.calculation.specs.Calculating.{done_of, results_of}
use Rattle.calculation.proofs.SameResults.{same_dens, same_nums, same_places}
use Rattle.calculation.proofs.Writing.{written_same}
use Rattle.calculation.proofs.answer.Goals as goal

pub find-v-requires : goal.find-v-requires
find-v-requires c = let f = c.filled-z.ensures in (f.fair.feasible.pos, f.small, c.requires.0.access, f.low)

pub write-requires : goal.write-requires
write-requires c = c.requires.1

pub write-requires-2 : goal.write-requires-2
write-requires-2 c = c.requires.2

pub write-requires-3 : goal.write-requires-3
write-requires-3 c = c.requires.3

pub returns : goal.returns
unfolding done_of
returns c =
    let d = c.args.d in
    let z = c.filled-z.result in
    let f = c.filled-z.ensures in
    let v = c.find-v.result in
    let g = c.find-v.ensures in (
      refl,
      c.write.ensures ∙ written_same d.sessions v.nums (results_of d).nums _ (same_nums d z v f g),
      c.write-2.ensures ∙ written_same d.sessions v.dens (results_of d).dens _ (same_dens d z v f g),
      c.write-3.ensures ∙ written_same d.sessions v.places (results_of d).places _ (same_places d z v f g),
    )
