-- `links::bottleneck_rate` meets its contract: the sum of F, the count of R, and B of them.
-- Assumes nothing.
use mathlib.Core.Path.{subst, sym}
use Prim.Native.Nat.{ℕ, ◌≤◌}
use Rattle.sessions.proofs.Counts.{count_most}
use Rattle.fractions.proofs.Cases.{said_too}
use Rattle.links.specs.Links.{B, TotalSized, bound_said}
use Rattle.links.proofs.Sizes.{sum_sized}
use Rattle.links.proofs.sums.bottleneck_rate.Goals as goal

pub bound_from-requires : goal.bound_from-requires
bound_from-requires c = (c.requires.capacity, subst (λ (n : ℕ). n ≤ 32) (sym c.size.ensures) (count_most 32 _), subst (TotalSized c.args.p.link.capacity) (sym c.sum_of_f-total.ensures.exact) (sum_sized _ c.requires))

pub returns : goal.returns
unfolding B
returns c = said_too bound_said (rw (← c.sum_of_f-total.ensures.exact, ← c.size.ensures) c.bound_from.ensures.exact)
