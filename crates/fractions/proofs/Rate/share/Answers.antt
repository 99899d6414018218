-- `fractions::Rate::share` meets its contract.
-- Assumes nothing.
use mathlib.Core.Path.{◌≡◌, ap, ◌∙◌}
use Prim.Native.Nat.{◌-◌, ◌*◌}
use Rattle.fractions.specs.Fraction.{among_of, answer_said, each_of, left_of, lowest_of, share_of, within_limit}
use Rattle.fractions.specs.declared.Part.{Part}
use Rattle.fractions.proofs.Cases.{said_too}
use Rattle.fractions.proofs.Rate.share.Goals.{After-among-each, After-lowest-share}
use Rattle.fractions.proofs.Rate.share.Goals as goal

-- what each gets, not reduced
part : (c : After-among-each) → c.among-each.result ≡ among_of (left_of c.args.capacity c.args.taken) c.args.count
part c = c.among-each.ensures ∙ ap (λ (p : Part). among_of p c.args.count) c.left.ensures

-- and in lowest terms
each : (c : After-lowest-share)
    → c.lowest-share.result
    ≡ lowest_of (c.args.capacity * c.args.taken.den - c.args.taken.num)
    (c.args.taken.den * c.args.count)
each c = c.lowest-share.ensures ∙ ap (λ (p : Part). lowest_of p.num p.den) (part c.before)

pub returns : goal.returns
unfolding share_of each_of
returns c = said_too answer_said (c.within_limit.ensures ∙ ap within_limit (each c.before))
