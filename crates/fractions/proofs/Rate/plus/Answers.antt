-- `fractions::Rate::plus` meets its contract: each product fits, and so does the sum of two.
-- Assumes nothing.
use mathlib.Core.Path.{◌≡◌, ap, ap₂, ◌∙◌}
use Prim.Native.Nat.{ℕ, ◌+◌, ◌*◌}
use Rattle.fractions.specs.Fraction.{add_of, answer_said, lowest_of, plus_of, within_limit}
use Rattle.fractions.proofs.Cases.{said_too}
use Rattle.fractions.proofs.Rate.plus.Goals.{After-lowest-sum}
use Rattle.fractions.proofs.Rate.plus.Goals as goal

-- the sum in lowest terms
added : (c : After-lowest-sum) → c.lowest-sum.result ≡ add_of c.args.self c.args.b
unfolding add_of
added c =
    let n = c.cross-left.ensures in
    c.lowest-sum.ensures ∙ ap₂ (λ (x y : ℕ). lowest_of (x + y) (c.args.self.den * c.args.b.den)) n.left n.right

pub returns : goal.returns
unfolding plus_of
returns c = said_too answer_said (c.within_limit.ensures ∙ ap within_limit (added c.before))
