-- `links::those_at_b` meets its contract: the closure is the test of those that are idle with rate B.
-- Assumes nothing.
use Rattle.std.proofs.Common.{rules}
use Rattle.links.specs.Links.{idle_at}
use Rattle.links.proofs.those_at_b.Goals as goal

pub returns : goal.returns
returns c = c.those.ensures (idle_at c.args.b) (λ x b h e. search rules)
