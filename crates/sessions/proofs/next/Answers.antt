-- `sessions::next` meets its contract.
-- Assumes nothing.
use mathlib.Core.Path.{ap, ◌∙◌}
use Prim.Native.Nat.{min}
use lib.Count.{count_trailing_zeros}
use Rattle.sessions.proofs.Walks.{low_min}
use Rattle.sessions.proofs.next.Goals as goal

pub returns : goal.returns
returns g c =
    let k = g.W.Word.WIDTH in
    c.min.ensures
    ∙ ap (λ n. min (count_trailing_zeros 64 c.bits.result) n) c.WIDTH.ensures
    ∙ low_min 64 k c.bits.result g.met.W.Word.at_most_64
    ∙ ap (count_trailing_zeros k) c.bits.ensures.same
