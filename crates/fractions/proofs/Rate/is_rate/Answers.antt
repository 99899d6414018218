-- `fractions::Rate::is_rate` meets its contract: the test of its size, then that of its lowest terms.
-- Assumes nothing.
use mathlib.Core.Path.{ap, sym, ◌∙◌}
use lib.Dec.{eqb}
use Rattle.fractions.proofs.Divisors.{gcd_unique}
use Rattle.fractions.proofs.Ranges.{is_rate_by_size}
use Rattle.fractions.proofs.Rate.is_rate.Goals as goal

pub returns-then-is_sized : goal.returns-then-is_sized
returns-then-is_sized c =
    ap (λ g. eqb g 1) (gcd_unique c.gcd.ensures) ∙ sym (is_rate_by_size c.args.self ∙ rw (sym c.is_sized.ensures ∙ c.if-is_sized.true))

pub returns-else-is_sized : goal.returns-else-is_sized
returns-else-is_sized c = c.if-is_sized.false ∙ sym (is_rate_by_size c.args.self ∙ rw (sym c.is_sized.ensures ∙ c.if-is_sized.false))
