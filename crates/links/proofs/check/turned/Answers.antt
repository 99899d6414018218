-- `links::turned` meets its contract: the highest, those that have it, the rest, and the new words.
-- Assumes nothing.
use Rattle.std.proofs.Common.{rules}
use mathlib.Core.Path.{subst, sym}
use Rattle.fractions.specs.Fraction.{Sized, limit, max_rate}
use Rattle.links.specs.FCheck.{turn_of}
use Rattle.links.specs.Links.{has_other_rate, has_rate}
use Rattle.links.proofs.Sizes.{highest_sized, to_limit}
use Rattle.links.proofs.check.turned.Goals as goal

pub those-back-requires-clause-asked : goal.those-back-requires-clause-asked
those-back-requires-clause-asked c = λ x h.
    let u : Sized limit x.rate = to_limit h in
    let v : Sized limit c.highest-m.result = to_limit (subst (Sized max_rate) (sym c.highest-m.ensures) (highest_sized _ c.requires)) in
    search rules

pub those-rest-requires-clause-asked : goal.those-rest-requires-clause-asked
those-rest-requires-clause-asked c = λ x h.
    let u : Sized limit x.rate = to_limit h in
    let v : Sized limit c.highest-m.result = to_limit (subst (Sized max_rate) (sym c.highest-m.ensures) (highest_sized _ c.requires)) in
    search rules

pub returns : goal.returns
unfolding turn_of
returns c =
    let back = c.those-back.ensures (has_rate c.highest-m.result) (λ x b h e. search rules) in
    let rest = c.those-rest.ensures (has_other_rate c.highest-m.result) (λ x b h e. search rules) in
    rw (← c.highest-m.ensures, ← back, ← rest) c.with_words.ensures
