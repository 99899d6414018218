-- `calculation::binding` meets its contract.
-- Assumes nothing.
use borrow.Author.Rules.{rules}
use borrow.Author.Tests.{eq-eqb, ne_eqb}
use lib.Dec.{eqb}
use lib.ListN.{get_or}
use mathlib.Core.Bool.{true}
use mathlib.Core.Path.{◌≡◌}
use Rattle.std.specs.Option.{option_map_or}
use Rattle.calculation.specs.Binding.{bottleneck_by_last, own, path_bytes}
use Rattle.calculation.proofs.FirstOf.{find_first}
use Rattle.calculation.proofs.binding.Goals as goal

pub returns-then-z-t : goal.returns-then-z-t
returns-then-z-t c =
    let own : eqb (get_or c.args.z.now.rate c.args.t 0) c.args.limit ≡ true = eq-eqb _ _ c.if-z-t.true in
    simp own

pub returns : goal.returns
returns c =
    let a = c.args in
    let test = bottleneck_by_last a.z.now.rate a.z.now.room a.z.now.last (get_or a.z.now.rate a.t 0) in
    let r : c.map_or.result ≡ option_map_or (λ e. e) c.first_bottleneck.result own = search rules in
    rw (ne_eqb _ _ c.if-z-t.false, r, c.first_bottleneck.ensures) (find_first test (path_bytes a.d.now.path a.t))
