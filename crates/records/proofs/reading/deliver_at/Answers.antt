-- `records::reading::deliver_at` meets its contract.
-- Assumes nothing.
use Rattle.std.specs.Prelude.{Ok}
use mathlib.Core.Path.{ap, ◌∙◌}
use Prim.Native.Nat.{ℕ}
use Rattle.records.specs.declared.Record.TheVariants as rec
use Rattle.records.specs.Format.{deliver_at}
use Rattle.records.proofs.reading.deliver_at.Goals as goal

pub returns : goal.returns
unfolding deliver_at
returns c = ap (λ (n : ℕ). Ok (rec.Deliver n)) (c.from-position.ensures ∙ c.number2.ensures)
