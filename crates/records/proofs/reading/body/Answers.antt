-- `records::reading::body` meets its contract.
-- Assumes nothing.
use Rattle.std.proofs.Common.{◌≡◌, ◌∙◌, ap, Option, ℕ}
use Rattle.std.specs.Option.{unwrap_or}
use native.Mathlib.Omega.{arith}
use Rattle.records.specs.Format.{body_of}
use Rattle.records.proofs.Bodies.{body_most}
use Rattle.records.proofs.reading.body.Goals as goal

pub returns : goal.returns
unfolding body_of
returns c =
    let e : c.unwrap_or.result ≡ body_of c.args.kind =
    c.unwrap_or.ensures ∙ ap (λ (o : Option ℕ). unwrap_or o 0) c.copied.ensures ∙ c.get.ensures.lookup.4 (omega arith) 0 ∙ ap body_of c.from.ensures in
    (e, omega (arith, e, body_most c.args.kind))
