-- `sending::send_up` meets its contract.
-- Assumes nothing.
use native.Mathlib.Omega.{arith}
use Rattle.std.proofs.Common.{◌≡◌}
use Rattle.std.proofs.lemmas.Grind.{common_steps}
use Rattle.table.specs.Words.{hop_of}
use Rattle.sending.specs.Sending.{send_up_of}
use Rattle.table.proofs.Hops.{hop_of_most}
use Rattle.sending.proofs.send_up.Goals.{After-unwrap_or-h}
use Rattle.sending.proofs.send_up.Goals as goal

-- the hop, or 0 where the link is not on the path
hop_is : (c : After-unwrap_or-h) → c.unwrap_or-h.result ≡ hop_of c.args.t.now c.args.r c.args.e
hop_is c = grind (arith, common_steps)

pub sent_from-p-requires : goal.sent_from-p-requires
sent_from-p-requires c = omega (arith, hop_is c.before, hop_of_most c.args.t.now c.args.r c.args.e)

pub returns : goal.returns
unfolding send_up_of
returns c = rw (← (hop_is c.before.before.before.before), ← c.burst_kind-kind.ensures, ← c.sent_from-p.ensures) c.append.ensures
