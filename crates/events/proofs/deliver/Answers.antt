-- `events::deliver` meets its contract: refusal 11, or the packet arrives.
-- Assumes nothing.
use mathlib.Core.Bool.{false, true}
use mathlib.Core.Path.{subst, sym, ◌∙◌, ◌≡◌}
use Rattle.sending.specs.Sending.{in_turn_of}
use native.Mathlib.Omega.{arith}
use borrow.Author.Tests.{le-ltb, lt-ltb}
use Prim.Native.Nat.{ℕ, ◌≤◌, ◌<◌}
use Rattle.table.proofs.InRange.{count_most, packet_in_range}
use Rattle.table.specs.Values.{PacketInRange}
use Rattle.events.specs.Events.{deliver_of}
use Rattle.events.proofs.deliver.Goals as goal

pub returns-then-n-i : goal.returns-then-n-i
unfolding deliver_of
returns-then-n-i c = rw (← c.count-n.ensures, le-ltb _ _ c.if-n-i.true)

pub in_turn-requires : goal.in_turn-requires
in_turn-requires c = let h : c.count-n.result ≤ 256 = subst (λ (n : ℕ). n ≤ 256) (sym c.count-n.ensures) (count_most _) in
    omega arith

pub returns-then-not-in_turn : goal.returns-then-not-in_turn
unfolding deliver_of
returns-then-not-in_turn c =
    let out_of_turn : in_turn_of c.args.t.now c.args.i ≡ false = sym c.in_turn.ensures ∙ c.if-not-in_turn.true in
    rw (← c.count-n.ensures, lt-ltb _ _ c.if-n-i.false, out_of_turn)

pub packet_at-p-requires : goal.packet_at-p-requires
packet_at-p-requires c = let h : c.count-n.result ≤ 256 = subst (λ (n : ℕ). n ≤ 256) (sym c.count-n.ensures) (count_most _) in
    omega arith

pub arrive-requires : goal.arrive-requires
arrive-requires c = (subst (λ (n : ℕ). c.args.i < n) c.count-n.ensures c.if-n-i.false, subst PacketInRange (sym c.packet_at-p.ensures) (packet_in_range _ _))

pub returns : goal.returns
unfolding deliver_of
returns c =
    let in_turn : in_turn_of c.args.t.now c.args.i ≡ true = sym c.in_turn.ensures ∙ c.if-not-in_turn.false in
    rw (← c.count-n.ensures, lt-ltb _ _ c.if-n-i.false, in_turn, ← c.packet_at-p.ensures) c.arrive.ensures
