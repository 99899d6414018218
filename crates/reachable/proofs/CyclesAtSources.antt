-- A source that is written, and sends, keeps the law of probe cycles: where it asks, no packet of its session's probe cycle was left.
-- Assumes nothing.
use Rattle.std.specs.Prelude.{None, Option, Some}
use mathlib.Core.Bool.{Bool, cond, false, true}
use mathlib.Core.List.{List}
use mathlib.Core.Logic.{inl, inr}
use mathlib.Core.Path.{◌≡◌, ap, refl, subst, sym, ◌∙◌}
use Prim.Native.Nat.{ℕ, ◌+◌, ◌<◌, ◌≤◌}
use native.Mathlib.Decide.{ℕ_discrete}
use native.Mathlib.Omega.{arith}
use Rattle.ends.specs.declared.Source.{Source}
use Rattle.ends.specs.declared.SourceDid.{SourceDid}
use Rattle.sending.specs.Sending.{next_hop, sent_from}
use Rattle.links.specs.declared.Place.{Place}
use Rattle.links.specs.Links.{is_idle}
use Rattle.records.proofs.Somes.{clash, not_so}
use Rattle.soundness.specs.LinkDid.{is_join}
use Rattle.soundness.specs.ProbeCycle.{in_cycle, is_response, sends_cycle}
use Rattle.soundness.specs.Sound.{Held}
use Rattle.table.specs.Words.{packets_of, source_of}
use Rattle.tasks.specs.declared.Kind.{Kind}
use Rattle.tasks.specs.declared.Packet.{Packet}
use Rattle.tasks.specs.Packets.{goes_down}
use Rattle.reachable.specs.Cycle.{Awaited, Cycle, cycles_of, front_of}
use Rattle.reachable.specs.Invariant.{Every, Inv, PacketOk, also, none}
use Rattle.reachable.proofs.CycleCounts.{onward_most, onward_none, onward_other}
use Rattle.reachable.proofs.CycleFrame.{cycle_after, join_in_cycle, same_stays}
use Rattle.reachable.proofs.Kept.{hop_same}
use Rattle.reachable.proofs.Sends.{onward_to}
use Rattle.reachable.proofs.SourceCycles.{SourceCycle, answered, asks, sends_join, stays}
use Rattle.reachable.proofs.SourceWrites.{Written}

no_join : (o : Option Kind) → sends_cycle o ≡ false → sends_join o ≡ false
no_join None t = refl
no_join (Some k) t = not_so (is_join k) (λ j. clash (in_cycle k) (join_in_cycle k j) t)

-- a packet that a source sends has no link behind it
front_source : (s : ℕ) (k : Kind) → front_of (sent_from s 0 k) ≤ 1
front_source s k = go (goes_down k)
  where
    go : (b : Bool) → cond b (next_hop b 0) (next_hop b 0 + 1) ≤ 1
    go true = omega arith
    go false = omega arith

-- the source of session s did d with a packet of kind k; `others` are the packets of w without it
module _ (w : List ℕ) (i : Inv w) (c : Cycle w) (s : ℕ) (ls : s < 32) (k : Kind) (d : SourceDid) (did : SourceCycle k (source_of w s) d)
    (others : List Packet) (v : List ℕ) (a : Written w s d.source others (onward_to s 0 d.on) v) (ok : Every (PacketOk w) others)
    (awaited : Every (Awaited w) others) (fewer : (r : ℕ) → cycles_of r others ≤ cycles_of r (packets_of w))
    (gone : is_response k ≡ true → cycles_of s others ≡ 0) where
  abbrev sent : List Packet
  sent = onward_to s 0 d.on

  none_left : is_idle (source_of w s).mu ≡ true → cycles_of s others ≡ 0
  none_left t = omega (arith, fewer s, c.idle s ls t)

  -- OF ITS OWN SESSION --------------------------------------------------------------------------------------------------

  own_one : SourceCycle k (source_of w s) d → cycles_of s others + cycles_of s sent ≤ 1
  own_one (stays m n) = omega (arith, fewer s, c.one s ls, onward_none s s 0 d.on n)
  own_one (asks m n (inl t)) = omega (arith, none_left t, onward_most s s 0 d.on)
  own_one (asks m n (inr t)) = omega (arith, gone t, onward_most s s 0 d.on)
  own_one (answered t n) = omega (arith, gone t, onward_none s s 0 d.on n)

  own_idle : SourceCycle k (source_of w s) d → is_idle d.source.mu ≡ true → cycles_of s others + cycles_of s sent ≡ 0
  own_idle (stays m n) t = omega (arith, none_left (ap is_idle (sym m) ∙ t), onward_none s s 0 d.on n)
  own_idle (asks m n u) t = absurd (clash (is_idle d.source.mu) t m)
  own_idle (answered u n) t = omega (arith, gone u, onward_none s s 0 d.on n)

  -- OF EVERY SESSION ----------------------------------------------------------------------------------------------------

  one : (r : ℕ) → r < 32 → Dec (s ≡ r) → cycles_of r others + cycles_of r sent ≤ 1
  one r l (yes q) = subst (λ (x : ℕ). cycles_of x others + cycles_of x sent ≤ 1) q (own_one did)
  one r l (no n) = omega (arith, fewer r, c.one r l, onward_other r s 0 d.on n)

  idle : (r : ℕ) → r < 32 → Dec (s ≡ r) → is_idle (source_of v r).mu ≡ true → cycles_of r others + cycles_of r sent ≡ 0
  idle r l (yes q) t =
      subst (λ (x : ℕ). cycles_of x others + cycles_of x sent ≡ 0) q
      (own_idle did (ap (λ (z : Source). is_idle z.mu) (sym a.source) ∙ ap (λ (x : ℕ). is_idle (source_of v x).mu) q ∙ t))
  idle r l (no n) t =
      omega (arith, fewer r, c.idle r l (ap (λ (z : Source). is_idle z.mu) (sym (a.others r l (λ q. n (sym q)))) ∙ t), onward_other r s 0 d.on n)

  -- WHAT IT SENDS -------------------------------------------------------------------------------------------------------

  asks_no_join : SourceCycle k (source_of w s) d → sends_join d.on ≡ false
  asks_no_join (stays m n) = no_join d.on n
  asks_no_join (asks m n u) = n
  asks_no_join (answered u n) = no_join d.on n

  -- an entry is at hop 1 or behind
  sent_awaited : (o : Option Kind) → sends_join o ≡ false → Every (Awaited v) (onward_to s 0 o)
  sent_awaited None n = none
  sent_awaited (Some j) n =
      also {q = sent_from s 0 j}
      (record {
        new = λ t. absurd (clash (is_join j) t n);
        waits = λ t e l h m.
            absurd (omega (
              arith,
              m,
              front_source s j,
              hop_same w v s (a.paths s ls) e,
              (i.entry e s l ls (subst (λ (x : Place). Held x s) (a.places e l) h)).on_path,
            ));
      })
      none

  pub source_keeps_cycle : Cycle v
  source_keeps_cycle =
      cycle_after w v others sent a.packets ok awaited (λ r l n. (a.paths r l, λ e m h. same_stays w v r e (a.places e m) h))
      (λ r l. one r l (ℕ_discrete s r))
      (λ r l t. idle r l (ℕ_discrete s r) t)
      (sent_awaited d.on (asks_no_join did))
