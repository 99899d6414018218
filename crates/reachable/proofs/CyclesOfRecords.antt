-- A join, a leave, a change of a maximum and the declaration of a link keep the law of probe cycles, and the empty table has it.
-- Assumes nothing.
use Rattle.std.specs.Prelude.{Option, Some}
use mathlib.Core.Bool.{true}
use mathlib.Core.List.{List, [], append-nil}
use mathlib.Core.Path.{◌≡◌, ap, refl, subst, sym, ◌∙◌}
use Prim.Native.Nat.{ℕ, ◌+◌, ◌<◌, ◌≤◌}
use native.Mathlib.Decide.{ℕ_discrete}
use native.Mathlib.Omega.{arith}
use lib.ListN.{length}
use Rattle.fractions.specs.Fraction.{max_rate}
use Rattle.ends.specs.declared.Source.{Source}
use Rattle.ends.specs.Figure3.{changing_of, leaving_of}
use Rattle.events.specs.Events.{change_of, declare_of, join_of, leave_of}
use Rattle.fractions.specs.declared.Rate.{Rate}
use Rattle.links.specs.declared.Place.{Place}
use Rattle.links.specs.Links.{is_idle}
use Rattle.records.proofs.Somes.{clash}
use Rattle.records.specs.Format.{path_ok}
use Rattle.soundness.proofs.Holding.{nobody_held}
use Rattle.soundness.specs.ProbeCycle.{Waiting, is_response}
use Rattle.soundness.specs.Sound.{Held}
use Rattle.table.specs.Words.{empty_words, packets_of, place_of, source_of}
use Rattle.table.proofs.Empty.{empty_packets}
use Rattle.tasks.specs.declared.Eta.TheVariants as eta
use Rattle.tasks.specs.declared.Kind.{Kind}
use Rattle.tasks.specs.declared.Kind.TheVariants as kind
use Rattle.tasks.specs.declared.Packet.{Packet}
use Rattle.reachable.specs.Cycle.{Awaited, Cycle, cycles_of}
use Rattle.reachable.specs.Invariant.{Every, Inv, Safe, also, none}
use Rattle.reachable.proofs.CycleCounts.{no_cycles, onward_most, onward_other}
use Rattle.reachable.proofs.CycleFrame.{Stays, cycle_after, same_stays}
use Rattle.reachable.proofs.CyclesAtSources.{source_keeps_cycle}
use Rattle.reachable.proofs.DeclareSteps.{Declared, declare_either}
use Rattle.reachable.proofs.JoinSteps.{Joined, join_either, no_entry_left, the_join}
use Rattle.reachable.proofs.Kept.{one_or_other}
use Rattle.reachable.proofs.Sends.{onward_to}
use Rattle.reachable.proofs.SessionSteps.{change_either, leave_either}
use Rattle.reachable.proofs.SourceCycles.{changing_cycle, leaving_cycle}

-- LEAVE AND CHANGE ----------------------------------------------------------------------------------------------------

-- no packet came, so no Response did: an Update stands for none
abbrev no_response : Kind
no_response = kind.Update

pub leave_cycle : (w : List ℕ) (s : ℕ) → s < 32 → Inv w → Cycle w → Cycle (leave_of w s).words
leave_cycle w s ls i c =
    leave_either Cycle w s ls i.safe c
    (λ active v a.
    source_keeps_cycle w i c s ls no_response (leaving_of (source_of w s)) (leaving_cycle no_response (source_of w s)) (packets_of w) v a i.safe.packets
    c.awaited (λ r. omega arith) (λ t. absurd (clash (is_response no_response) t refl)))

pub change_cycle : (w : List ℕ) (s m : ℕ) → s < 32 → m ≤ max_rate → Inv w → Cycle w → Cycle (change_of w s m).words
change_cycle w s m ls lm i c =
    change_either Cycle w s ls i.safe c m lm
    (λ active v done a.
    source_keeps_cycle w i c s ls no_response (changing_of (source_of w s) m) (changing_cycle no_response (source_of w s) m) (packets_of w) v a i.safe.packets
    c.awaited (λ r. omega arith) (λ t. absurd (clash (is_response no_response) t refl)))

-- JOIN ----------------------------------------------------------------------------------------------------------------

module _ (w : List ℕ) (i : Inv w) (c : Cycle w) (s : ℕ) (x : Rate) (v : List ℕ) (a : Joined w s x v) where
  abbrev sends : Option Kind
  sends = Some (kind.Join x eta.Own)

  abbrev sent : List Packet
  sent = onward_to s 0 sends

  none_left : cycles_of s (packets_of w) ≡ 0
  none_left = no_cycles s (packets_of w) a.no_packet

  one : (r : ℕ) → r < 32 → Dec (s ≡ r) → cycles_of r (packets_of w) + cycles_of r sent ≤ 1
  one r l (yes q) = subst (λ (y : ℕ). cycles_of y (packets_of w) + cycles_of y sent ≤ 1) q (omega (arith, none_left, onward_most s s 0 sends))
  one r l (no n) = omega (arith, c.one r l, onward_other r s 0 sends n)

  idle : (r : ℕ) → r < 32 → Dec (s ≡ r) → is_idle (source_of v r).mu ≡ true → cycles_of r (packets_of w) + cycles_of r sent ≡ 0
  idle r l (yes q) t = absurd (clash (is_idle (source_of v s).mu) (ap (λ (y : ℕ). is_idle (source_of v y).mu) q ∙ t) a.waits)
  idle r l (no n) t =
      omega (
        arith,
        c.idle r l (ap (λ (z : Source). is_idle z.mu) (sym (a.sources r l (λ q. n (sym q)))) ∙ t),
        onward_other r s 0 sends n,
      )

  other : (r : ℕ) → 0 < cycles_of r (packets_of w) → r ≡ s → ⊥
  other r n q = omega (arith, n, none_left, ap (λ (y : ℕ). cycles_of y (packets_of w)) q)

  no_entry_lem : (e : ℕ) → e < 64 → Held (place_of v e) s → ⊥
  no_entry_lem e l h = no_entry_left w s x v i a e l (subst (λ (y : Place). Held y s) (a.places e l) h)

  joined_cycle : Cycle v
  joined_cycle =
      cycle_after w v (packets_of w) sent a.packets i.safe.packets c.awaited
      (λ r l n. (a.paths r l (other r n), λ e m h. same_stays w v r e (a.places e m) h))
      (λ r l. one r l (ℕ_discrete s r))
      (λ r l t. idle r l (ℕ_discrete s r) t)
      (also {q = the_join s x} (record { new = λ t e l h. absurd (no_entry_lem e l h); waits = λ t e l h n. absurd (no_entry_lem e l h) }) none)

pub join_cycle : (bytes w : List ℕ) (s access maximum n at : ℕ) → s < 32 → 0 < access → access ≤ max_rate → maximum ≤ max_rate → path_ok bytes at n ≡ true
    → at + 8 ≤ length bytes
    → Inv w
    → Cycle w
    → Cycle (join_of bytes w s access maximum n at).words
join_cycle bytes w s access maximum n at ls a0 a1 m1 ok whole i c =
    join_either Cycle bytes w s access maximum n at ls a0 a1 m1 ok whole i.safe c (λ x v a. joined_cycle w i c s x v a)

-- DECLARE -------------------------------------------------------------------------------------------------------------

module _ (w : List ℕ) (i : Safe w) (c : Cycle w) (e : ℕ) (v : List ℕ) (a : Declared w e v) where
  stays : (r : ℕ) → Stays w v r
  stays r f l =
      one_or_other (λ (x : ℕ). Held (place_of v x) r → Held (place_of w x) r × (Waiting (place_of w x) r → Waiting (place_of v x) r)) e f
      (λ h. absurd (nobody_held (place_of v e) a.no_r a.no_f r h))
      (λ n h. same_stays w v r f (a.elsewhere f l n) h)

  declared_cycle : Cycle v
  unfolding cycles_of
  declared_cycle =
      cycle_after w v (packets_of w) [] (a.packets ∙ sym (append-nil (packets_of w))) i.packets c.awaited (λ r l n. (a.paths r l, stays r))
      (λ r l. omega (arith, c.one r l))
      (λ r l t. omega (arith, c.idle r l (ap (λ (z : Source). is_idle z.mu) (sym (a.sources r l)) ∙ t)))
      none

pub declare_cycle : (w : List ℕ) (e c : ℕ) → e < 64 → c ≤ max_rate → Safe w → Cycle w → Cycle (declare_of w e c).words
declare_cycle w e c le lc i k = declare_either Cycle w e c le lc i k (λ v a. declared_cycle w i k e v a)

-- THE EMPTY TABLE -----------------------------------------------------------------------------------------------------

pub empty_cycle : Cycle empty_words
unfolding cycles_of
empty_cycle =
    let n : (s : ℕ) → cycles_of s (packets_of empty_words) ≡ 0 = λ s. ap (cycles_of s) empty_packets in
    record {
      one = λ s l. omega (arith, n s);
      idle = λ s l t. n s;
      awaited = subst (Every (Awaited empty_words)) (sym empty_packets) none;
    }
