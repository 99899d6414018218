-- A join keeps the invariant.
-- Assumes nothing.
use mathlib.Core.Bool.{true}
use mathlib.Core.List.{List, [], ◌∷◌}
use mathlib.Core.Path.{◌≡◌, ap, subst, sym, ◌∙◌}
use Prim.Native.Nat.{ℕ, ◌+◌, ◌<◌, ◌≤◌}
use lib.ListN.{length}
use Rattle.fractions.specs.Fraction.{max_rate}
use Rattle.ends.specs.declared.Source.{Source}
use Rattle.events.specs.Events.{join_of}
use Rattle.fractions.specs.declared.Rate.{Rate}
use Rattle.links.specs.declared.Place.{Place}
use Rattle.records.proofs.Somes.{clash}
use Rattle.records.specs.Format.{path_ok}
use Rattle.soundness.specs.Sound.{Held}
use Rattle.table.specs.Words.{hop_of, packets_of, place_of}
use Rattle.tasks.specs.declared.Packet.{Packet}
use Rattle.reachable.specs.Invariant.{AllFollowed, EntryOk, Inv, Reaches, active_in, end, next}
use Rattle.reachable.proofs.Follows.{followed_same}
use Rattle.reachable.proofs.JoinSteps.{Joined, join_either, no_entry_left, the_join}
use Rattle.reachable.proofs.Kept.{entry_kept, one_or_other}
use Rattle.reachable.proofs.LeavesAndChanges.{followed_append}
use Rattle.reachable.proofs.PacketLists.{every_both, every_map, some_left}
use Rattle.reachable.proofs.SafeRecords.{joined_safe}

module _ (w : List ℕ) (i : Inv w) (s : ℕ) (x : Rate) (v : List ℕ) (a : Joined w s x v) where
  abbrev sent : List Packet
  sent = the_join s x ∷ []

  other_active : (r : ℕ) → r < 32 → (r ≡ s → ⊥) → active_in v r ≡ active_in w r
  other_active r l m = ap (λ (y : Source). y.active) (a.sources r l m)

  stays : (e r : ℕ) → r < 32 → (r ≡ s → ⊥) → EntryOk w e r → EntryOk v e r
  stays e r l n o =
      entry_kept w v e r (a.paths r l n) o.on_path
      (λ t. subst (Reaches r (hop_of w r e)) (sym a.packets) (some_left (packets_of w) sent (o.live (sym (other_active r l n) ∙ t))))

  joined_kept : Inv v
  joined_kept = record {
    safe = joined_safe w i.safe s x v a;
    entry = λ e r l k h.
        let u = subst (λ (y : Place). Held y r) (a.places e l) h in
        one_or_other (λ (y : ℕ). Held (place_of w e) y → EntryOk v e y) s r (λ g. absurd (no_entry_left w s x v i a e l g))
        (λ n g. stays e r k n (i.entry e r l k g)) u;
    joins = subst (AllFollowed (active_in v) []) (sym a.packets)
        (followed_append (active_in v) w (packets_of w) sent i.safe.packets
        (followed_same (active_in w) (active_in v) [] (packets_of w)
        (every_map (packets_of w) (λ q u. other_active q.session u.0.within.session u.1) (every_both (packets_of w) i.safe.packets a.no_packet))
        i.joins)
        (λ c f. next (λ j t. absurd (clash (active_in v s) a.active t)) end));
  }

pub join_kept : (bytes w : List ℕ) (s access maximum n at : ℕ) → s < 32 → 0 < access → access ≤ max_rate → maximum ≤ max_rate → path_ok bytes at n ≡ true
    → at + 8 ≤ length bytes
    → Inv w
    → Inv (join_of bytes w s access maximum n at).words
join_kept bytes w s access maximum n at ls a0 a1 m1 ok whole i =
    join_either Inv bytes w s access maximum n at ls a0 a1 m1 ok whole i.safe i (λ x v a. joined_kept w i s x v a)
