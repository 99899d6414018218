-- What keeps the invariant where links and paths stay: sources and packets alone change.
-- Assumes nothing.
use mathlib.Core.Bool.{false}
use mathlib.Core.List.{List, []}
use mathlib.Core.Path.{◌≡◌, subst, sym, ◌∙◌}
use Prim.Native.Nat.{ℕ, ◌<◌, ◌≤◌}
use Rattle.links.specs.declared.Place.{Place}
use Rattle.soundness.specs.Sound.{Held}
use Rattle.table.specs.Words.{hop_of, hops_of, packets_of, path_of, place_of}
use Rattle.reachable.specs.Invariant.{AllFollowed, Inv, Reaches, Safe, active_in}
use Rattle.reachable.proofs.Follows.{followed_same}
use Rattle.reachable.proofs.Kept.{entry_kept, hop_on}
use Rattle.reachable.proofs.PacketLists.{every_map}

module _ (w v : List ℕ) (i : Inv w) (safe : Safe v) (places : (e : ℕ) → e < 64 → place_of v e ≡ place_of w e)
    (paths : (s : ℕ) → s < 32 → path_of v s ≡ path_of w s) where
  -- who is active may change, if the Leaves that are wanted then are there
  pub inv_sources : ((s h : ℕ) → s < 32 → 0 < h → h ≤ hops_of w s → (active_in w s ≡ false → Reaches s h (packets_of w)) → active_in v s ≡ false → Reaches s h (packets_of v))
      → AllFollowed (active_in v) [] (packets_of v)
      → Inv v
  inv_sources live joins = record {
    safe = safe;
    entry = λ e s l k h.
        let o = i.entry e s l k (subst (λ (x : Place). Held x s) (places e l) h) in
        entry_kept w v e s (paths s k) o.on_path (live s (hop_of w s e) k o.on_path (hop_on w s e o.on_path).upto o.live);
    joins = joins;
  }

  -- who is active stays
  pub inv_packets : ((s : ℕ) → s < 32 → active_in v s ≡ active_in w s)
      → ((s h : ℕ) → s < 32 → h ≤ hops_of w s → Reaches s h (packets_of w) → Reaches s h (packets_of v))
      → AllFollowed (active_in w) [] (packets_of v)
      → Inv v
  inv_packets same reaches joins =
      inv_sources (λ s h l p m live a. reaches s h l m (live (sym (same s l) ∙ a)))
      (followed_same (active_in w) (active_in v) [] (packets_of v)
      (every_map (packets_of v) (λ q o. same q.session o.within.session) safe.packets) joins)
