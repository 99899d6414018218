-- What keeps a table safe: each link that is written is sound, within refusal 12 and as declared as it was, and paths and packets stay in order.
-- Assumes nothing.
use mathlib.Core.Bool.{true}
use mathlib.Core.List.{List}
use mathlib.Core.Path.{◌≡◌, subst, sym}
use Prim.Native.Nat.{ℕ, ◌<◌}
use Rattle.links.specs.declared.Place.{Place}
use Rattle.links.specs.Links.{B, is_fine}
use Rattle.soundness.specs.Sound.{Sound}
use Rattle.table.specs.Words.{hops_of, link_of, packets_of, path_of, place_of, stop_of}
use Rattle.table.proofs.InRange.{stop_below}
use Rattle.tasks.specs.declared.Packet.{Packet}
use Rattle.reachable.specs.Invariant.{Every, Fits, PacketOk, Safe, SourceOk, active_in}
use Rattle.reachable.proofs.Kept.{one_or_other, packet_kept, source_kept}
use Rattle.reachable.proofs.PacketLists.{every_map}

-- what a step is to leave of link e
pub record LinkKept (w v : List ℕ) (e : ℕ) : Type 0 where
  pub sound : Sound (place_of v e)
  pub fine : is_fine (B (place_of v e)) ≡ true
  pub declared : 0 < (link_of w e).capacity → 0 < (link_of v e).capacity

module _ (w v : List ℕ) (o : Safe w) where
  -- a link that is as it was
  pub link_same : (e : ℕ) → e < 64 → place_of v e ≡ place_of w e → LinkKept w v e
  link_same e l q = record {
    sound = subst Sound (sym q) (o.place e l);
    fine = subst (λ (x : Place). is_fine (B x) ≡ true) (sym q) (o.fine e l);
    declared = λ c. subst (λ (x : Place). 0 < x.link.capacity) (sym q) c;
  }

  -- all links but e are as they were
  pub links_but : (e : ℕ) → LinkKept w v e → ((f : ℕ) → f < 64 → (f ≡ e → ⊥) → place_of v f ≡ place_of w f) → (f : ℕ) → f < 64 → LinkKept w v f
  links_but e k same f l = one_or_other (LinkKept w v) e f k (λ n. link_same f l (same f l n))

  module _ (fits : Fits v) (links : (e : ℕ) → e < 64 → LinkKept w v e) where
    -- a session that keeps its path
    pub path_same : (s : ℕ) → s < 32 → path_of v s ≡ path_of w s → (active_in v s ≡ true → 0 < hops_of w s) → SourceOk v s
    path_same s l q joined = source_kept w v s q joined (λ j m c. (links (stop_of w s j) (stop_below w s j)).declared c) (o.source s l)

    pub safe_after : ((s : ℕ) → s < 32 → SourceOk v s) → Every (PacketOk v) (packets_of v) → Safe v
    safe_after sources packets = record {
      fits = fits;
      place = λ e l. (links e l).sound;
      fine = λ e l. (links e l).fine;
      source = sources;
      packets = packets;
    }

    -- where all sessions keep their paths
    pub safe_same_paths : ((s : ℕ) → s < 32 → path_of v s ≡ path_of w s) → ((s : ℕ) → s < 32 → active_in v s ≡ true → 0 < hops_of w s) → (l : List Packet)
        → packets_of v ≡ l
        → Every (PacketOk w) l
        → Safe v
    safe_same_paths paths joined l is ok =
        safe_after (λ s k. path_same s k (paths s k) (joined s k))
        (subst (Every (PacketOk v)) (sym is) (every_map l (λ q u. packet_kept w v q (paths q.session u.within.session) u) ok))
