-- The declaration of a link keeps the invariant.
-- Assumes nothing.
use mathlib.Core.List.{List, []}
use mathlib.Core.Path.{◌≡◌, ap, subst, sym, ◌∙◌}
use Prim.Native.Nat.{ℕ, ◌<◌, ◌≤◌}
use Rattle.fractions.specs.Fraction.{max_rate}
use Rattle.ends.specs.declared.Source.{Source}
use Rattle.events.specs.Events.{declare_of}
use Rattle.links.specs.declared.Place.{Place}
use Rattle.soundness.proofs.Holding.{nobody_held}
use Rattle.soundness.specs.Sound.{Held}
use Rattle.table.specs.Words.{hop_of, packets_of, place_of}
use Rattle.reachable.specs.Invariant.{AllFollowed, EntryOk, Inv, Reaches, active_in}
use Rattle.reachable.proofs.DeclareSteps.{Declared, declare_either}
use Rattle.reachable.proofs.Follows.{followed_same}
use Rattle.reachable.proofs.Kept.{entry_kept, one_or_other}
use Rattle.reachable.proofs.PacketLists.{every_map}
use Rattle.reachable.proofs.SafeRecords.{declared_safe}

module _ (w : List ℕ) (i : Inv w) (e : ℕ) (v : List ℕ) (a : Declared w e v) where
  active : (s : ℕ) → s < 32 → active_in v s ≡ active_in w s
  active s l = ap (λ (z : Source). z.active) (a.sources s l)

  stays : (f s : ℕ) → s < 32 → EntryOk w f s → EntryOk v f s
  stays f s l o =
      entry_kept w v f s (a.paths s l) o.on_path
      (λ t. subst (Reaches s (hop_of w s f)) (sym a.packets) (o.live (sym (active s l) ∙ t)))

  declared_kept : Inv v
  declared_kept = record {
    safe = declared_safe w i.safe e v a;
    entry = λ f s l k. one_or_other (λ (x : ℕ). Held (place_of v x) s → EntryOk v x s) e f
        (λ h. absurd (nobody_held (place_of v e) a.no_r a.no_f s h))
        (λ n h. stays f s k (i.entry f s l k (subst (λ (x : Place). Held x s) (a.elsewhere f l n) h)));
    joins = subst (AllFollowed (active_in v) []) (sym a.packets)
        (followed_same (active_in w) (active_in v) [] (packets_of w)
        (every_map (packets_of w) (λ q o. active q.session o.within.session) i.safe.packets) i.joins);
  }

pub declare_kept : (w : List ℕ) (e c : ℕ) → e < 64 → c ≤ max_rate → Inv w → Inv (declare_of w e c).words
declare_kept w e c le lc i = declare_either Inv w e c le lc i.safe i (λ v a. declared_kept w i e v a)
