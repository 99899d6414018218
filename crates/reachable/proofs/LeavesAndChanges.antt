-- A leave and a change of a maximum keep the invariant.
-- Assumes nothing.
use mathlib.Core.Bool.{Bool, false, true}
use mathlib.Core.List.{List, [], ◌∷◌, ◌++◌}
use mathlib.Core.Logic.{◌⊎◌, inl, inr}
use mathlib.Core.Path.{◌≡◌, ap, refl, subst, sym, ◌∙◌}
use Prim.Native.Nat.{ℕ, ◌-◌, ◌<◌, ◌≤◌}
use native.Mathlib.Decide.{ℕ_discrete}
use native.Mathlib.Omega.{arith}
use Rattle.fractions.specs.Fraction.{max_rate}
use Rattle.ends.specs.declared.Source.{Source}
use Rattle.ends.specs.Figure3.{changing_of, leaving_of}
use Rattle.events.specs.Events.{change_of, leave_of}
use Rattle.records.proofs.Somes.{clash}
use Rattle.soundness.specs.LinkDid.{is_join}
use Rattle.table.specs.Words.{packets_of, source_of}
use Rattle.tasks.specs.declared.Kind.TheVariants as kind
use Rattle.tasks.specs.declared.Packet.{Packet}
use Rattle.reachable.specs.Invariant.{AllFollowed, Every, Inv, PacketOk, Reaches, active_in, also, end, here, next, none}
use Rattle.reachable.proofs.Follows.{followed_behind}
use Rattle.reachable.proofs.Kept.{one_or_other}
use Rattle.reachable.proofs.LinesFrame.{inv_packets, inv_sources}
use Rattle.reachable.proofs.PacketLists.{every_map, some_left, some_right}
use Rattle.reachable.proofs.SafeRecords.{changing_safe, leaving_safe}
use Rattle.reachable.proofs.Sends.{onward_to}
use Rattle.reachable.proofs.SentPackets.{join_on_path, last_of, onward_followed}
use Rattle.reachable.proofs.SessionSteps.{SessionAfter, change_either, leave_either, the_leave}
use Rattle.reachable.proofs.SourceRules.{SourceDone, down_kind}
use Rattle.reachable.proofs.SourceWrites.{active_same}

-- WHAT IS SENT WHERE NOTHING IS TAKEN OUT -----------------------------------------------------------------------------

-- no Leave
no_leave_lem : Packet
no_leave_lem = record { session = 0; hop = 0; down = false; kind = kind.Update }

pub followed_append : (active : ℕ → Bool) (w : List ℕ) (l sent : List Packet) → Every (PacketOk w) l → AllFollowed active [] l
    → ((c : List Packet) → ((s h : ℕ) → Reaches s h l → Reaches s h c) → AllFollowed active c sent)
    → AllFollowed active [] (l ++ sent)
unfolding no_leave_lem
followed_append active w l sent e a f =
    followed_behind active (last_of w) no_leave_lem sent (λ h t m n. absurd (clash false t refl)) [] [] l (λ s h u. inl u) (every_map l (join_on_path w) e) a
    (λ c u v. f c v)

-- LEAVE ---------------------------------------------------------------------------------------------------------------

leave_here : (s h : ℕ) → 0 < h → Reaches s h (the_leave s ∷ [])
leave_here s h p = here {q = the_leave s} (record { leave = refl; session = refl; hop = omega arith })

-- it follows every Join of the session
followed_leave : (f g : ℕ → Bool) (s : ℕ) (w : List ℕ) (b l : List Packet) → ((r : ℕ) → r < 32 → (r ≡ s → ⊥) → g r ≡ f r) → Every (PacketOk w) l
    → AllFollowed f b l
    → AllFollowed g b (l ++ the_leave s ∷ [])
followed_leave f g s w b [] h none end = next (λ j n. absurd (clash false j refl)) end
followed_leave f g s w b (q ∷ l) h (also o e) (next k c) =
    next (λ j n. go j n (ℕ_discrete q.session s)) (followed_leave f g s w (q ∷ b) l h e c)
  where
    old : Reaches q.session (q.hop - 1) b ⊎ Reaches q.session q.hop l
        → Reaches q.session (q.hop - 1) b ⊎ Reaches q.session q.hop (l ++ the_leave s ∷ [])
    old (inl u) = inl u
    old (inr u) = inr (some_left l (the_leave s ∷ []) u)

    go : is_join q.kind ≡ true → g q.session ≡ false → Dec (q.session ≡ s)
        → Reaches q.session (q.hop - 1) b ⊎ Reaches q.session q.hop (l ++ the_leave s ∷ [])
    go j n (yes x) =
        inr (some_right l (the_leave s ∷ [])
        (subst (λ (r : ℕ). Reaches r q.hop (the_leave s ∷ [])) (sym x) (leave_here s q.hop ((join_on_path w q o).on j).0)))
    go j n (no x) = old (k j (sym (h q.session o.within.session x) ∙ n))

module _ (w : List ℕ) (s : ℕ) (ls : s < 32) (i : Inv w) (active : active_in w s ≡ true) (v : List ℕ) where
  abbrev sent : List Packet
  sent = the_leave s ∷ []

  leaving_kept : SessionAfter w s (leaving_of (source_of w s)) v → Inv v
  unfolding leaving_of
  leaving_kept a =
      inv_sources w v i (leaving_safe w s ls i.safe active v a) a.places a.paths
      (λ r h l p m live t. subst (Reaches r h) (sym a.packets) (reaches r h l p live t))
      (subst (AllFollowed (active_in v) []) (sym a.packets) (followed_leave (active_in w) (active_in v) s w [] (packets_of w) other i.safe.packets i.joins))
    where
      other : (r : ℕ) → r < 32 → (r ≡ s → ⊥) → active_in v r ≡ active_in w r
      other r l n = ap (λ (y : Source). y.active) (a.others r l n)

      reaches : (r h : ℕ) → r < 32 → 0 < h → (active_in w r ≡ false → Reaches r h (packets_of w)) → active_in v r ≡ false → Reaches r h (packets_of w ++ sent)
      reaches r h l p live t =
          one_or_other (λ (x : ℕ). Reaches x h (packets_of w ++ sent)) s r (some_right (packets_of w) sent (leave_here s h p))
          (λ n. some_left (packets_of w) sent (live (sym (other r l n) ∙ t)))

  changing_kept : (m : ℕ) → SourceDone (source_of w s) (changing_of (source_of w s) m) → SessionAfter w s (changing_of (source_of w s) m) v → Inv v
  changing_kept m done a =
      let d = changing_of (source_of w s) m in
      let l = onward_to s 0 d.on in
      inv_packets w v i (changing_safe w s ls i.safe active v m done a) a.places a.paths (active_same a done.active)
      (λ r h n m x. subst (Reaches r h) (sym a.packets) (some_left (packets_of w) l x))
      (subst (AllFollowed (active_in w) []) (sym a.packets)
      (followed_append (active_in w) w (packets_of w) l i.safe.packets i.joins
      (λ c f. onward_followed (active_in w) s 0 down_kind d.on c done.on (λ t b. absurd (clash (is_join down_kind) t refl)))))

pub leave_kept : (w : List ℕ) (s : ℕ) → s < 32 → Inv w → Inv (leave_of w s).words
leave_kept w s ls i = leave_either Inv w s ls i.safe i (λ active v a. leaving_kept w s ls i active v a)

pub change_kept : (w : List ℕ) (s m : ℕ) → s < 32 → m ≤ max_rate → Inv w → Inv (change_of w s m).words
change_kept w s m ls lm i = change_either Inv w s ls i.safe i m lm (λ active v done a. changing_kept w s ls i active v m done a)
