-- Every record keeps a table safe, whether it is taken or refused: `Safe` (specs/Invariant.antt) is inductive by itself, whatever stands behind a
-- Join.
-- Assumes nothing.
use mathlib.Core.Bool.{true}
use mathlib.Core.List.{List, [], ◌∷◌, ◌++◌}
use mathlib.Core.Path.{◌≡◌, ap, subst, sym, ◌∙◌}
use Prim.Native.Nat.{ℕ, ◌<◌, ◌≤◌}
use native.Mathlib.Omega.{arith}
use Rattle.ends.specs.declared.Source.{Source}
use Rattle.ends.specs.declared.SourceDid.{SourceDid}
use Rattle.ends.specs.Figure3.{changing_of, leaving_of}
use Rattle.events.specs.Events.{event_of}
use Rattle.fractions.specs.declared.Rate.{Rate}
use Rattle.links.specs.declared.Place.{Place}
use Rattle.links.specs.Links.{B, is_fine}
use Rattle.records.specs.declared.Record.{Record}
use Rattle.records.specs.declared.Record.TheVariants as rec
use Rattle.records.specs.Format.{RecordOk}
use Rattle.soundness.specs.Sound.{Sound}
use Rattle.table.specs.Words.{count_of, hops_of, packet_of, packets_of, source_of}
use Rattle.table.proofs.Workables.{place_workable}
use Rattle.tasks.specs.declared.Packet.{Packet}
use Rattle.reachable.specs.Invariant.{Every, PacketOk, Safe, SourceOk, active_in, also, none}
use Rattle.reachable.proofs.DeclareSteps.{Declared, declare_either, empty_fine, empty_sound}
use Rattle.reachable.proofs.Deliveries.{packet_at, rest, rest_ok}
use Rattle.reachable.proofs.EndSteps.{EndAfter, SourceAfter, deliver_either, end_sent_ok, sent_by_end, sent_by_source, source_sent_ok}
use Rattle.reachable.proofs.JoinSteps.{Joined, join_either, the_join}
use Rattle.reachable.proofs.Kept.{one_or_other, packet_kept}
use Rattle.reachable.proofs.LinkSteps.{LinkAfter, link_below, link_did, link_sent_ok, link_at, link_does, sent_by_link}
use Rattle.reachable.proofs.PacketLists.{every_append, every_both, every_map}
use Rattle.reachable.proofs.SafeFrame.{LinkKept, link_same, links_but, path_same, safe_after, safe_same_paths}
use Rattle.reachable.proofs.Sends.{onward_to}
use Rattle.reachable.proofs.SessionSteps.{SessionAfter, change_either, changed_ok, leave_either, leave_ok}
use Rattle.reachable.proofs.SourceRules.{SourceDone}
use Rattle.reachable.proofs.SourceWrites.{Written}

-- A SOURCE IS WRITTEN, AND SENDS --------------------------------------------------------------------------------------

written_safe : (w : List ℕ) (s : ℕ) (z : Source) (others sent : List Packet) (v : List ℕ) → Safe w → Written w s z others sent v → 0 < hops_of w s
    → Every (PacketOk w) others
    → Every (PacketOk w) sent
    → Safe v
written_safe w s z others sent v o a known ok new =
    safe_same_paths w v o a.fits (λ e l. link_same w v o e l (a.places e l)) a.paths
    (λ r l. one_or_other (λ (x : ℕ). active_in v x ≡ true → 0 < hops_of w x) s r (λ t. known)
    (λ n t. (o.source r l).joined (ap (λ (y : Source). y.active) (sym (a.others r l n)) ∙ t)))
    (others ++ sent) a.packets (every_append others sent ok new)

-- DELIVERIES ----------------------------------------------------------------------------------------------------------

-- packet p stands at place j
module _ (w : List ℕ) (j : ℕ) (o : Safe w) (h : j < count_of w) (v : List ℕ) where
  abbrev p : Packet
  p = packet_of w j

  pub source_safe : SourceAfter w p (rest w j) v → Safe v
  source_safe a =
      written_safe w p.session _ (rest w j) (sent_by_source w p) v o a (packet_at w j o h).known (rest_ok w j o h) (source_sent_ok w j o h)

  pub end_safe : hops_of w p.session < p.hop → EndAfter w p (rest w j) v → Safe v
  end_safe far a =
      safe_same_paths w v o a.fits (λ e l. link_same w v o e l (a.lines.place e l)) a.lines.path
      (λ s l t. (o.source s l).joined (ap (λ (z : Source). z.active) (sym (a.lines.source s l)) ∙ t))
      (rest w j ++ sent_by_end p) a.packets (every_append (rest w j) (sent_by_end p) (rest_ok w j o h) (end_sent_ok w j o h far))

  pub link_safe : 0 < p.hop → p.hop ≤ hops_of w p.session → (link_does w p).fine ≡ true → LinkAfter w p (rest w j) v → Safe v
  link_safe low high fine a =
      let e = link_at w p in
      let did = link_did w j o h low high in
      safe_same_paths w v o a.fits
      (links_but w v o e
      (record {
        sound = subst Sound (sym a.here) did.sound;
        fine = subst (λ (x : Place). is_fine (B x) ≡ true) (sym a.here) (did.fine fine (o.fine e (link_below w j o h low high)));
        declared = λ c. omega (arith, c, did.capacity, ap (λ (x : Place). x.link.capacity) a.here);
      })
      a.elsewhere)
      a.paths (λ s l t. (o.source s l).joined (ap (λ (z : Source). z.active) (sym (a.sources s l)) ∙ t))
      (rest w j ++ sent_by_link w p) a.packets (every_append (rest w j) (sent_by_link w p) (rest_ok w j o h) (link_sent_ok w j o h low high))

-- LEAVE AND CHANGE ----------------------------------------------------------------------------------------------------

module _ (w : List ℕ) (s : ℕ) (ls : s < 32) (o : Safe w) (active : active_in w s ≡ true) (v : List ℕ) where
  session_safe : (d : SourceDid) → SessionAfter w s d v → Every (PacketOk w) (onward_to s 0 d.on) → Safe v
  session_safe d a ok = written_safe w s d.source (packets_of w) (onward_to s 0 d.on) v o a ((o.source s ls).joined active) o.packets ok

  pub leaving_safe : SessionAfter w s (leaving_of (source_of w s)) v → Safe v
  unfolding leaving_of
  leaving_safe a = session_safe (leaving_of (source_of w s)) a (leave_ok w s o ls active)

  pub changing_safe : (m : ℕ) → SourceDone (source_of w s) (changing_of (source_of w s) m) → SessionAfter w s (changing_of (source_of w s) m) v → Safe v
  changing_safe m done a = let d = changing_of (source_of w s) m in session_safe d a (changed_ok w s o ls active d done)

-- JOIN ----------------------------------------------------------------------------------------------------------------

pub joined_safe : (w : List ℕ) → Safe w → (s : ℕ) (x : Rate) (v : List ℕ) → Joined w s x v → Safe v
joined_safe w o s x v a =
    let same : (e : ℕ) → e < 64 → LinkKept w v e = λ e l. link_same w v o e l (a.places e l) in
    safe_after w v o a.fits same
    (λ r l. one_or_other (SourceOk v) s r a.path
    (λ n. path_same w v o a.fits same r l (a.paths r l n)
    (λ t. (o.source r l).joined (ap (λ (y : Source). y.active) (sym (a.sources r l n)) ∙ t))))
    (subst (Every (PacketOk v)) (sym a.packets)
    (every_append (packets_of w) (the_join s x ∷ [])
    (every_map (packets_of w) (λ q u. packet_kept w v q (a.paths q.session u.0.within.session u.1) u.0)
    (every_both (packets_of w) o.packets a.no_packet))
    (also a.join none)))

-- DECLARE -------------------------------------------------------------------------------------------------------------

pub declared_safe : (w : List ℕ) → Safe w → (e : ℕ) (v : List ℕ) → Declared w e v → Safe v
declared_safe w o e v a =
    safe_same_paths w v o a.fits
    (links_but w v o e
    (record {
      sound = empty_sound _ a.no_r a.no_f (place_workable v e);
      fine = empty_fine _ a.no_r a.no_f;
      declared = λ c. absurd (omega (arith, c, a.new));
    })
    a.elsewhere)
    a.paths (λ s l t. (o.source s l).joined (ap (λ (z : Source). z.active) (sym (a.sources s l)) ∙ t))
    (packets_of w) a.packets o.packets

-- EVERY RECORD --------------------------------------------------------------------------------------------------------

pub event_safe : (s w : List ℕ) (x : Record) → RecordOk s x → Safe w → Safe (event_of s w x).words
unfolding event_of
event_safe s w (rec.Link e capacity) k o = declare_either Safe w e capacity k.0 k.2 o o (λ v a. declared_safe w o e v a)
event_safe s w (rec.Session r) k o =
    join_either Safe s w r.session r.access r.maximum r.size r.path k.0 k.1 k.2 k.3 k.4 k.5 o o (λ x v a. joined_safe w o r.session x v a)
event_safe s w (rec.Leave t) k o = leave_either Safe w t k o o (λ active v a. leaving_safe w t k o active v a)
event_safe s w (rec.Change t maximum) k o =
    change_either Safe w t k.0 o o maximum k.1 (λ active v done a. changing_safe w t k.0 o active v maximum done a)
event_safe s w (rec.Deliver position) k o =
    deliver_either Safe w position o o
    (λ h turn. record {
      at_source = λ zero-hop v a. source_safe w position o h v a;
      at_destination = λ far v a. end_safe w position o h v far a;
      at_link = λ low high v fine a. link_safe w position o h v low high fine a;
    })
