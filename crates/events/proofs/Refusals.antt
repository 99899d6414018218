-- A refused record leaves the words as they were.
-- Assumes nothing.
use Rattle.std.specs.Prelude.{Err}
use mathlib.Core.Bool.{Bool, cond, false, true, ◌&&◌}
use mathlib.Core.List.{List}
use mathlib.Core.Path.{◌≡◌, refl, sym}
use Prim.Native.Nat.{ℕ, ◌+◌, ◌-◌}
use lib.Dec.{eqb, ltb}
use Rattle.ends.specs.declared.SourceDid.{SourceDid}
use Rattle.ends.specs.Figure3.{changing_of, joining_of, leaving_of, source_step_of}
use Rattle.ends.specs.Figure4.{destination_step_of}
use Rattle.records.specs.Limits.{above_line}
use Rattle.records.specs.declared.Record.{Record}
use Rattle.records.specs.declared.Record.TheVariants as rec
use Rattle.records.specs.declared.Refusal.{Refusal}
use Rattle.records.proofs.Refusing.{not_ok}
use Rattle.table.specs.Words.{count_of, declared_in, hops_of, packet_of, place_of, put_hops, put_path, source_of, stop_of}
use Rattle.sessions.specs.Set.{size_of}
use Rattle.tasks.specs.declared.Packet.{Packet}
use Rattle.tasks.specs.Figure2.{link_step_of}
use Rattle.sending.specs.Sending.{in_turn_of, none_of, on_path_of, one_if}
use Rattle.events.specs.Events.{Step, arrive_of, at_destination_of, at_link_of, at_source_of, change_of, declare_of, deliver_of, event_of, join_of, leave_of, path_declared_in, refusing, source_sends, taking, unless_many}

-- the step ends with the words w where it is refused
record Keeps (w : List ℕ) (x : Step) : Type 0 where
  kept : (r : Refusal) → x.verdict ≡ Err r → x.words ≡ w

refuses : (w : List ℕ) (r : Refusal) → Keeps w (refusing r w)
refuses w r = record { kept = λ q e. refl }

takes : (w v : List ℕ) → Keeps w (taking v)
takes w v = record { kept = λ r e. absurd (not_ok r tt (sym e)) }

either : (w : List ℕ) (t : Bool) (x y : Step) → Keeps w x → Keeps w y → Keeps w (cond t x y)
either w true x y k l = k
either w false x y k l = l

many : (n : ℕ) (w v : List ℕ) → Keeps w (unless_many n w v)
many n w v = either w (ltb 256 n) (refusing _ w) (taking v) (refuses w _) (takes w v)

-- DELIVERY ------------------------------------------------------------------------------------------------------------

at_link : (w : List ℕ) (i : ℕ) (p : Packet) (e : ℕ) → Keeps w (at_link_of w i p e)
unfolding at_link_of
at_link w i p e =
    let d = link_step_of e p.session p.kind (place_of w e) in
    either w d.fine _ _ (many (count_of w - 1 + size_of (on_path_of w e d.to) + one_if d.on) w _) (refuses w _)

at_source : (w : List ℕ) (i : ℕ) (p : Packet) → Keeps w (at_source_of w i p)
unfolding at_source_of
at_source w i p = many (count_of w - 1 + one_if (source_step_of p.kind (source_of w p.session)).on) w _

at_destination : (w : List ℕ) (i : ℕ) (p : Packet) → Keeps w (at_destination_of w i p)
unfolding at_destination_of
at_destination w i p = many (count_of w - 1 + one_if (destination_step_of p.kind)) w _

arrives : (w : List ℕ) (i : ℕ) (p : Packet) → Keeps w (arrive_of w i p)
unfolding arrive_of
arrives w i p =
    either w (eqb p.hop 0) _ _ (at_source w i p)
    (either w (ltb (hops_of w p.session) p.hop) _ _ (at_destination w i p) (at_link w i p (stop_of w p.session (p.hop - 1))))

delivers : (w : List ℕ) (i : ℕ) → Keeps w (deliver_of w i)
unfolding deliver_of
delivers w i = either w (ltb i (count_of w) && in_turn_of w i) _ _ (arrives w i (packet_of w i)) (refuses w _)

-- LINKS AND SESSIONS --------------------------------------------------------------------------------------------------

declares : (w : List ℕ) (e c : ℕ) → Keeps w (declare_of w e c)
unfolding declare_of
declares w e c = either w (declared_in w e) _ _ (refuses w _) (takes w _)

sends : (w v : List ℕ) (t : ℕ) (d : SourceDid) → Keeps w (source_sends w v t d)
unfolding source_sends
sends w v t d = many (count_of w + one_if d.on) w _

joins : (s w : List ℕ) (t access maximum n at : ℕ) → Keeps w (join_of s w t access maximum n at)
unfolding join_of
joins s w t access maximum n at =
    either w (source_of w t).active _ _ (refuses w _)
    (either w (above_line access maximum) _ _ (refuses w _)
    (either w (path_declared_in w s at n) _ _
    (either w (none_of w t (count_of w)) _ _ (sends w (put_hops (put_path w t s at) t n) t (joining_of access maximum)) (refuses w _))
    (refuses w _)))

leaves : (w : List ℕ) (t : ℕ) → Keeps w (leave_of w t)
unfolding leave_of
leaves w t = either w (source_of w t).active _ _ (sends w w t (leaving_of (source_of w t))) (refuses w _)

changes : (w : List ℕ) (t m : ℕ) → Keeps w (change_of w t m)
unfolding change_of
changes w t m =
    either w (source_of w t).active _ _
    (either w (above_line (source_of w t).access m) _ _ (refuses w _) (sends w w t (changing_of (source_of w t) m)))
    (refuses w _)

pub refused_keeps : (s w : List ℕ) (x : Record) (r : Refusal) → (event_of s w x).verdict ≡ Err r → (event_of s w x).words ≡ w
unfolding event_of
refused_keeps s w (rec.Link e c) = (declares w e c).kept
refused_keeps s w (rec.Session x) = (joins s w x.session x.access x.maximum x.size x.path).kept
refused_keeps s w (rec.Leave t) = (leaves w t).kept
refused_keeps s w (rec.Change t m) = (changes w t m).kept
refused_keeps s w (rec.Deliver i) = (delivers w i).kept
