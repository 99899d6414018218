-- The events of the machine (01, "Records", "What is turned away"): what each record that was read does to the words w, and refusals 7 to 13 in
-- number order, with 16 (02, §1) directly after 7 and after 9. A refused record leaves the words as they were.
-- Assumes nothing: definitions.
use Rattle.std.specs.Prelude.{Bool, cond, ◌&&◌, List, ℕ, ◌+◌, ◌-◌, eqb, ltb, get_or, Result, Ok, Err, ⊤}
use Rattle.ends.specs.Figure3.{changing_of, joining_of, leaving_of, source_step_of}
use Rattle.ends.specs.Figure4.{destination_step_of}
use Rattle.ends.specs.declared.SourceDid.{SourceDid}
use Rattle.links.specs.declared.Link.{Link}
use Rattle.records.specs.declared.Record.{Record}
use Rattle.records.specs.declared.Record.TheVariants as rec
use Rattle.records.specs.declared.Refusal.{Refusal}
use Rattle.records.specs.declared.Refusal.TheVariants as refusal
use Rattle.records.specs.Format.{all}
use Rattle.records.specs.Limits.{above_line, link_limit, packet_limit}
use Rattle.sessions.specs.Set.{size_of}
use Rattle.table.specs.Words.{count_of, declared_in, hops_of, packet_of, place_of, put_hops, put_link, put_path, put_place, put_source, removed, source_of, stop_of}
use Rattle.tasks.specs.declared.Packet.{Packet}
use Rattle.tasks.specs.Figure2.{link_step_of}
use Rattle.sending.specs.Sending.{in_turn_of, none_of, on_path_of, one_if, send_all_of, send_on_of}

-- whether a record is taken, and the words after it
pub record Step : Type 0 where
  pub verdict : Result ⊤ Refusal
  pub words : List ℕ

abbrev pub ended : Result ⊤ Refusal → List ℕ → Step
ended v w = record { verdict = v; words = w }

abbrev pub refusing : Refusal → List ℕ → Step
refusing r w = ended (Err r) w

abbrev pub taking : List ℕ → Step
taking w = ended (Ok tt) w

-- refusal 13, where so many packets are in flight after the step
abbrev pub unless_many : ℕ → List ℕ → List ℕ → Step
unless_many n w v = cond (ltb packet_limit n) (refusing refusal.TooManyPackets w) (taking v)

-- DELIVERY ------------------------------------------------------------------------------------------------------------

-- packet p, at place i of the list, reaches link e: refusal 12, then 13
unfoldable pub at_link_of : List ℕ → ℕ → Packet → ℕ → Step
at_link_of w i p e =
    let d = link_step_of e p.session p.kind (place_of w e) in
    let to = on_path_of w e d.to in
    cond d.fine
    (unless_many (count_of w - 1 + size_of to + one_if d.on) w
    (send_on_of (send_all_of (put_place (removed w i) e d.place) e d.burst to) p.session p.hop d.on))
    (refusing refusal.TooFine w)

-- it reaches its source
unfoldable pub at_source_of : List ℕ → ℕ → Packet → Step
at_source_of w i p =
    let d = source_step_of p.kind (source_of w p.session) in
    unless_many (count_of w - 1 + one_if d.on) w (send_on_of (put_source (removed w i) p.session d.source) p.session 0 d.on)

-- it reaches its destination
unfoldable pub at_destination_of : List ℕ → ℕ → Packet → Step
at_destination_of w i p =
    let o = destination_step_of p.kind in
    unless_many (count_of w - 1 + one_if o) w (send_on_of (removed w i) p.session p.hop o)

-- "Hop 0 is the source, hops 1 to n the links of the path, hop n+1 the destination"
unfoldable pub arrive_of : List ℕ → ℕ → Packet → Step
arrive_of w i p =
    cond (eqb p.hop 0) (at_source_of w i p)
    (cond (ltb (hops_of w p.session) p.hop) (at_destination_of w i p) (at_link_of w i p (stop_of w p.session (p.hop - 1))))

-- kind 5: refusal 11, "position past the list's end, or out of turn"
unfoldable pub deliver_of : List ℕ → ℕ → Step
deliver_of w i =
    cond (ltb i (count_of w) && in_turn_of w i) (arrive_of w i (packet_of w i)) (refusing refusal.BadPosition w)

-- LINKS AND SESSIONS --------------------------------------------------------------------------------------------------

-- a link of capacity c, with R ← ∅ and F ← ∅ (Figure 2, line 2)
abbrev pub new_link : ℕ → Link
new_link c = record { capacity = c; r = 0; f = 0 }

-- kind 1: refusal 7
unfoldable pub declare_of : List ℕ → ℕ → ℕ → Step
declare_of w e c = cond (declared_in w e) (refusing refusal.AlreadyThere w) (taking (put_link w e (new_link c)))

-- refusal 8: all n links of the path from a place of the input s on are declared
unfoldable pub path_declared_in : List ℕ → List ℕ → ℕ → ℕ → Bool
path_declared_in w s at n = all n (λ h. ltb (get_or s (at + h) 0) link_limit && declared_in w (get_or s (at + h) 0))

-- session t changes as its source says, and the source sends: refusal 13
unfoldable pub source_sends : List ℕ → List ℕ → ℕ → SourceDid → Step
source_sends w v t d = unless_many (count_of w + one_if d.on) w (send_on_of (put_source v t d.source) t 0 d.on)

-- kind 2: a session joins over n links, whose bytes stand in the input s: refusals 7, 16 (02, §1), 8, 10 and 13
unfoldable pub join_of : List ℕ → List ℕ → ℕ → ℕ → ℕ → ℕ → ℕ → Step
join_of s w t access maximum n at =
    cond (source_of w t).active (refusing refusal.AlreadyThere w)
    (cond (above_line access maximum) (refusing refusal.AboveLine w)
    (cond (path_declared_in w s at n)
    (cond (none_of w t (count_of w)) (source_sends w (put_hops (put_path w t s at) t n) t (joining_of access maximum)) (refusing refusal.StillLeaving w))
    (refusing refusal.UndeclaredLink w)))

-- kind 3: a session leaves: refusals 9 and 13
unfoldable pub leave_of : List ℕ → ℕ → Step
leave_of w t = cond (source_of w t).active (source_sends w w t (leaving_of (source_of w t))) (refusing refusal.NotActive w)

-- kind 4: a session changes its maximum: refusals 9, 16 (02, §1: against the access rate that its source holds) and 13
unfoldable pub change_of : List ℕ → ℕ → ℕ → Step
change_of w t maximum =
    cond (source_of w t).active
    (cond (above_line (source_of w t).access maximum) (refusing refusal.AboveLine w) (source_sends w w t (changing_of (source_of w t) maximum)))
    (refusing refusal.NotActive w)

-- A RECORD ------------------------------------------------------------------------------------------------------------

-- what a record of the input s does
unfoldable pub event_of : List ℕ → List ℕ → Record → Step
event_of s w (rec.Link e capacity) = declare_of w e capacity
event_of s w (rec.Session x) = join_of s w x.session x.access x.maximum x.size x.path
event_of s w (rec.Leave t) = leave_of w t
event_of s w (rec.Change t maximum) = change_of w t maximum
event_of s w (rec.Deliver position) = deliver_of w position
