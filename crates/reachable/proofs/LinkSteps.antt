-- A delivery at a link: the table after it.
-- Assumes nothing.
use mathlib.Core.Bool.{false, true}
use mathlib.Core.List.{List, ◌++◌}
use mathlib.Core.Path.{◌≡◌, ap, ap₂, refl, subst, sym, ◌∙◌}
use Prim.Native.Nat.{ℕ, ◌+◌, ◌-◌, ◌<◌, ◌≤◌}
use native.Mathlib.Omega.{arith}
use lib.ListN.{length, length-append}
use Rattle.events.specs.Events.{Step, at_link_of}
use Rattle.sending.specs.Sending.{burst_kind, on_path_of, one_if, send_all_of, send_on_of}
use Rattle.fractions.proofs.Cases.{cases}
use Rattle.sessions.specs.Set.{members, size_of}
use Rattle.soundness.proofs.EveryRule.{did_link}
use Rattle.soundness.specs.LinkDid.{LinkDid}
use Rattle.table.specs.Values.{KindWithin}
use Rattle.table.specs.Words.{count_of, hop_of, hops_of, packet_of, packets_of, path_of, place_of, put_place, removed, source_of, stop_of}
use Rattle.table.proofs.InRange.{stop_below}
use Rattle.table.proofs.ReadBack.{place_back}
use Rattle.table.proofs.Unchanged.{count_after_place, packets_after_place, path_after_place, place_other, source_after_place}
use Rattle.tasks.specs.declared.Burst.{Burst}
use Rattle.tasks.specs.declared.Burst.TheVariants as burst
use Rattle.tasks.specs.declared.Did.{Did}
use Rattle.tasks.specs.declared.Packet.{Packet}
use Rattle.tasks.specs.Figure2.{link_step_of}
use Rattle.tasks.specs.Packets.{goes_down}
use Rattle.reachable.specs.Invariant.{Every, Fits, PacketOk, Safe}
use Rattle.reachable.proofs.BurstSets.{members_sessions, on_path_count, on_path_crosses}
use Rattle.reachable.proofs.Deliveries.{fewer, fits_left, lines_left, packet_at, rest, taken_out}
use Rattle.reachable.proofs.FitsKept.{fits_place, sound_in_range}
use Rattle.reachable.proofs.Kept.{hop_at}
use Rattle.reachable.proofs.PacketLists.{every_append, every_map}
use Rattle.reachable.proofs.Sends.{Sent, all_sent, appended_both, appended_all, burst_same, burst_to, length_burst, length_onward, onward_to, sends_each, sends_on}
use Rattle.reachable.proofs.SentPackets.{burst_ok, onward_ok}
use Rattle.reachable.proofs.Unless.{unless_many_lem}

-- a burst is an Update or a Bottleneck
pub burst_up : (b : Burst) → goes_down (burst_kind b) ≡ false
burst_up burst.Update = refl
burst_up burst.Bottleneck = refl

pub burst_within : (b : Burst) → KindWithin (burst_kind b)
burst_within burst.Update = tt
burst_within burst.Bottleneck = tt

-- the link at the hop of packet p, what it does with it, the sessions that it sends a burst to, and all that it sends
abbrev pub link_at : List ℕ → Packet → ℕ
link_at w p = stop_of w p.session (p.hop - 1)

abbrev pub link_does : List ℕ → Packet → Did
link_does w p = link_step_of (link_at w p) p.session p.kind (place_of w (link_at w p))

abbrev pub burst_sessions : List ℕ → Packet → List ℕ
burst_sessions w p = members (on_path_of w (link_at w p) (link_does w p).to)

abbrev pub sent_by_link : List ℕ → Packet → List Packet
sent_by_link w p = burst_to w (link_at w p) (burst_kind (link_does w p).burst) (burst_sessions w p) ++ onward_to p.session p.hop (link_does w p).on

-- v is the table w after packet p was taken out, with the packets `others` left, and its link did what it does
pub record LinkAfter (w : List ℕ) (p : Packet) (others : List Packet) (v : List ℕ) : Type 0 where
  pub fits : Fits v
  pub here : place_of v (link_at w p) ≡ (link_does w p).place
  pub elsewhere : (f : ℕ) → f < 64 → (f ≡ link_at w p → ⊥) → place_of v f ≡ place_of w f
  pub sources : (s : ℕ) → s < 32 → source_of v s ≡ source_of w s
  pub paths : (s : ℕ) → s < 32 → path_of v s ≡ path_of w s
  pub packets : packets_of v ≡ others ++ sent_by_link w p

-- packet p at place j reaches the link of its hop
module _ (w : List ℕ) (j : ℕ) (i : Safe w) (h : j < count_of w)
    (low : 0 < (packet_of w j).hop) (high : (packet_of w j).hop ≤ hops_of w (packet_of w j).session) where
  abbrev p : Packet
  p = packet_of w j

  abbrev s : ℕ
  s = p.session

  ok : PacketOk w p
  ok = packet_at w j i h

  abbrev e : ℕ
  e = link_at w p

  abbrev d : Did
  d = link_does w p

  pub link_below : e < 64
  link_below = stop_below w s (p.hop - 1)

  pub link_did : LinkDid s p.kind (place_of w e) d
  link_did = did_link e s p.kind (place_of w e) link_below ok.within.session (i.place e link_below) ok.within.kind

  pub hop_here : hop_of w s e ≡ p.hop
  hop_here = hop_at w s (p.hop - 1) (i.source s ok.within.session) (omega arith) ∙ omega arith

  abbrev to : List ℕ
  to = burst_sessions w p

  abbrev written : List ℕ
  written = put_place (removed w j) e d.place

  many : length d.place.entries ≡ 32
  many = link_did.sound.workable.rates.many

  abbrev sent : List Packet
  sent = sent_by_link w p

  path_written : (r : ℕ) → r < 32 → path_of written r ≡ path_of w r
  path_written r l = path_after_place (removed w j) e d.place r link_below many l ∙ (lines_left w j i h).path r l

  -- the burst and the packet that goes on are one list at the end
  one_list : send_on_of (send_all_of written e d.burst (on_path_of w e d.to)) s p.hop d.on ≡ appended_all written sent
  unfolding send_all_of
  one_list =
      let k = burst_kind d.burst in
      ap (λ (u : List ℕ). send_on_of u s p.hop d.on) (sends_each written e d.burst to (members_sessions _))
      ∙ sends_on (appended_all written (burst_to written e k to)) s p.hop d.on
      ∙ appended_both written (burst_to written e k to) (onward_to s p.hop d.on)
      ∙ ap (λ (l : List Packet). appended_all written (l ++ onward_to s p.hop d.on))
      (burst_same w written e k to (members_sessions _) path_written)

  pub link_sent_ok : Every (PacketOk w) sent
  link_sent_ok =
      every_append (burst_to w e (burst_kind d.burst) to) _
      (burst_ok w e (burst_kind d.burst) to (burst_up d.burst) (burst_within d.burst) (on_path_crosses w e d.to))
      (onward_ok w s p.hop p.kind d.on link_did.on ok.within.session ok.known (λ t. high) (omega arith))

  sent_all : count_of w - 1 + size_of (on_path_of w e d.to) + one_if d.on ≤ 256 → Sent written (packets_of written) sent (appended_all written sent)
  sent_all n =
      let c : count_of written ≡ count_of w - 1 = count_after_place (removed w j) e d.place link_below many ∙ fewer w j i h in
      let k : length sent ≡ size_of (on_path_of w e d.to) + one_if d.on =
      length-append (burst_to w e (burst_kind d.burst) to) (onward_to s p.hop d.on)
      ∙ ap₂ ◌+◌ (length_burst w e (burst_kind d.burst) to ∙ on_path_count w e d.to) (length_onward s p.hop d.on) in
      all_sent written sent (fits_place (removed w j) e d.place link_below link_did.sound (fits_left w j i h)) (omega (arith, c, k))
      (every_map sent (λ q o. o.within) link_sent_ok)

  link_after : count_of w - 1 + size_of (on_path_of w e d.to) + one_if d.on ≤ 256 → LinkAfter w p (rest w j) (appended_all written sent)
  link_after n =
      let a = sent_all n in
      let r = lines_left w j i h in
      record {
        fits = a.fits;
        here = a.lines.place e link_below
            ∙ place_back (removed w j) e d.place (fits_left w j i h).long link_below (sound_in_range link_did.sound);
        elsewhere = λ f l m. a.lines.place f l ∙ place_other (removed w j) e d.place f m link_below l many ∙ r.place f l;
        sources = λ t l. a.lines.source t l ∙ source_after_place (removed w j) e d.place t link_below many l ∙ r.source t l;
        paths = λ t l. a.lines.path t l ∙ path_written t l;
        packets = a.packets
            ∙ ap (λ (l : List Packet). l ++ sent) (packets_after_place (removed w j) e d.place link_below many ∙ taken_out w j i h);
      }

  -- what holds of the table before it, and of the table after it where it is taken, holds after it
  pub at_link_either : (P : List ℕ → Type 0) → P w → ((v : List ℕ) → d.fine ≡ true → LinkAfter w p (rest w j) v → P v)
      → P (at_link_of w j p e).words
  unfolding at_link_of
  at_link_either P o f =
      cases (λ (x : Step). P x.words) d.fine _ _
      (λ g. unless_many_lem P _ w _ o (λ n. subst P (sym one_list) (f (appended_all written sent) g (link_after n))))
      (λ g. o)
