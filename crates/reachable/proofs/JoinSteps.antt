-- A join: the table after it.
-- Assumes nothing.
use mathlib.Core.Bool.{false, not, true}
use mathlib.Core.List.{List, [], ◌∷◌, ◌++◌}
use mathlib.Core.Path.{◌≡◌, ap, refl, subst, sym, ◌∙◌}
use Prim.Native.Nat.{ℕ, ◌+◌, ◌<◌, ◌≤◌}
use native.Mathlib.Omega.{arith}
use borrow.Author.Tests.{eqb-false, ltb-false, ltb-true}
use lib.Dec.{eqb}
use lib.ListN.{drop, get_or, length}
use lib.Seq.{get_or-drop, get_or-take}
use Rattle.ends.specs.declared.Source.{Source}
use Rattle.ends.specs.Figure3.{D, joining_of}
use Rattle.events.specs.Events.{Step, join_of, path_declared_in, source_sends}
use Rattle.events.proofs.DeclaredPaths.{path_declared_lem}
use Rattle.sending.specs.Sending.{none_of, sent_from}
use Rattle.fractions.proofs.Cases.{cases, not_true}
use Rattle.fractions.proofs.Ranges.{whole_within}
use Rattle.fractions.specs.declared.Rate.{Rate}
use Rattle.fractions.specs.Fraction.{max_rate, whole_of}
use Rattle.links.specs.declared.Place.{Place}
use Rattle.links.specs.Links.{is_idle}
use Rattle.records.proofs.Alls.{all_at}
use Rattle.records.proofs.PathBytes.{Path, path_is}
use Rattle.records.specs.Format.{path_ok}
use Rattle.records.specs.Limits.{above_line}
use Rattle.soundness.specs.Sound.{Held}
use Rattle.table.specs.Values.{SourceWithin}
use Rattle.table.specs.Words.{count_of, hops_of, link_of, packet_of, packets_of, path_of, place_of, put_hops, put_path, put_source, source_of, stop_of}
use Rattle.ranges.proofs.FitsMeans.{source_within}
use Rattle.table.proofs.InRange.{path_stop}
use Rattle.table.proofs.Packets.{length_packets, packets_at}
use Rattle.table.proofs.Places.{length_put_hops, length_put_path}
use Rattle.table.proofs.ReadBack.{hops_back, path_back_hops_last, source_back}
use Rattle.table.proofs.Unchanged.{count_after_hops, count_after_path, count_after_source, hops_after_source, link_after_hops, link_after_path, packets_after_hops, packets_after_path, packets_after_source, path_after_source, path_other_hops, path_other_path, place_after_source, row_after_hops, row_after_path, source_after_hops, source_after_path, source_other}
use Rattle.tasks.specs.declared.Eta.TheVariants as eta
use Rattle.tasks.specs.declared.Kind.TheVariants as kind
use Rattle.tasks.specs.declared.Packet.{Packet}
use Rattle.reachable.specs.Invariant.{Every, Fits, Inv, PacketOk, Safe, SourceOk, active_in, also, none}
use Rattle.reachable.proofs.FitsKept.{fits_join}
use Rattle.reachable.proofs.PacketLists.{every_index, every_map, none_some}
use Rattle.reachable.proofs.Sends.{Sent, all_sent, appended_all}
use Rattle.reachable.proofs.SentPackets.{sent_ok}
use Rattle.reachable.proofs.SourceRules.{limit_within}
use Rattle.reachable.proofs.Unless.{unless_many_lem}

-- no packet of the session is in flight
none_of_lem : (w : List ℕ) (s : ℕ) → none_of w s (count_of w) ≡ true → Every (λ q. q.session ≡ s → ⊥) (packets_of w)
unfolding none_of
none_of_lem w s h =
    let z = packet_of w 0 in
    every_index z (packets_of w)
    (λ i l.
    let k : i < count_of w = omega (arith, l, length_packets w) in
    subst (λ (q : Packet). q.session ≡ s → ⊥) (sym (packets_at w i z k))
    (eqb-false (packet_of w i).session s (not_true (eqb (packet_of w i).session s) (all_at (count_of w) (λ i. not (eqb (packet_of w i).session s)) i h k))))

-- THE TABLE AFTER A JOIN ----------------------------------------------------------------------------------------------

-- the Join of session s, of rate x, at hop 1
abbrev pub the_join : ℕ → Rate → Packet
the_join s x = sent_from s 0 (kind.Join x eta.Own)

-- v is the table w after session s joined, which was not active and had no packet left
pub record Joined (w : List ℕ) (s : ℕ) (x : Rate) (v : List ℕ) : Type 0 where
  pub left : active_in w s ≡ false
  pub no_packet : Every (λ q. q.session ≡ s → ⊥) (packets_of w)
  pub fits : Fits v
  pub places : (e : ℕ) → e < 64 → place_of v e ≡ place_of w e
  pub active : active_in v s ≡ true
  pub waits : is_idle (source_of v s).mu ≡ false
  pub path : SourceOk v s
  pub sources : (r : ℕ) → r < 32 → (r ≡ s → ⊥) → source_of v r ≡ source_of w r
  pub paths : (r : ℕ) → r < 32 → (r ≡ s → ⊥) → path_of v r ≡ path_of w r
  pub packets : packets_of v ≡ packets_of w ++ the_join s x ∷ []
  pub join : PacketOk v (the_join s x)

-- and the source and path of s in it: z, and n links that stand in the bytes
pub record Route (v : List ℕ) (s : ℕ) (z : Source) (bytes : List ℕ) (at n : ℕ) : Type 0 where
  pub source : source_of v s ≡ z
  pub hops : hops_of v s ≡ n
  pub stop : (j : ℕ) → j < n → stop_of v s j ≡ get_or bytes (at + j) 0

-- where an entry of a session that is not active has a Leave to come, it had no entry left
pub no_entry_left : (w : List ℕ) (s : ℕ) (x : Rate) (v : List ℕ) → Inv w → Joined w s x v → (e : ℕ) → e < 64 → Held (place_of w e) s → ⊥
no_entry_left w s x v i a e l h =
    none_some (packets_of w) (every_map (packets_of w) (λ q m u. m u.session) a.no_packet)
    ((i.entry e s l a.join.within.session h).live a.left)

module _ (w : List ℕ) (i : Safe w) (s : ℕ) (ls : s < 32) (bytes : List ℕ) (at n : ℕ) (path : Path bytes at n) (whole : at + 8 ≤ length bytes)
    (declared : (i : ℕ) → i < n → 0 < (link_of w (get_or bytes (at + i) 0)).capacity) (left : active_in w s ≡ false)
    (none_left : Every (λ q. q.session ≡ s → ⊥) (packets_of w)) (z : Source) (o : SourceWithin z) (active : z.active ≡ true)
    (waits : is_idle z.mu ≡ false) (few : count_of w + 1 ≤ 256) where
  abbrev routed : List ℕ
  routed = put_hops (put_path w s bytes at) s n

  abbrev written : List ℕ
  written = put_source routed s z

  abbrev join : Packet
  join = the_join s (whole_of (D z))

  abbrev v : List ℕ
  v = appended_all written (join ∷ [])

  routed_long : length routed ≡ 9153
  routed_long = length_put_hops (put_path w s bytes at) s n ∙ length_put_path w s bytes at ∙ i.fits.long

  written_count : count_of written ≡ count_of w
  written_count = count_after_source routed s z ls ∙ count_after_hops (put_path w s bytes at) s n ls ∙ count_after_path w s bytes at ls

  -- the Join is a packet in range
  all : Sent written (packets_of written) (join ∷ []) v
  all =
      all_sent written (join ∷ []) (fits_join w s n bytes at z ls path.most path.some path.link o i.fits) (omega (arith, few, written_count))
      (also (record { session = ls; hop = omega arith; kind = (limit_within z o.access, tt) }) none)

  places : (e : ℕ) → e < 64 → place_of v e ≡ place_of w e
  places e l =
      all.lines.place e l
      ∙ place_after_source routed s z e ls l
      ∙ rw (
        link_after_hops (put_path w s bytes at) s n e ls l,
        link_after_path w s bytes at e ls l,
        row_after_hops (put_path w s bytes at) s n e ls l,
        row_after_path w s bytes at e ls l,
      )

  joined_source : source_of v s ≡ z
  joined_source = all.lines.source s ls ∙ source_back routed s z routed_long ls (source_within o)

  other_source : (r : ℕ) → r < 32 → (r ≡ s → ⊥) → source_of v r ≡ source_of w r
  other_source r l m =
      all.lines.source r l
      ∙ source_other routed s z r m
      ∙ source_after_hops (put_path w s bytes at) s n r ls l
      ∙ source_after_path w s bytes at r ls l

  other_path : (r : ℕ) → r < 32 → (r ≡ s → ⊥) → path_of v r ≡ path_of w r
  other_path r l m =
      all.lines.path r l
      ∙ path_after_source routed s z r ls l
      ∙ path_other_hops (put_path w s bytes at) s n r m
      ∙ path_other_path w s bytes at r m

  joined_hops : hops_of v s ≡ n
  joined_hops =
      all.lines.hops s ls
      ∙ hops_after_source routed s z s ls ls
      ∙ hops_back (put_path w s bytes at) s n (length_put_path w s bytes at ∙ i.fits.long) ls path.most

  joined_stop : (j : ℕ) → j < n → stop_of v s j ≡ get_or bytes (at + j) 0
  joined_stop j l =
      sym (path_stop v s j 0 (omega (arith, joined_hops)))
      ∙ ap (λ (x : List ℕ). get_or x j 0)
      (all.lines.path s ls ∙ path_after_source routed s z s ls ls ∙ path_back_hops_last w s n bytes at i.fits.long ls path.most whole path.link)
      ∙ get_or-take n (drop at bytes) j 0 l
      ∙ get_or-drop at bytes j 0

  pub route : Route v s z bytes at n
  route = record { source = joined_source; hops = joined_hops; stop = joined_stop }

  packets : packets_of v ≡ packets_of w ++ join ∷ []
  packets =
      all.packets
      ∙ ap (λ (l : List Packet). l ++ join ∷ [])
      (packets_after_source routed s z ls ∙ packets_after_hops (put_path w s bytes at) s n ls ∙ packets_after_path w s bytes at ls)

  joined_ok : SourceOk v s
  joined_ok = record {
    joined = λ t. omega (arith, joined_hops, path.some);
    declared = λ j l.
        let k : j < n = omega (arith, joined_hops, l) in
        subst (λ (e : ℕ). 0 < (link_of v e).capacity) (sym (joined_stop j k))
        (subst (λ (x : Place). 0 < x.link.capacity) (sym (places (get_or bytes (at + j) 0) (path.link j k))) (declared j k));
    once = λ j k l m q.
        let a : j < n = omega (arith, joined_hops, l) in
        path.once j k a m (sym (joined_stop k (omega (arith, a, m))) ∙ q ∙ joined_stop j a);
  }

  pub joined : Joined w s (whole_of (D z)) v
  joined = record {
    left = left;
    no_packet = none_left;
    fits = all.fits;
    places = places;
    active = ap (λ (y : Source). y.active) joined_source ∙ active;
    waits = ap (λ (y : Source). is_idle y.mu) joined_source ∙ waits;
    path = joined_ok;
    sources = other_source;
    paths = other_path;
    packets = packets;
    join = sent_ok v s 0 (kind.Join (whole_of (D z)) eta.Own) ls (omega (arith, joined_hops, path.some)) (λ t. omega arith) (omega arith)
        (limit_within z o.access, tt);
  }

pub join_either : (P : List ℕ → Type 0) (bytes w : List ℕ) (s access maximum n at : ℕ) → s < 32 → 0 < access → access ≤ max_rate → maximum ≤ max_rate
    → path_ok bytes at n ≡ true
    → at + 8 ≤ length bytes
    → Safe w
    → P w
    → ((x : Rate) (v : List ℕ) → Joined w s x v → P v)
    → P (join_of bytes w s access maximum n at).words
unfolding join_of source_sends joining_of appended_all
join_either P bytes w s access maximum n at ls a0 a1 m1 ok whole i k f =
    cases (λ (x : Step). P x.words) (source_of w s).active _ _ (λ t. k)
    (λ t.
    cases (λ (x : Step). P x.words) (above_line access maximum) _ _ (λ b. k)
    (λ b.
    cases (λ (x : Step). P x.words) (path_declared_in w bytes at n) _ _
    (λ d.
    cases (λ (x : Step). P x.words) (none_of w s (count_of w)) _ _
    (λ e.
    unless_many_lem P _ w _ k
    (λ few.
    f _ _
    (joined w i s ls bytes at n (path_is bytes at n ok) whole (λ j l. ltb-true 0 _ (path_declared_lem w bytes at n d j l)) t (none_of_lem w s e) _
    (record { joined = a0; access = a1; maximum = m1; line = ltb-false access maximum b; rate = whole_within (omega arith); told = tt }) refl refl few)))
    (λ e. k))
    (λ d. k)))
