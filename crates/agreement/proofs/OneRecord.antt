-- What one record of kind 1 or 2 does to a table that takes it: a link is declared, a session joins.
-- Assumes nothing.
use mathlib.Core.Bool.{false, not, true}
use mathlib.Core.List.{List, [], ◌∷◌}
use mathlib.Core.Path.{◌≡◌, ap, refl, subst, ◌∙◌}
use Prim.Native.Nat.{ℕ, ◌+◌, ◌<◌}
use native.Mathlib.Omega.{arith}
use borrow.Author.Tests.{le-ltb, lt-ltb, ltb-false, ne_eqb}
use lib.ListN.{get_or}
use Rattle.fractions.specs.Fraction.{whole_of}
use Rattle.fractions.proofs.Ranges.{whole_within}
use Rattle.records.specs.Format.{a_session, RecordOk}
use Rattle.records.specs.Limits.{above_line}
use Rattle.records.specs.declared.Record.{Record}
use Rattle.records.specs.declared.Record.TheVariants as rec
use Rattle.records.proofs.Alls.{all_below}
use Rattle.records.proofs.PathBytes.{path_is}
use Rattle.ends.specs.Figure3.{D, joining_of}
use Rattle.ends.specs.declared.Source.{Source}
use Rattle.links.specs.Links.{is_idle}
use Rattle.links.specs.declared.Link.{Link}
use Rattle.events.specs.Events.{Step, declare_of, event_of, join_of, new_link, path_declared_in, source_sends, taking}
use Rattle.sending.specs.Sending.{none_of}
use Rattle.table.specs.Values.{SourceWithin}
use Rattle.table.specs.Words.{count_of, link_of, packet_of, packets_of, put_hops, put_link, put_path, put_source, source_of}
use Rattle.table.proofs.Packets.{length_packets, packets_at}
use Rattle.table.proofs.ReadBack.{link_back}
use Rattle.table.proofs.Unchanged.{link_other}
use Rattle.tasks.specs.declared.Packet.{Packet}
use Rattle.reachable.specs.Invariant.{Every, Safe}
use Rattle.reachable.proofs.JoinSteps.{Joined, Route, joined, route, the_join}
use Rattle.reachable.proofs.PacketLists.{every_at}
use Rattle.reachable.proofs.SafeRecords.{event_safe}
use Rattle.reachable.proofs.Sends.{appended_all}

-- a table that is safe stays so
taken_safe : (s w : List ℕ) (x : Record) (v : List ℕ) → RecordOk s x → Safe w → event_of s w x ≡ taking v → Safe v
taken_safe s w x v k i e = subst Safe (ap (λ (y : Step). y.words) e) (event_safe s w x k i)

-- A LINK --------------------------------------------------------------------------------------------------------------

abbrev pub after_link : List ℕ → ℕ → ℕ → List ℕ
after_link w e c = put_link w e (new_link c)

-- the record of link e is taken, and the table after it has the link's capacity and those that were
pub record TakesLink (s w : List ℕ) (e c : ℕ) : Type 0 where
  pub does : event_of s w (rec.Link e c) ≡ taking (after_link w e c)
  pub safe : Safe (after_link w e c)
  pub here : (link_of (after_link w e c) e).capacity ≡ c
  pub elsewhere : (f : ℕ) → (f ≡ e → ⊥) → (link_of (after_link w e c) f).capacity ≡ (link_of w f).capacity

link_does_lem : (s w : List ℕ) (e c : ℕ) → (link_of w e).capacity ≡ 0 → event_of s w (rec.Link e c) ≡ taking (after_link w e c)
unfolding event_of declare_of
link_does_lem s w e c new = rw new refl

pub takes_link : (s w : List ℕ) (e c : ℕ) → Safe w → RecordOk s (rec.Link e c) → (link_of w e).capacity ≡ 0 → TakesLink s w e c
takes_link s w e c safe k new =
    let does = link_does_lem s w e c new in
    record {
      does = does;
      safe = taken_safe s w (rec.Link e c) (after_link w e c) k safe does;
      here =
          ap (λ (x : Link). x.capacity)
          (link_back w e (new_link c) (omega (arith, k.0, safe.fits.long)) (record { capacity = k.2; r = omega arith; f = omega arith }));
      elsewhere = λ f n. ap (λ (x : Link). x.capacity) (link_other w e (new_link c) f n);
    }

-- A SESSION -----------------------------------------------------------------------------------------------------------

-- the source of a session that joins, and the table after it
abbrev pub joiner : ℕ → ℕ → Source
joiner a m = (joining_of a m).source

abbrev pub after_join : List ℕ → List ℕ → ℕ → ℕ → ℕ → ℕ → ℕ → List ℕ
after_join s w t a m n at = appended_all (put_source (put_hops (put_path w t s at) t n) t (joiner a m)) (the_join t (whole_of (D (joiner a m))) ∷ [])

-- the record of session t is taken, and the session has joined, by the source and the path that the record gives
pub record TakesSession (s w : List ℕ) (t a m n at : ℕ) : Type 0 where
  pub does : event_of s w (a_session t a m n at) ≡ taking (after_join s w t a m n at)
  pub safe : Safe (after_join s w t a m n at)
  pub joined : Joined w t (whole_of (D (joiner a m))) (after_join s w t a m n at)
  pub route : Route (after_join s w t a m n at) t (joiner a m) s at n

join_does : (s w : List ℕ) (t a m n at : ℕ) → (source_of w t).active ≡ false → above_line a m ≡ false → path_declared_in w s at n ≡ true
    → none_of w t (count_of w) ≡ true → count_of w < 256 → event_of s w (a_session t a m n at) ≡ taking (after_join s w t a m n at)
unfolding event_of join_of source_sends joining_of appended_all
join_does s w t a m n at i l p q h = rw (i, l, p, q, le-ltb 256 (count_of w + 1) (omega arith)) refl

module _ (s w : List ℕ) (safe : Safe w) (t a m n at : ℕ) (k : RecordOk s (a_session t a m n at)) (idle : (source_of w t).active ≡ false)
    (line : above_line a m ≡ false) (declared : (h : ℕ) → h < n → 0 < (link_of w (get_or s (at + h) 0)).capacity)
    (none_left : Every (λ q. q.session ≡ t → ⊥) (packets_of w)) (few : count_of w < 256) where
  known : path_declared_in w s at n ≡ true
  unfolding path_declared_in
  known = all_below n _ (λ h l. rw (lt-ltb _ 64 ((path_is s at n k.4).link h l), lt-ltb 0 _ (declared h l)) refl)

  none_there : none_of w t (count_of w) ≡ true
  unfolding none_of
  none_there =
      all_below (count_of w) _
      (λ i l.
      let z = packet_of w 0 in
      let h = every_at z (packets_of w) i (omega (arith, length_packets w)) none_left in
      ap not (ne_eqb (packet_of w i).session t (λ e. h (ap (λ (q : Packet). q.session) (packets_at w i z l) ∙ e))))

  within : SourceWithin (joiner a m)
  unfolding joining_of
  within =
      record {
        joined = k.1;
        access = k.2;
        maximum = k.3;
        line = ltb-false a m line;
        rate = whole_within (omega arith);
        told = tt;
      }

  active : (joiner a m).active ≡ true
  unfolding joining_of
  active = refl

  waits : is_idle (joiner a m).mu ≡ false
  unfolding joining_of
  waits = refl

  pub takes_session : TakesSession s w t a m n at
  takes_session =
      let does = join_does s w t a m n at idle line known none_there few in
      let path = path_is s at n k.4 in
      record {
        does = does;
        safe = taken_safe s w (a_session t a m n at) (after_join s w t a m n at) k safe does;
        joined = joined w safe t k.0 s at n path k.5 declared idle none_left (joiner a m) within active waits (omega arith);
        route = route w safe t k.0 s at n path k.5 declared idle none_left (joiner a m) within active waits (omega arith);
      }
