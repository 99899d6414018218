-- And then its session records: each session joins, and the table has what is its own.
-- Assumes nothing.
use mathlib.Core.Bool.{false, true}
use mathlib.Core.List.{List, ◌++◌}
use mathlib.Core.Logic.{◌⊎◌, inl, inr}
use mathlib.Core.Path.{◌≡◌, ap, refl, subst, sym, ◌∙◌}
use Prim.Native.Nat.{ℕ, suc, ◌+◌, ◌*◌, ◌<◌, ◌≤◌}
use native.Mathlib.Omega.{arith}
use lib.ListN.{get_or, length, length-append}
use Rattle.fractions.proofs.Cases.{last}
use Rattle.fairness.specs.Figure1.{values}
use Rattle.sessions.specs.Set.{has, has_of}
use Rattle.sessions.proofs.Members.{in_is, is_in, member_below}
use Rattle.records.specs.Format.{a_session, RecordOk, path_ok}
use Rattle.records.specs.declared.Call.TheVariants as call
use Rattle.records.specs.declared.Record.TheVariants as rec
use Rattle.records.proofs.PathBytes.{path_is, path_same}
use Rattle.records.proofs.Rates.{rate_is}
use Rattle.search.specs.Crossing.{byte_at}
use Rattle.declarations.specs.declared.Declared.{Declared}
use Rattle.declarations.proofs.DeclaredPaths.{declared_at}
use Rattle.writing.specs.Sets.{Declarable}
use Rattle.writing.specs.Writing.{path_size, session_from}
use Rattle.writing.proofs.Appending.{stands}
use Rattle.writing.proofs.ReadRecords.{session_path, session_read, session_size}
use Rattle.writing.proofs.RunOver.{Taken}
use Rattle.ends.specs.Figure3.{joining_of}
use Rattle.ends.specs.declared.Source.{Source}
use Rattle.links.specs.declared.Place.{Place}
use Rattle.events.specs.Events.{Step}
use Rattle.machine.specs.Machine.{acting, judging}
use Rattle.table.specs.Words.{count_of, hops_of, link_of, packets_of, source_of, stop_of}
use Rattle.table.proofs.InRange.{path_length, path_stop}
use Rattle.table.proofs.Packets.{length_packets}
use Rattle.reachable.specs.Invariant.{Every, Safe, also, none}
use Rattle.reachable.proofs.PacketLists.{every_append, every_map}
use Rattle.agreement.proofs.LinksLoaded.{LinksIn}
use Rattle.agreement.proofs.OneRecord.{TakesSession, after_join, joiner, takes_session}

-- the table has all links of d, and of the sessions below b those of d, with all that is theirs; packets are of these alone
pub record SessionsIn (d : Declared) (b : ℕ) (w : List ℕ) : Type 0 where
  pub safe : Safe w
  pub capacity : (e : ℕ) → e < 64 → has e d.links ≡ 1 → (link_of w e).capacity ≡ get_or d.capacity e 0
  pub bare : (e : ℕ) → e < 64 → has e d.links ≡ 0 → (link_of w e).capacity ≡ 0
  pub active : (t : ℕ) → t < 32 → t < b → (source_of w t).active ≡ has_of t d.sessions
  pub idle : (t : ℕ) → t < 32 → b ≤ t → (source_of w t).active ≡ false
  pub access : (t : ℕ) → t < 32 → t < b → has t d.sessions ≡ 1 → (source_of w t).access ≡ get_or d.access t 0
  pub maximum : (t : ℕ) → t < 32 → t < b → has t d.sessions ≡ 1 → (source_of w t).maximum ≡ get_or d.maximum t 0
  pub hops : (t : ℕ) → t < 32 → t < b → has t d.sessions ≡ 1 → hops_of w t ≡ path_size d.path t
  pub stops : (t : ℕ) → t < 32 → t < b → has t d.sessions ≡ 1 → (h : ℕ) → h < path_size d.path t → stop_of w t h ≡ byte_at d.path t h
  pub few : count_of w ≤ b
  pub senders : Every (λ q. q.session < b) (packets_of w)

pub links_done : (d : Declared) (w : List ℕ) → LinksIn d 64 w → SessionsIn d 0 w
links_done d w r =
    record {
      safe = r.safe;
      capacity = λ e h m. r.capacity e h h m;
      bare = λ e h m. r.bare e h (inr m);
      active = λ t h l. absurd (omega arith);
      idle = λ t h l. r.idle t h;
      access = λ t h l. absurd (omega arith);
      maximum = λ t h l. absurd (omega arith);
      hops = λ t h l. absurd (omega arith);
      stops = λ t h l. absurd (omega arith);
      few = omega (arith, sym (length_packets w) ∙ ap length r.quiet);
      senders = subst (Every (λ q. q.session < 0)) (sym r.quiet) none;
    }

pub sessions_skip : (d : Declared) (b : ℕ) (w : List ℕ) → has_of b d.sessions ≡ false → SessionsIn d b w → SessionsIn d (suc b) w
sessions_skip d b w q r =
    record {
      safe = r.safe;
      capacity = r.capacity;
      bare = r.bare;
      active = λ t h l. active t h (last l);
      idle = λ t h l. r.idle t h (omega arith);
      access = λ t h l m. r.access t h (member_below d.sessions b t q l m) m;
      maximum = λ t h l m. r.maximum t h (member_below d.sessions b t q l m) m;
      hops = λ t h l m. r.hops t h (member_below d.sessions b t q l m) m;
      stops = λ t h l m. r.stops t h (member_below d.sessions b t q l m) m;
      few = omega (arith, r.few);
      senders = every_map (packets_of w) (λ p h. omega arith) r.senders;
    }
  where
    active : (t : ℕ) → t < 32 → (t < b) ⊎ (t ≡ b) → (source_of w t).active ≡ has_of t d.sessions
    active t h (inl l) = r.active t h l
    active t h (inr e) = r.idle t h (omega arith) ∙ sym (ap (λ (v : ℕ). has_of v d.sessions) e ∙ q)

module _ (d : Declared) (ok : Declarable d) (s : List ℕ) (b : ℕ) (w : List ℕ) (r : SessionsIn d b w) (low : b < 32) (m : has b d.sessions ≡ 1)
    (at : ℕ) (bytes : (h : ℕ) → h < 8 → get_or s (at + h) 0 ≡ byte_at d.path b h) (k : RecordOk s (a_session b (get_or d.access b 0) (get_or d.maximum b 0) (path_size d.path b) at)) where
  abbrev a : ℕ
  a = get_or d.access b 0

  abbrev x : ℕ
  x = get_or d.maximum b 0

  abbrev n : ℕ
  n = path_size d.path b

  -- each link of the path has a capacity
  known : (h : ℕ) → h < n → 0 < (link_of w (get_or s (at + h) 0)).capacity
  known h l =
      let p = path_is s at n k.4 in
      let e = get_or s (at + h) 0 in
      let there : has_of (byte_at d.path b h) d.links ≡ true = declared_at d.links d.path (b * 8) n (ok.declared b low m) h l in
      let member : has e d.links ≡ 1 = is_in d.links e (ap (λ (v : ℕ). has_of v d.links) (bytes h (omega (arith, p.most))) ∙ there) in
      omega (arith, r.capacity e (p.link h l) member, (rate_is (get_or d.capacity e 0) (ok.capacity e (p.link h l) member)).0)

  none_left : Every (λ q. q.session ≡ b → ⊥) (packets_of w)
  none_left = every_map (packets_of w) (λ q h e. omega (arith, h, e)) r.senders

  abbrev v : List ℕ
  v = after_join s w b a x n at

  takes : TakesSession s w b a x n at
  takes = takes_session s w r.safe b a x n at k (r.idle b low (omega arith)) (ok.line b low m) known none_left (omega (arith, r.few))

  link_same : (e : ℕ) → e < 64 → (link_of v e).capacity ≡ (link_of w e).capacity
  link_same e l = ap (λ (p : Place). p.link.capacity) (takes.joined.places e l)

  source_same : (t : ℕ) → t < 32 → t < b → source_of v t ≡ source_of w t
  source_same t l i = takes.joined.sources t l (λ e. omega arith)

  hops_same : (t : ℕ) → t < 32 → t < b → hops_of v t ≡ hops_of w t
  hops_same t l i = sym (path_length v t) ∙ ap length (takes.joined.paths t l (λ e. omega arith)) ∙ path_length w t

  stop_same : (t : ℕ) → t < 32 → t < b → (h : ℕ) → h < hops_of w t → stop_of v t h ≡ stop_of w t h
  stop_same t l i h j =
      sym (path_stop v t h 0 (omega (arith, hops_same t l i))) ∙ ap (λ (p : List ℕ). get_or p h 0) (takes.joined.paths t l (λ e. omega arith)) ∙ path_stop w t h 0 j

  new_source : (t : ℕ) → t ≡ b → source_of v t ≡ joiner a x
  new_source t e = ap (source_of v) e ∙ takes.route.source

  count_next : count_of v ≡ count_of w + 1
  count_next =
      sym (length_packets v) ∙ ap length takes.joined.packets ∙ length-append (packets_of w) _ ∙ ap (λ (y : ℕ). y + 1) (length_packets w)

  sessions_next : SessionsIn d (suc b) (acting s w (a_session b a x n at))
  unfolding joining_of
  sessions_next =
      subst (SessionsIn d (suc b)) (sym (ap (λ (y : Step). y.words) takes.does))
      (record {
        safe = takes.safe;
        capacity = λ e l i. link_same e l ∙ r.capacity e l i;
        bare = λ e l i. link_same e l ∙ r.bare e l i;
        active = λ t l i. active t l (last i);
        idle = λ t l i. ap (λ (z : Source). z.active) (takes.joined.sources t l (λ e. omega arith)) ∙ r.idle t l (omega arith);
        access = λ t l i j. access t l j (last i);
        maximum = λ t l i j. maximum t l j (last i);
        hops = λ t l i j. hops t l j (last i);
        stops = λ t l i j h g. stops t l j h g (last i);
        few = omega (arith, count_next, r.few);
        senders = subst (Every (λ q. q.session < suc b)) (sym takes.joined.packets)
            (every_append (packets_of w) _ (every_map (packets_of w) (λ q h. omega arith) r.senders) (also (omega arith) none));
      })
    where
      active : (t : ℕ) → t < 32 → (t < b) ⊎ (t ≡ b) → (source_of v t).active ≡ has_of t d.sessions
      active t l (inl i) = ap (λ (z : Source). z.active) (source_same t l i) ∙ r.active t l i
      active t l (inr e) = ap (λ (y : ℕ). (source_of v y).active) e ∙ takes.joined.active ∙ sym (in_is d.sessions t (ap (λ (y : ℕ). has y d.sessions) e ∙ m))

      access : (t : ℕ) → t < 32 → has t d.sessions ≡ 1 → (t < b) ⊎ (t ≡ b) → (source_of v t).access ≡ get_or d.access t 0
      access t l j (inl i) = ap (λ (z : Source). z.access) (source_same t l i) ∙ r.access t l i j
      access t l j (inr e) = ap (λ (z : Source). z.access) (new_source t e) ∙ ap (λ (y : ℕ). get_or d.access y 0) (sym e)

      maximum : (t : ℕ) → t < 32 → has t d.sessions ≡ 1 → (t < b) ⊎ (t ≡ b) → (source_of v t).maximum ≡ get_or d.maximum t 0
      maximum t l j (inl i) = ap (λ (z : Source). z.maximum) (source_same t l i) ∙ r.maximum t l i j
      maximum t l j (inr e) = ap (λ (z : Source). z.maximum) (new_source t e) ∙ ap (λ (y : ℕ). get_or d.maximum y 0) (sym e)

      hops : (t : ℕ) → t < 32 → has t d.sessions ≡ 1 → (t < b) ⊎ (t ≡ b) → hops_of v t ≡ path_size d.path t
      hops t l j (inl i) = hops_same t l i ∙ r.hops t l i j
      hops t l j (inr e) = ap (hops_of v) e ∙ takes.route.hops ∙ ap (path_size d.path) (sym e)

      stops : (t : ℕ) → t < 32 → has t d.sessions ≡ 1 → (h : ℕ) → h < path_size d.path t → (t < b) ⊎ (t ≡ b) → stop_of v t h ≡ byte_at d.path t h
      stops t l j h g (inl i) = stop_same t l i h (omega (arith, r.hops t l i j)) ∙ r.stops t l i j h g
      stops t l j h g (inr e) =
          let g' : h < n = subst (λ (y : ℕ). h < path_size d.path y) e g in
          ap (λ (y : ℕ). stop_of v y h) e ∙ takes.route.stop h g' ∙ bytes h (omega (arith, (path_is s at n k.4).most)) ∙ ap (λ (y : ℕ). byte_at d.path y h) (sym e)

module _ (d : Declared) (ok : Declarable d) (s : List ℕ) where
  pub sessions_turn : (b : ℕ) (w : List ℕ) (before behind : List ℕ) → b < 32 → has_of b d.sessions ≡ true → SessionsIn d b w
      → s ≡ before ++ (session_from d.access d.maximum d.path b ++ behind) → Taken call.Machine (judging s) (acting s) s (SessionsIn d) b w (length before) 19
  unfolding values
  sessions_turn b w before behind h t r e =
      let there = stands s before (session_from d.access d.maximum d.path b) behind e in
      let at = length before in
      let m = is_in d.sessions b t in
      let a = get_or d.access b 0 in
      let x = get_or d.maximum b 0 in
      let n = path_size d.path b in
      let bytes = session_path s at b a x n (byte_at d.path b) there in
      let small = (path_is d.path (b * 8) n (ok.path b h m)).most in
      let path : path_ok s (at + 11) n ≡ true = path_same s (at + 11) d.path (b * 8) bytes n small ∙ ok.path b h m in
      let rate = rate_is a (ok.access b h m) in
      let k : RecordOk s (a_session b a x n (at + 11)) =
      (h, rate.0, rate.1, ok.maximum b h m, path, omega (arith, there.fits)) in
      record {
        what = a_session b a x n (at + 11);
        taken = rw (session_read s at b a x n (byte_at d.path b) there call.Machine h (ok.access b h m) (ok.maximum b h m) path, ap (λ (y : Step). y.verdict) (takes d ok s b w r h m (at + 11) bytes k).does) refl;
        long = session_size s at b a x n (byte_at d.path b) there;
        some = omega arith;
        fits = there.fits;
        next = sessions_next d ok s b w r h m (at + 11) bytes k;
      }
