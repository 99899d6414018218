-- A file of kinds 1 and 2 that the machine takes whole, from the empty table on, is accepted by the calculation's reader too: record by record, what is
-- declared is what the table has.
-- Assumes nothing.
use Rattle.std.specs.Prelude.{Result, Ok, ⊤}
use mathlib.Core.Bool.{◌&&◌, cond, false, true}
use mathlib.Core.List.{List}
use mathlib.Core.Logic.{◌⊎◌, inl, inr}
use mathlib.Core.Path.{◌≡◌, ap, refl, subst, sym, ◌∙◌}
use Prim.Native.Nat.{ℕ, zero, suc, ◌+◌, ◌<◌, ◌≤◌}
use native.Mathlib.Omega.{arith}
use borrow.Author.Tests.{eqb-true, lt-ltb, ltb-false, ltb-true}
use lib.Dec.{eqb, ltb}
use lib.ListN.{get_or, length}
use Rattle.fractions.proofs.Cases.{and_both, cases, chosen, or_either}
use Rattle.sessions.specs.Set.{has_of}
use Rattle.sessions.proofs.Members.{has_zero, put_is}
use Rattle.records.specs.Format.{a_session, Bytes, RecordOk, read_at, size_at, takes_of}
use Rattle.records.specs.Limits.{above_line}
use Rattle.records.specs.Refusals.{refused_at}
use Rattle.records.specs.Run.{Ran, judged, run_from, weighed}
use Rattle.records.specs.declared.Call.TheVariants as call
use Rattle.records.specs.declared.Record.{Record}
use Rattle.records.specs.declared.Record.TheVariants as rec
use Rattle.records.specs.declared.Refusal.TheVariants as refusal
use Rattle.records.specs.declared.Refusal.{Refusal}
use Rattle.records.proofs.PathBytes.{Path, path_is}
use Rattle.records.proofs.ReadRecords.{judged_read, judged_record_ok, judged_taken}
use Rattle.records.proofs.Refusing.{not_ok}
use Rattle.records.proofs.Runs.{TookOne, finished_turn, run_end, run_takes}
use Rattle.records.proofs.Somes.{clash}
use Rattle.declarations.specs.Declaring as declaring
use Rattle.declarations.specs.declared.Declared.{Declared}
use Rattle.declarations.proofs.DeclaredPaths.{all_declared}
use Rattle.writing.proofs.ReadShapes.{IsLink, IsSession, read_shape}
use Rattle.ends.specs.Figure3.{joining_of}
use Rattle.ends.specs.declared.Source.{Source}
use Rattle.links.specs.declared.Place.{Place}
use Rattle.events.specs.Events.{Step, declare_of, event_of, join_of, new_link, path_declared_in, source_sends}
use Rattle.events.proofs.DeclaredPaths.{path_declared_lem}
use Rattle.sending.specs.Sending.{none_of}
use Rattle.handed.specs.Handed.{passes14_of}
use Rattle.handed.proofs.EmptyPasses.{empty_is_passing}
use Rattle.machine.specs.Machine.{acting, judging, machine_of, run_records_of}
use Rattle.table.specs.Words.{count_of, declared_in, empty_words, link_of, packets_of, source_of}
use Rattle.table.proofs.Empty.{empty_length, empty_link, empty_packets}
use Rattle.table.proofs.EmptyLinks.{none_active}
use Rattle.table.proofs.Unchanged.{packets_after_link, source_after_link}
use Rattle.tasks.specs.declared.Packet.{Packet}
use Rattle.reachable.specs.Invariant.{Every, Safe, also, none}
use Rattle.reachable.proofs.PacketLists.{every_append, every_both, every_map}
use Rattle.reachable.proofs.PassesSafe.{passes_safe}
use Rattle.agreement.specs.Kinds.{declares_at, declares_from, declares_only}
use Rattle.agreement.proofs.OneRecord.{TakesSession, after_join, after_link, takes_link, takes_session}

-- the links and sessions of z are those of the table, and every packet is of an active session
record Alike (w : List ℕ) (z : Declared) : Type 0 where
  safe : Safe w
  links : (e : ℕ) → e < 64 → has_of e z.links ≡ declared_in w e
  sessions : (t : ℕ) → t < 32 → has_of t z.sessions ≡ (source_of w t).active
  senders : Every (λ q. (source_of w q.session).active ≡ true) (packets_of w)

empty_alike : Alike empty_words declaring.none_declared
unfolding declaring.none_declared
empty_alike =
    record {
      safe = passes_safe empty_words empty_length empty_is_passing;
      links = λ e h. rw (has_zero e, empty_link e) refl;
      sessions = λ t h. rw (has_zero t, none_active t) refl;
      senders = subst (Every (λ q. (source_of empty_words q.session).active ≡ true)) (sym empty_packets) none;
    }

-- ONE RECORD ----------------------------------------------------------------------------------------------------------

module _ (s w : List ℕ) (z : Declared) (r : Alike w z) where
  -- the calculation takes it too, and what is declared then is what the table has
  abbrev Also : Record → Type 0
  Also x = RecordOk s x → judging s w x ≡ Ok tt → (declaring.judging s z x ≡ Ok tt) × Alike (acting s w x) (declaring.declare_of s z x)

  link_undeclared : (e c : ℕ) → judging s w (rec.Link e c) ≡ Ok tt → declared_in w e ≡ false
  unfolding event_of declare_of
  link_undeclared e c =
      cases (λ (x : Step). x.verdict ≡ Ok tt → declared_in w e ≡ false) (declared_in w e) _ _ (λ t q. absurd (not_ok refusal.AlreadyThere tt q)) (λ t q. t)

  link_also : (e c : ℕ) → Also (rec.Link e c)
  unfolding declaring.judge_of declaring.declare_of
  link_also e c k t =
      let bare = link_undeclared e c t in
      let takes = takes_link s w e c r.safe k (omega (arith, ltb-false 0 (link_of w e).capacity bare)) in
      let v = after_link w e c in
      let source : (u : ℕ) → u < 32 → (source_of v u).active ≡ (source_of w u).active =
      λ u l. ap (λ (y : Source). y.active) (source_after_link w e (new_link c) u k.0 l) in (
        rw (r.links e k.0 ∙ bare) refl,
        subst (λ (y : List ℕ). Alike y (declaring.declare_of s z (rec.Link e c))) (sym (ap (λ (y : Step). y.words) takes.does))
            (record {
              safe = takes.safe;
              links = λ i l.
                  put_is e i z.links (declared_in v i) (λ q. ap (declared_in v) (sym q) ∙ ap (ltb 0) takes.here ∙ lt-ltb 0 c k.1)
                  (λ n. r.links i l ∙ ap (ltb 0) (sym (takes.elsewhere i (λ q. n (sym q)))));
              sessions = λ u l. r.sessions u l ∙ sym (source u l);
              senders = subst (Every (λ q. (source_of v q.session).active ≡ true)) (sym (packets_after_link w e (new_link c) k.0))
                  (every_map (packets_of w) (λ q h. source q.session h.0.within.session ∙ h.1) (every_both (packets_of w) r.safe.packets r.senders));
            }),
      )

  -- what the machine found where it takes a session's record
  record Found (t a m n at : ℕ) : Type 0 where
    idle : (source_of w t).active ≡ false
    line : above_line a m ≡ false
    declared : path_declared_in w s at n ≡ true
    few : count_of w < 256

  session_found : (t a m n at : ℕ) → judging s w (a_session t a m n at) ≡ Ok tt → Found t a m n at
  unfolding event_of join_of source_sends joining_of
  session_found t a m n at =
      cases Finds (source_of w t).active _ _ (λ i e. absurd (not_ok refusal.AlreadyThere tt e))
      (λ i.
      cases Finds (above_line a m) _ _ (λ l e. absurd (not_ok refusal.AboveLine tt e))
      (λ l.
      cases Finds (path_declared_in w s at n) _ _
      (λ p.
      cases Finds (none_of w t (count_of w)) _ _
      (λ q.
      cases Finds (ltb 256 (count_of w + 1)) _ _ (λ f e. absurd (not_ok refusal.TooManyPackets tt e))
      (λ f e. record { idle = i; line = l; declared = p; few = omega (arith, ltb-false 256 (count_of w + 1) f) }))
      (λ q e. absurd (not_ok refusal.StillLeaving tt e)))
      (λ p e. absurd (not_ok refusal.UndeclaredLink tt e))))
    where
      Finds : Step → Type 0
      Finds x = x.verdict ≡ Ok tt → Found t a m n at

  session_also : (t a m n at : ℕ) → Also (a_session t a m n at)
  unfolding declaring.judge_of declaring.declare_of
  session_also t a m n at k taken =
      let v = after_join s w t a m n at in
      let places : (e : ℕ) → e < 64 → declared_in w e ≡ declared_in v e =
      λ e l. ap (λ (p : Place). ltb 0 p.link.capacity) (sym (takes.joined.places e l)) in
      let others : (u : ℕ) → u < 32 → (u ≡ t → ⊥) → (source_of v u).active ≡ (source_of w u).active =
      λ u l d. ap (λ (y : Source). y.active) (takes.joined.sources u l d) in (
        rw (r.sessions t k.0 ∙ found.idle, found.line, known) refl,
        subst (λ (y : List ℕ). Alike y (declaring.declare_of s z (a_session t a m n at))) (sym (ap (λ (y : Step). y.words) takes.does))
            (record {
              safe = takes.safe;
              links = λ e l. r.links e l ∙ places e l;
              sessions = λ u l.
                  put_is t u z.sessions (source_of v u).active (λ q. ap (λ (y : ℕ). (source_of v y).active) (sym q) ∙ takes.joined.active)
                  (λ d. r.sessions u l ∙ sym (others u l (λ q. d (sym q))));
              senders = subst (Every (λ q. (source_of v q.session).active ≡ true)) (sym takes.joined.packets)
                  (every_append (packets_of w) _
                  (every_map (packets_of w) (λ q h. others q.session h.0.within.session (gone q h.1) ∙ h.1)
                  (every_both (packets_of w) r.safe.packets r.senders))
                  (also takes.joined.active none));
            }),
      )
    where
      found : Found t a m n at
      found = session_found t a m n at taken

      path : Path s at n
      path = path_is s at n k.4

      link_there : (h : ℕ) → h < n → declared_in w (get_or s (at + h) 0) ≡ true
      link_there h l = path_declared_lem w s at n found.declared h l

      gone : (q : Packet) → (source_of w q.session).active ≡ true → q.session ≡ t → ⊥
      gone q h e = clash _ (ap (λ (y : ℕ). (source_of w y).active) (sym e) ∙ h) found.idle

      known : declaring.path_declared z.links s at n ≡ true
      known = all_declared z.links s at n (λ h l. r.links (get_or s (at + h) 0) (path.link h l) ∙ link_there h l)

      takes : TakesSession s w t a m n at
      takes =
          takes_session s w r.safe t a m n at k found.idle found.line (λ h l. ltb-true 0 _ (link_there h l))
          (every_map (packets_of w) gone r.senders) found.few

-- ALL RECORDS ---------------------------------------------------------------------------------------------------------

-- a record of kind 1 or 2 is read alike by both calls
same_read : (s : List ℕ) (at : ℕ) → declares_at s at ≡ true → read_at call.Machine s at ≡ read_at call.Calculation s at
unfolding read_at
same_read s at t = chosen (takes_of call.Machine (get_or s at 0)) (takes_of call.Calculation (get_or s at 0)) _ _ (machine_takes (or_either _ _ t) ∙ sym t)
  where
    machine_takes : (eqb (get_or s at 0) 1 ≡ true) ⊎ (eqb (get_or s at 0) 2 ≡ true) → takes_of call.Machine (get_or s at 0) ≡ true
    machine_takes (inl e) = ap (takes_of call.Machine) (eqb-true (get_or s at 0) 1 e)
    machine_takes (inr e) = ap (takes_of call.Machine) (eqb-true (get_or s at 0) 2 e)

module _ (s : List ℕ) (bytes : Bytes s) where
  record_also : (w : List ℕ) (z : Declared) (at : ℕ) (x : Record) → Alike w z → declares_at s at ≡ true
      → judged (read_at call.Machine s at) (judging s w) ≡ Ok x
      → (judged (read_at call.Calculation s at) (declaring.judging s z) ≡ Ok x) × Alike (acting s w x) (declaring.declare_of s z x)
  record_also w z at x r kind taken =
      let b = go (read_shape s at x is) (judged_record_ok call.Machine s at (judging s w) x taken bytes) (judged_taken (read_at call.Machine s at) (judging s w) x taken) in
      (ap (λ (y : Result Record Refusal). judged y (declaring.judging s z)) is ∙ ap (λ (v : Result ⊤ Refusal). weighed v x) b.0, b.1)
    where
      is : read_at call.Calculation s at ≡ Ok x
      is = sym (same_read s at kind) ∙ judged_read (read_at call.Machine s at) (judging s w) x taken

      go : IsLink s at x ⊎ IsSession s at x → Also s w z r x
      go (inl k) = subst (Also s w z r) (sym k.what) (link_also s w z r _ _)
      go (inr k) = subst (Also s w z r) (sym k.what) (session_also s w z r _ _ _ _ _)

  abbrev machine : ℕ → List ℕ → ℕ → ℕ → Ran (List ℕ)
  machine k w n at = run_from call.Machine (judging s) (acting s) s k w n at

  abbrev reader : ℕ → Declared → ℕ → ℕ → Ran Declared
  reader k z n at = run_from call.Calculation (declaring.judging s) (declaring.declare_of s) s k z n at

  also_from : (k : ℕ) (w : List ℕ) (z : Declared) (n at : ℕ) → Alike w z → declares_from k s at ≡ true → (machine k w n at).end ≡ Ok tt
      → (reader k z n at).end ≡ Ok tt
  unfolding run_from declares_from
  also_from zero w z n at r d e = refl
  also_from (suc k) w z n at r d e = go (finished_turn call.Machine (judging s) (acting s) s k w n at e) d (λ v y m p. also_from k v y m p)
    where
      go : (length s ≤ at) ⊎ TookOne call.Machine (judging s) (acting s) s k w n at
          → cond (ltb at (length s)) (declares_at s at && declares_from k s (at + size_at s at)) true ≡ true
          → ((v : List ℕ) (y : Declared) (m p : ℕ) → Alike v y → declares_from k s p ≡ true → (machine k v m p).end ≡ Ok tt
          → (reader k y m p).end ≡ Ok tt)
          → (reader (suc k) z n at).end ≡ Ok tt
      go (inl l) g again = ap (λ (x : Ran Declared). x.end) (run_end call.Calculation (declaring.judging s) (declaring.declare_of s) s (suc k) z n at l)
      go (inr t) g again =
          let b = and_both (declares_at s at) _ (rw (lt-ltb at (length s) t.within) at g) in
          let a = record_also w z at t.what r b.0 t.taken in
          ap (λ (x : Ran Declared). x.end) (run_takes call.Calculation (declaring.judging s) (declaring.declare_of s) s k z n at t.what t.within a.0)
          ∙ again (acting s w t.what) (declaring.declare_of s z t.what) (n + 1) (at + size_at s at) a.1 b.1 t.rest

-- what the machine takes whole, the calculation accepts
pub taken_accepted : (s : List ℕ) → Bytes s → declares_only s ≡ true → (machine_of empty_words s).end ≡ Ok tt
    → (declaring.declarations_of s).end ≡ Ok tt
unfolding machine_of run_records_of declaring.declarations_of declares_only
taken_accepted s bytes d =
    cases Accepts (passes14_of empty_words) _ _
    (λ t.
    cases Accepts (ltb 32768 (length s)) _ _ (λ f e. absurd (not_ok (refused_at refusal.TooLong 0) tt e))
    (λ f e. also_from s bytes (length s) empty_words declaring.none_declared 0 0 empty_alike d e))
    (λ t e. absurd (not_ok (refused_at refusal.BadTable 0) tt e))
  where
    Accepts : Ran (List ℕ) → Type 0
    Accepts r = r.end ≡ Ok tt → (reader s bytes (length s) declaring.none_declared 0 0).end ≡ Ok tt
