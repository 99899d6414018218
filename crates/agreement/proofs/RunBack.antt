-- 02, §3: the machine reads the output too: `run` on the empty table takes all records of a set that can be declared, one for each link and session, and
-- the table after it holds an equal set.
-- Assumes nothing.
use mathlib.Core.List.{List, [], ◌∷◌, ◌++◌}
use mathlib.Core.Logic.{◌⊎◌, inl, inr}
use mathlib.Core.Path.{◌≡◌, ap, refl, sym, ◌∙◌}
use Prim.Native.Nat.{ℕ, ◌*◌, ◌<◌, ◌≤◌}
use native.Mathlib.Omega.{arith}
use borrow.Author.Tests.{le-ltb, lt-ltb}
use lib.Dec.{ltb}
use lib.ListN.{get_or, length}
use Rattle.fractions.proofs.Cases.{and_both, order}
use Rattle.fairness.specs.Figure1.{values}
use Rattle.sessions.specs.Set.{has, has_of}
use Rattle.sessions.proofs.Members.{has_or_not, in_is, is_in, is_out, out_is, same_members}
use Rattle.records.specs.Run.{run_from}
use Rattle.records.specs.declared.Call.TheVariants as call
use Rattle.records.proofs.PathBytes.{path_is}
use Rattle.search.specs.Crossing.{byte_at}
use Rattle.declarations.specs.declared.Declared.{Declared}
use Rattle.writing.specs.Sets.{Declarable, SameSet}
use Rattle.writing.specs.Writing.{link_from, link_records, path_size, records_of, session_from, session_records}
use Rattle.writing.proofs.Lengths.{output_most, records_long}
use Rattle.writing.proofs.RunOver.{run_both}
use Rattle.handed.proofs.EmptyPasses.{empty_passes}
use Rattle.machine.specs.Machine.{acting, judging, machine_of, run_records_of}
use Rattle.table.specs.Words.{empty_words, hops_of}
use Rattle.conditions.specs.Conditions.{Active}
use Rattle.present_set.specs.Held.{declarations_in, path_byte}
use Rattle.agreement.specs.Loaded.{Loaded}
use Rattle.agreement.proofs.LinksLoaded.{LinksIn, empty_in, links_skip, links_turn}
use Rattle.agreement.proofs.SessionsLoaded.{SessionsIn, links_done, sessions_skip, sessions_turn}
use Rattle.present_set.proofs.TableDeclares.{table_declares, table_links, table_path, table_words}

module _ (d : Declared) (ok : Declarable d) (w : List ℕ) (r : SessionsIn d 32 w) where
  active : (t : ℕ) → t < 32 → has t d.sessions ≡ 1 → Active w t
  active t h m = r.active t h h ∙ in_is d.sessions t m

  same_link : (e : ℕ) → e < 64 → (has e d.links ≡ 0) ⊎ (has e d.links ≡ 1) → has e d.links ≡ has e (declarations_in w).links
  same_link e h (inl m) = m ∙ sym (is_out (declarations_in w).links e (table_links w e h ∙ ap (ltb 0) (r.bare e h m)))
  same_link e h (inr m) =
      let rate = and_both (ltb 0 (get_or d.capacity e 0)) _ (ok.capacity e h m) in
      m ∙ sym (is_in (declarations_in w).links e (table_links w e h ∙ ap (ltb 0) (r.capacity e h m) ∙ rate.0))

  same_session : (t : ℕ) → t < 32 → (has t d.sessions ≡ 0) ⊎ (has t d.sessions ≡ 1) → has t d.sessions ≡ has t (declarations_in w).sessions
  same_session t h (inl m) =
      m ∙ sym (is_out (declarations_in w).sessions t ((table_declares w).active t h ∙ r.active t h h ∙ out_is d.sessions t m))
  same_session t h (inr m) = m ∙ sym (is_in (declarations_in w).sessions t ((table_declares w).active t h ∙ active t h m))

  same_byte : (t : ℕ) → t < 32 → has t d.sessions ≡ 1 → (h : ℕ) → h < 8 → (path_size d.path t ≤ h) ⊎ (h < path_size d.path t)
      → byte_at d.path t h ≡ byte_at (declarations_in w).path t h
  unfolding path_byte
  same_byte t l m h k (inl g) =
      (path_is d.path (t * 8) (path_size d.path t) (ok.path t l m)).rest h k g
      ∙ sym (table_path w t h l k ∙ rw (le-ltb h (hops_of w t) (omega (arith, r.hops t l l m))) refl)
  same_byte t l m h k (inr g) =
      sym (r.stops t l l m h g) ∙ sym (table_path w t h l k ∙ rw (lt-ltb h (hops_of w t) (omega (arith, r.hops t l l m))) refl)

  same_held : SameSet d (declarations_in w)
  same_held =
      record {
        links = same_members 64 d.links (declarations_in w).links ok.links (table_words w).0 (λ e h. same_link e h (has_or_not e d.links));
        capacity = λ e h m. sym ((table_declares w).capacity e h ∙ r.capacity e h m);
        sessions = same_members 32 d.sessions (declarations_in w).sessions ok.sessions (table_words w).1 (λ t h. same_session t h (has_or_not t d.sessions));
        access = λ t h m. sym ((table_declares w).access t h (active t h m) ∙ r.access t h h m);
        maximum = λ t h m. sym ((table_declares w).maximum t h (active t h m) ∙ r.maximum t h h m);
        path = λ t h m j k. same_byte t h m j k (order (path_size d.path t) j);
      }

module _ (d : Declared) (ok : Declarable d) where
  abbrev s : List ℕ
  s = link_records d.links d.capacity ++ session_records d.sessions d.access d.maximum d.path

  loaded : Loaded d (run_from call.Machine (judging s) (acting s) s (length s) empty_words 0 0)
  unfolding values
  loaded =
      let r =
      run_both call.Machine (judging s) (acting s) (LinksIn d) (SessionsIn d) 64 32 (λ e. has_of e d.links) (λ t. has_of t d.sessions)
      (link_from d.capacity) (session_from d.access d.maximum d.path) (links_turn d ok s) (links_skip d) (sessions_turn d ok s) (sessions_skip d)
      (links_done d) empty_words (empty_in d) in
      record {
        end = r.end;
        taken = omega (
          arith,
          r.taken,
          records_long 64 d.links (λ e. e ∷ []) 1 (λ e. refl),
          records_long 32 d.sessions (λ t. t ∷ []) 1 (λ t. refl),
        );
        same = same_held d ok _ r.inv;
      }

-- the machine takes them all, from the empty table on, and its table then holds an equal set: what `run` is proved to do
pub run_back : (d : Declared) → Declarable d → Loaded d (machine_of empty_words (records_of d))
unfolding machine_of run_records_of records_of
run_back d ok = rw (empty_passes, le-ltb 32768 (length (records_of d)) (omega (arith, output_most d))) (loaded d ok)
