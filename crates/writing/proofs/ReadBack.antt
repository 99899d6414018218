-- 02, §3: "Reading the output gives the same declarations": the calculation's reader takes all records of a set that can be declared, and gives an
-- equal set.
-- Assumes nothing.
use Rattle.std.specs.Prelude.{Ok}
use mathlib.Core.Bool.{false, true}
use mathlib.Core.List.{List, ◌++◌}
use mathlib.Core.Logic.{◌⊎◌, inl, inr}
use mathlib.Core.Path.{◌≡◌, ap, refl, sym, ◌∙◌}
use Prim.Native.Nat.{ℕ, suc, ◌+◌, ◌*◌, ◌^◌, ◌<◌, ◌≤◌}
use native.Mathlib.Omega.{arith}
use lib.ListN.{get_or, length, set}
use lib.Seq.{get_or-set_other, get_or-set_same}
use Rattle.fractions.proofs.Cases.{last}
use Rattle.sessions.specs.Set.{has, has_of, put}
use Rattle.sessions.proofs.Members.{has_put_other, has_put_same, has_zero, is_in, is_out, member_below, out_is, put_lt, same_members}
use Rattle.fairness.specs.Figure1.{values}
use Rattle.records.specs.Format.{a_session}
use Rattle.records.specs.Limits.{above_line}
use Rattle.records.specs.declared.Call.TheVariants as call
use Rattle.records.specs.declared.Record.TheVariants as rec
use Rattle.records.proofs.PathBytes.{path_same}
use Rattle.records.proofs.ReadRecords.{path_size_lem}
use Rattle.search.specs.Crossing.{byte_at}
use Rattle.declarations.specs.Declaring.{copied, declarations_of, declare_of, judge_of, judging, none_declared, path_declared}
use Rattle.declarations.specs.declared.Declared.{Declared}
use Rattle.declarations.proofs.Copied.{copied_other, copied_there}
use Rattle.declarations.proofs.DeclaredPaths.{declared_same}
use Rattle.declarations.proofs.KeepsLengths.{Lengths, declare_lengths, none_lengths}
use Rattle.writing.specs.Sets.{Declarable, SameSet}
use Rattle.writing.specs.Writing.{link_from, link_records, path_size, records_of, session_from, session_records}
use Rattle.writing.proofs.Appending.{stands}
use Rattle.writing.proofs.ReadRecords.{link_read, link_size, session_path, session_read, session_size}
use Rattle.writing.proofs.RunOver.{Taken, run_both}

-- what is written for b, and stays for those below it
set_old : (l m : List ℕ) (b v t : ℕ) → b < length l → v ≡ get_or m b 0 → (t < b) ⊎ (t ≡ b) → (t < b → get_or m t 0 ≡ get_or l t 0) → get_or m t 0 ≡ get_or (set l b v) t 0
set_old l m b v t h q (inl i) f = f i ∙ sym (get_or-set_other l b t v 0 (λ e. omega (arith, e)))
set_old l m b v t h q (inr e) f =
    ap (λ (y : ℕ). get_or m y 0) e ∙ sym q ∙ sym (get_or-set_same l b v 0 h) ∙ ap (λ (y : ℕ). get_or (set l b v) y 0) (sym e)

-- THE LINKS -----------------------------------------------------------------------------------------------------------

-- of the links below b those of d are declared, with their capacities, and no session
record LinksRead (d : Declared) (b : ℕ) (z : Declared) : Type 0 where
  word : z.links < 2 ^ 64
  old : (e : ℕ) → e < b → has e z.links ≡ has e d.links
  new : (e : ℕ) → b ≤ e → has e z.links ≡ 0
  capacity : (e : ℕ) → e < b → has e d.links ≡ 1 → get_or d.capacity e 0 ≡ get_or z.capacity e 0
  none : z.sessions ≡ 0
  lengths : Lengths z

none_read : (d : Declared) → LinksRead d 0 none_declared
unfolding none_declared
none_read d =
    record {
      word = omega arith;
      old = λ e h. absurd (omega arith);
      new = λ e h. has_zero e;
      capacity = λ e h. absurd (omega arith);
      none = refl;
      lengths = none_lengths;
    }

links_skip : (d : Declared) (b : ℕ) (z : Declared) → has_of b d.links ≡ false → LinksRead d b z → LinksRead d (suc b) z
links_skip d b z q r =
    record {
      word = r.word;
      old = λ e h. old e (last h);
      new = λ e h. r.new e (omega arith);
      capacity = λ e h m. r.capacity e (member_below d.links b e q h m) m;
      none = r.none;
      lengths = r.lengths;
    }
  where
    old : (e : ℕ) → (e < b) ⊎ (e ≡ b) → has e z.links ≡ has e d.links
    old e (inl h) = r.old e h
    old e (inr h) = r.new e (omega arith) ∙ sym (ap (λ (v : ℕ). has v d.links) h ∙ is_out d.links b q)

module _ (d : Declared) (ok : Declarable d) (s : List ℕ) where
  links_next : (b : ℕ) (z : Declared) → b < 64 → has b d.links ≡ 1 → LinksRead d b z
      → LinksRead d (suc b) (declare_of s z (rec.Link b (get_or d.capacity b 0)))
  unfolding declare_of
  links_next b z h m r =
      record {
        word = put_lt 64 b z.links h r.word;
        old = λ e l. old e (last l);
        new = λ e l. has_put_other b e z.links (λ q. omega arith) ∙ r.new e (omega arith);
        capacity = λ e l i. set_old z.capacity d.capacity b _ e (omega (arith, r.lengths.capacity)) refl (last l) (λ k. r.capacity e k i);
        none = r.none;
        lengths = declare_lengths s z (rec.Link b (get_or d.capacity b 0)) r.lengths;
      }
    where
      old : (e : ℕ) → (e < b) ⊎ (e ≡ b) → has e (put b z.links) ≡ has e d.links
      old e (inl l) = has_put_other b e z.links (λ q. omega arith) ∙ r.old e l
      old e (inr q) = ap (λ (v : ℕ). has v (put b z.links)) q ∙ has_put_same b z.links ∙ sym (ap (λ (v : ℕ). has v d.links) q ∙ m)

  links_turn : (b : ℕ) (z : Declared) (before behind : List ℕ) → b < 64 → has_of b d.links ≡ true → LinksRead d b z → s ≡ before ++ (link_from d.capacity b ++ behind)
      → Taken call.Calculation (judging s) (declare_of s) s (LinksRead d) b z (length before) 6
  unfolding judge_of
  links_turn b z before behind h t r e =
      let there = stands s before (link_from d.capacity b) behind e in
      let m = is_in d.links b t in
      let capacity = get_or d.capacity b 0 in
      let out = out_is z.links b (r.new b (omega arith)) in
      record {
        what = rec.Link b capacity;
        taken = rw (link_read s (length before) b capacity there call.Calculation h (ok.capacity b h m), out) refl;
        long = link_size s (length before) b capacity there;
        some = omega arith;
        fits = there.fits;
        next = links_next b z h m r;
      }

-- THE SESSIONS --------------------------------------------------------------------------------------------------------

-- all links of d are declared, and of the sessions below b those of d, with all that is theirs
record SessionsRead (d : Declared) (b : ℕ) (z : Declared) : Type 0 where
  links : d.links ≡ z.links
  capacity : (e : ℕ) → e < 64 → has e d.links ≡ 1 → get_or d.capacity e 0 ≡ get_or z.capacity e 0
  word : z.sessions < 2 ^ 32
  old : (t : ℕ) → t < b → has t z.sessions ≡ has t d.sessions
  new : (t : ℕ) → b ≤ t → has t z.sessions ≡ 0
  access : (t : ℕ) → t < b → has t d.sessions ≡ 1 → get_or d.access t 0 ≡ get_or z.access t 0
  maximum : (t : ℕ) → t < b → has t d.sessions ≡ 1 → get_or d.maximum t 0 ≡ get_or z.maximum t 0
  path : (t : ℕ) → t < b → has t d.sessions ≡ 1 → (h : ℕ) → h < 8 → byte_at d.path t h ≡ byte_at z.path t h
  lengths : Lengths z

links_done : (d : Declared) (z : Declared) → Declarable d → LinksRead d 64 z → SessionsRead d 0 z
links_done d z ok r =
    record {
      links = same_members 64 d.links z.links ok.links r.word (λ e h. sym (r.old e h));
      capacity = λ e h m. r.capacity e h m;
      word = rw r.none (omega arith);
      old = λ t h. absurd (omega arith);
      new = λ t h. ap (has t) r.none ∙ has_zero t;
      access = λ t h. absurd (omega arith);
      maximum = λ t h. absurd (omega arith);
      path = λ t h. absurd (omega arith);
      lengths = r.lengths;
    }

sessions_skip : (d : Declared) (b : ℕ) (z : Declared) → has_of b d.sessions ≡ false → SessionsRead d b z → SessionsRead d (suc b) z
sessions_skip d b z q r =
    record {
      links = r.links;
      capacity = r.capacity;
      word = r.word;
      old = λ t h. old t (last h);
      new = λ t h. r.new t (omega arith);
      access = λ t h m. r.access t (member_below d.sessions b t q h m) m;
      maximum = λ t h m. r.maximum t (member_below d.sessions b t q h m) m;
      path = λ t h m. r.path t (member_below d.sessions b t q h m) m;
      lengths = r.lengths;
    }
  where
    old : (t : ℕ) → (t < b) ⊎ (t ≡ b) → has t z.sessions ≡ has t d.sessions
    old t (inl h) = r.old t h
    old t (inr h) = r.new t (omega arith) ∙ sym (ap (λ (v : ℕ). has v d.sessions) h ∙ is_out d.sessions b q)

module _ (d : Declared) (ok : Declarable d) (s : List ℕ) where
  sessions_next : (b at : ℕ) (z : Declared) → b < 32 → has b d.sessions ≡ 1 → SessionsRead d b z
      → ((h : ℕ) → h < 8 → get_or s (at + h) 0 ≡ byte_at d.path b h)
      → SessionsRead d (suc b) (declare_of s z (a_session b (get_or d.access b 0) (get_or d.maximum b 0) (path_size d.path b) at))
  unfolding declare_of
  sessions_next b at z h m r bytes =
      record {
        links = r.links;
        capacity = r.capacity;
        word = put_lt 32 b z.sessions h r.word;
        old = λ t l. old t (last l);
        new = λ t l. has_put_other b t z.sessions (λ q. omega arith) ∙ r.new t (omega arith);
        access = λ t l i. set_old z.access d.access b _ t (omega (arith, r.lengths.access)) refl (last l) (λ k. r.access t k i);
        maximum = λ t l i. set_old z.maximum d.maximum b _ t (omega (arith, r.lengths.maximum)) refl (last l) (λ k. r.maximum t k i);
        path = λ t l i j k. path t (last l) i j k;
        lengths = declare_lengths s z (a_session b (get_or d.access b 0) (get_or d.maximum b 0) (path_size d.path b) at) r.lengths;
      }
    where
      old : (t : ℕ) → (t < b) ⊎ (t ≡ b) → has t (put b z.sessions) ≡ has t d.sessions
      old t (inl l) = has_put_other b t z.sessions (λ q. omega arith) ∙ r.old t l
      old t (inr q) = ap (λ (v : ℕ). has v (put b z.sessions)) q ∙ has_put_same b z.sessions ∙ sym (ap (λ (v : ℕ). has v d.sessions) q ∙ m)

      path : (t : ℕ) → (t < b) ⊎ (t ≡ b) → has t d.sessions ≡ 1 → (j : ℕ) → j < 8 → byte_at d.path t j ≡ byte_at (copied 8 z.path (b * 8) s at) t j
      path t (inl l) i j k = r.path t l i j k ∙ sym (copied_other 8 z.path (b * 8) s at (t * 8 + j) (inl (omega arith)))
      path t (inr q) i j k =
          ap (λ (v : ℕ). byte_at d.path v j) q
          ∙ sym (bytes j k)
          ∙ sym (copied_there 8 z.path (b * 8) s at j k (omega (arith, r.lengths.path)))
          ∙ ap (λ (v : ℕ). byte_at (copied 8 z.path (b * 8) s at) v j) (sym q)

  sessions_turn : (b : ℕ) (z : Declared) (before behind : List ℕ) → b < 32 → has_of b d.sessions ≡ true → SessionsRead d b z
      → s ≡ before ++ (session_from d.access d.maximum d.path b ++ behind) → Taken call.Calculation (judging s) (declare_of s) s (SessionsRead d) b z (length before) 19
  unfolding judge_of values
  sessions_turn b z before behind h t r e =
      let there = stands s before (session_from d.access d.maximum d.path b) behind e in
      let at = length before in
      let m = is_in d.sessions b t in
      let access = get_or d.access b 0 in
      let maximum = get_or d.maximum b 0 in
      let size = path_size d.path b in
      let bytes = session_path s at b access maximum size (byte_at d.path b) there in
      let small = (path_size_lem d.path (b * 8) size (ok.path b h m)).1 in
      let path = path_same s (at + 11) d.path (b * 8) bytes size small ∙ ok.path b h m in
      let out = out_is z.sessions b (r.new b (omega arith)) in
      let line : above_line access maximum ≡ false = ok.line b h m in
      let known : path_declared z.links s (at + 11) size ≡ true =
      ap (λ (v : ℕ). path_declared v s (at + 11) size) (sym r.links)
      ∙ declared_same s (at + 11) d.path (b * 8) bytes d.links size small
      ∙ ok.declared b h m in
      record {
        what = a_session b access maximum size (at + 11);
        taken = rw (session_read s at b access maximum size (byte_at d.path b) there call.Calculation h (ok.access b h m) (ok.maximum b h m) path, out, line, known) refl;
        long = session_size s at b access maximum size (byte_at d.path b) there;
        some = omega arith;
        fits = there.fits;
        next = sessions_next b (at + 11) z h m r bytes;
      }

-- ALL RECORDS ---------------------------------------------------------------------------------------------------------

sessions_done : (d z : Declared) → Declarable d → SessionsRead d 32 z → SameSet d z
sessions_done d z ok r =
    record {
      links = r.links;
      capacity = r.capacity;
      sessions = same_members 32 d.sessions z.sessions ok.sessions r.word (λ t h. sym (r.old t h));
      access = r.access;
      maximum = r.maximum;
      path = r.path;
    }

-- the output is accepted whole, and reading it gives an equal set
pub read_back : (d : Declared) → Declarable d
    → ((declarations_of (records_of d)).end ≡ Ok tt) × SameSet d (declarations_of (records_of d)).declared
unfolding declarations_of records_of values
read_back d ok =
    let s = link_records d.links d.capacity ++ session_records d.sessions d.access d.maximum d.path in
    let r =
    run_both call.Calculation (judging s) (declare_of s) (LinksRead d) (SessionsRead d) 64 32 (λ e. has_of e d.links) (λ t. has_of t d.sessions)
    (link_from d.capacity) (session_from d.access d.maximum d.path) (links_turn d ok s) (links_skip d) (sessions_turn d ok s) (sessions_skip d)
    (λ z. links_done d z ok) none_declared (none_read d) in
    (r.end, sessions_done d _ ok r.inv)
