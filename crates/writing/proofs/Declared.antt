-- What an input declares is a set that can be declared (`Declarable`), as every record that is taken leaves one.
-- Assumes nothing.
use Rattle.std.specs.Prelude.{Ok}
use mathlib.Core.Bool.{false, true}
use mathlib.Core.List.{List}
use mathlib.Core.Logic.{◌⊎◌, inl, inr}
use mathlib.Core.Path.{◌≡◌, ap, subst, sym, ◌∙◌}
use Prim.Native.Nat.{ℕ, ◌+◌, ◌*◌, ◌<◌, ◌≤◌}
use native.Mathlib.Decide.{ℕ_discrete}
use native.Mathlib.Omega.{arith}
use lib.ListN.{get_or, length, set}
use lib.Seq.{get_or-set_other, get_or-set_same}
use Rattle.fractions.proofs.Cases.{chose_first, chose_second, order}
use Rattle.sessions.specs.Set.{has, has_of, put}
use Rattle.sessions.proofs.Members.{has_put_other, has_zero, put_lt}
use Rattle.records.specs.Format.{a_session, Bytes, RecordOk, path_ok, rate_ok}
use Rattle.records.specs.Limits.{above_line}
use Rattle.records.specs.declared.Call.TheVariants as call
use Rattle.records.specs.declared.Record.{Record}
use Rattle.records.specs.declared.Record.TheVariants as rec
use Rattle.records.specs.declared.Refusal.TheVariants as refusal
use Rattle.records.proofs.PathBytes.{path_same}
use Rattle.records.proofs.Rates.{rate_passes}
use Rattle.records.proofs.ReadRecords.{path_size_lem}
use Rattle.records.proofs.Refusing.{not_ok}
use Rattle.records.proofs.Runs.{run_keeps}
use Rattle.declarations.specs.Declaring.{copied, declarations_of, declare_of, judge_of, judging, none_declared, path_declared}
use Rattle.declarations.specs.declared.Declared.{Declared}
use Rattle.declarations.proofs.Copied.{copied_other, copied_there}
use Rattle.declarations.proofs.DeclaredPaths.{declared_same, more_links}
use Rattle.declarations.proofs.KeepsLengths.{Lengths, declare_lengths, none_lengths}
use Rattle.writing.specs.Sets.{Declarable}
use Rattle.writing.specs.Writing.{path_size}
use Rattle.writing.proofs.EqualOutput.{size_same}
use Rattle.writing.proofs.Paths.{path_size_is}

-- a set that can be declared, in arrays of their lengths
record Kept (d : Declared) : Type 0 where
  ok : Declarable d
  lengths : Lengths d

none_kept : Kept none_declared
unfolding none_declared
none_kept =
    record {
      ok =
          record {
            links = omega arith;
            sessions = omega arith;
            capacity = λ e h m. absurd (omega (arith, m, has_zero e));
            access = λ t h m. absurd (omega (arith, m, has_zero t));
            maximum = λ t h m. absurd (omega (arith, m, has_zero t));
            line = λ t h m. absurd (omega (arith, m, has_zero t));
            path = λ t h m. absurd (omega (arith, m, has_zero t));
            declared = λ t h m. absurd (omega (arith, m, has_zero t));
          };
      lengths = none_lengths;
    }

-- who is a member after b comes is b, or was one
member_was : (b t w : ℕ) → has t (put b w) ≡ 1 → (b ≡ t → ⊥) → has t w ≡ 1
member_was b t w m n = sym (has_put_other b t w n) ∙ m

-- a number written at b, and one at another place
set_is : (l : List ℕ) (b v t : ℕ) → b < length l → (P : ℕ → Type 0) → P v → ((b ≡ t → ⊥) → P (get_or l t 0)) → P (get_or (set l b v) t 0)
set_is l b v t h P p q = go (ℕ_discrete b t)
  where
    go : Dec (b ≡ t) → P (get_or (set l b v) t 0)
    go (yes e) = subst P (sym (ap (λ (y : ℕ). get_or (set l b v) y 0) (sym e) ∙ get_or-set_same l b v 0 h)) p
    go (no n) = subst P (sym (get_or-set_other l b t v 0 (λ e. n (sym e)))) (q n)

-- A LINK --------------------------------------------------------------------------------------------------------------

link_kept : (s : List ℕ) (d : Declared) (e c : ℕ) → Kept d → RecordOk s (rec.Link e c) → Kept (declare_of s d (rec.Link e c))
unfolding declare_of
link_kept s d e c k r =
    record {
      ok =
          record {
            links = put_lt 64 e d.links r.0 k.ok.links;
            sessions = k.ok.sessions;
            capacity = λ i h m.
                set_is d.capacity e c i (omega (arith, k.lengths.capacity, r.0)) (λ (v : ℕ). rate_ok v ≡ true) (rate_passes c r.1 r.2)
                (λ n. k.ok.capacity i h (member_was e i d.links m n));
            access = k.ok.access;
            maximum = k.ok.maximum;
            line = k.ok.line;
            path = k.ok.path;
            declared = λ t h m. more_links d.links e d.path (t * 8) (path_size d.path t) (k.ok.declared t h m);
          };
      lengths = declare_lengths s d (rec.Link e c) k.lengths;
    }

-- A SESSION -----------------------------------------------------------------------------------------------------------

module _ (s : List ℕ) (d : Declared) (b a m n at : ℕ) (k : Kept d) (r : RecordOk s (a_session b a m n at))
    (line : above_line a m ≡ false) (known : path_declared d.links s at n ≡ true) where
  abbrev new : List ℕ
  new = copied 8 d.path (b * 8) s at

  path_new : (h : ℕ) → h < 8 → get_or s (at + h) 0 ≡ get_or new (b * 8 + h) 0
  path_new h l = sym (copied_there 8 d.path (b * 8) s at h l (omega (arith, k.lengths.path, r.0)))

  path_old : (t : ℕ) → (b ≡ t → ⊥) → (h : ℕ) → h < 8 → get_or new (t * 8 + h) 0 ≡ get_or d.path (t * 8 + h) 0
  path_old t f h l = copied_other 8 d.path (b * 8) s at (t * 8 + h) (side (order t b))
    where
      side : (t ≤ b) ⊎ (b < t) → (t * 8 + h < b * 8) ⊎ (b * 8 + 8 ≤ t * 8 + h)
      side (inl q) = inl (omega (arith, apart t b q f))
        where
          apart : (t b : ℕ) → t ≤ b → (b ≡ t → ⊥) → t < b
          apart t b q f = omega arith
      side (inr q) = inr (omega arith)

  small : n ≤ 8
  small = (path_size_lem s at n r.4).1

  size_new : path_size new b ≡ n
  size_new = path_size_is s at n new b r.4 (λ h l. sym (path_new h l))

  ok_at : (t : ℕ) → t < 32 → has t (put b d.sessions) ≡ 1 → Dec (b ≡ t) → path_ok new (t * 8) (path_size new t) ≡ true
  ok_at t h i (yes q) =
      subst (λ (v : ℕ). path_ok new (v * 8) (path_size new v) ≡ true) q
      (ap (path_ok new (b * 8)) size_new ∙ sym (path_same s at new (b * 8) path_new n small) ∙ r.4)
  ok_at t h i (no f) =
      let old = k.ok.path t h (member_was b t d.sessions i f) in
      let size = size_same new d.path t t (path_old t f) in
      ap (path_ok new (t * 8)) size
      ∙ path_same new (t * 8) d.path (t * 8) (path_old t f) (path_size d.path t) (path_size_lem d.path (t * 8) (path_size d.path t) old).1
      ∙ old

  declared_at : (t : ℕ) → t < 32 → has t (put b d.sessions) ≡ 1 → Dec (b ≡ t) → path_declared d.links new (t * 8) (path_size new t) ≡ true
  declared_at t h i (yes q) =
      subst (λ (v : ℕ). path_declared d.links new (v * 8) (path_size new v) ≡ true) q
      (ap (path_declared d.links new (b * 8)) size_new ∙ sym (declared_same s at new (b * 8) path_new d.links n small) ∙ known)
  declared_at t h i (no f) =
      let was = member_was b t d.sessions i f in
      let old = k.ok.path t h was in
      let size = size_same new d.path t t (path_old t f) in
      ap (path_declared d.links new (t * 8)) size
      ∙ declared_same new (t * 8) d.path (t * 8) (path_old t f) d.links (path_size d.path t) (path_size_lem d.path (t * 8) (path_size d.path t) old).1
      ∙ k.ok.declared t h was

  line_at : (t : ℕ) → t < 32 → has t (put b d.sessions) ≡ 1 → Dec (b ≡ t) → above_line (get_or (set d.access b a) t 0) (get_or (set d.maximum b m) t 0) ≡ false
  line_at t h i (yes q) =
      subst (λ (v : ℕ). above_line (get_or (set d.access b a) v 0) (get_or (set d.maximum b m) v 0) ≡ false) q
      (rw (get_or-set_same d.access b a 0 (omega (arith, k.lengths.access, r.0)), get_or-set_same d.maximum b m 0 (omega (arith, k.lengths.maximum, r.0))) line)
  line_at t h i (no f) =
      rw (get_or-set_other d.access b t a 0 (λ e. f (sym e)), get_or-set_other d.maximum b t m 0 (λ e. f (sym e)))
      (k.ok.line t h (member_was b t d.sessions i f))

  session_kept : Kept (declare_of s d (a_session b a m n at))
  unfolding declare_of
  session_kept =
      record {
        ok =
            record {
              links = k.ok.links;
              sessions = put_lt 32 b d.sessions r.0 k.ok.sessions;
              capacity = k.ok.capacity;
              access = λ t h i.
                  set_is d.access b a t (omega (arith, k.lengths.access, r.0)) (λ (v : ℕ). rate_ok v ≡ true) (rate_passes a r.1 r.2)
                  (λ f. k.ok.access t h (member_was b t d.sessions i f));
              maximum = λ t h i.
                  set_is d.maximum b m t (omega (arith, k.lengths.maximum, r.0)) (λ (v : ℕ). v ≤ 1000000) r.3
                  (λ f. k.ok.maximum t h (member_was b t d.sessions i f));
              line = λ t h i. line_at t h i (ℕ_discrete b t);
              path = λ t h i. ok_at t h i (ℕ_discrete b t);
              declared = λ t h i. declared_at t h i (ℕ_discrete b t);
            };
        lengths = declare_lengths s d (a_session b a m n at) k.lengths;
      }

-- ANY RECORD, ANY INPUT -----------------------------------------------------------------------------------------------

record_kept : (s : List ℕ) (d : Declared) (x : Record) → Kept d → RecordOk s x → judging s d x ≡ Ok tt → Kept (declare_of s d x)
unfolding judge_of
record_kept s d (rec.Link e c) k r t = link_kept s d e c k r
record_kept s d (rec.Session x) k r t =
    let one = chose_second _ (has_of x.session d.sessions) t (not_ok refusal.AlreadyThere tt) in
    let rest = rw one at t in
    let two = chose_second _ (above_line x.access x.maximum) rest (not_ok refusal.AboveLine tt) in
    let last = rw two at rest in
    let three = (chose_first (path_declared d.links s x.path x.size) last (not_ok refusal.UndeclaredLink tt)).0 in
    session_kept s d x.session x.access x.maximum x.size x.path k r two three
record_kept s d (rec.Leave u) k r t = absurd (not_ok refusal.KindNotTaken tt t)
record_kept s d (rec.Change u m) k r t = absurd (not_ok refusal.KindNotTaken tt t)
record_kept s d (rec.Deliver p) k r t = absurd (not_ok refusal.KindNotTaken tt t)

-- what an input declares, up to its end or to the record that is refused, can be declared
pub declarations_declarable : (s : List ℕ) → Bytes s → Declarable (declarations_of s).declared
unfolding declarations_of
declarations_declarable s bytes = (run_keeps Kept call.Calculation (judging s) (declare_of s) s bytes (record_kept s) (length s) none_declared 0 0 none_kept).ok
