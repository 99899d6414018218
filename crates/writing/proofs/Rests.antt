-- What is left of an input in the writer's order, from a place on: the records of all that comes, by rising kind and number; how a link's or a
-- session's record comes before them, and the end.
-- Assumes nothing.
use mathlib.Core.Bool.{Bool, cond, false, true}
use mathlib.Core.List.{List, [], ◌++◌, append_assoc}
use mathlib.Core.Logic.{◌⊎◌, inl, inr}
use mathlib.Core.Path.{◌≡◌, ap, ap₂, refl, sym, ◌∙◌}
use Prim.Native.Nat.{ℕ, zero, suc, ◌+◌, ◌-◌, ◌*◌, ◌<◌, ◌≤◌}
use native.Mathlib.Omega.{arith}
use lib.ListN.{drop, drop_of_length-le, get_or, length}
use lib.Seq.{get_or-set_other, get_or-set_same}
use Rattle.fractions.proofs.Cases.{order}
use Rattle.sessions.specs.Set.{has, has_of}
use Rattle.sessions.proofs.Members.{has_put_other, has_put_same, in_is, out_is}
use Rattle.fairness.specs.Figure1.{values}
use Rattle.fairness.proofs.Running.{values_same}
use Rattle.records.specs.Format.{a_session, path_ok}
use Rattle.records.specs.declared.Record.{Record}
use Rattle.records.specs.declared.Record.TheVariants as rec
use Rattle.search.specs.Crossing.{byte_at}
use Rattle.declarations.specs.Declaring.{declare_of}
use Rattle.declarations.specs.declared.Declared.{Declared}
use Rattle.declarations.proofs.Copied.{copied_other, copied_there}
use Rattle.declarations.proofs.KeepsLengths.{Lengths, declare_lengths}
use Rattle.writing.specs.Writing.{link_from, link_record, path_size, records_from, session_from, session_record}
use Rattle.writing.proofs.MoreRecords.{records_none}
use Rattle.writing.proofs.Paths.{path_size_is}

-- RECORDS BY RISING NUMBER --------------------------------------------------------------------------------------------

module _ (test : ℕ → Bool) (f : ℕ → List ℕ) where
  -- none passes before e, and e does
  records_first : (k b e : ℕ) → b ≤ e → e < b + k → ((i : ℕ) → b ≤ i → i < e → test i ≡ false) → test e ≡ true
      → records_from k b test f ≡ f e ++ records_from (b + k - suc e) (suc e) test f
  unfolding records_from
  records_first zero b e h l none here = absurd (omega arith)
  records_first (suc k) b e h l none here = go (order e b) (records_first k (suc b) e)
    where
      go : (e ≤ b) ⊎ (b < e)
          → (suc b ≤ e → e < suc b + k → ((i : ℕ) → suc b ≤ i → i < e → test i ≡ false) → test e ≡ true
          → records_from k (suc b) test f ≡ f e ++ records_from (suc b + k - suc e) (suc e) test f)
          → cond (test b) (f b) [] ++ records_from k (suc b) test f ≡ f e ++ records_from (b + suc k - suc e) (suc e) test f
      go (inl m) more =
          let q : e ≡ b = omega arith in
          let t : test b ≡ true = ap test (sym q) ∙ here in
          let left : b + suc k - suc e ≡ k = omega arith in
          rw (t, left, q) refl
      go (inr m) more =
          let t = none b (omega arith) m in
          let left : suc b + k - suc e ≡ b + suc k - suc e = omega arith in
          rw t (more (omega arith) (omega arith) (λ i p q. none i (omega arith) q) here
          ∙ ap (λ (v : ℕ). f e ++ records_from v (suc e) test f) left)

-- FROM A PLACE ON -----------------------------------------------------------------------------------------------------

-- nothing is declared whose kind and number are `low` or above
pub record Open (z : Declared) (low : ℕ) : Type 0 where
  pub links : (e : ℕ) → low ≤ 256 + e → has e z.links ≡ 0
  pub sessions : (t : ℕ) → low ≤ 512 + t → has t z.sessions ≡ 0
  pub lengths : Lengths z

-- the records from a place on are those of d from `low` on, and what is below `low` stays as it was in z
pub record Rest (s : List ℕ) (z d : Declared) (low at : ℕ) : Type 0 where
  pub links : (e : ℕ) → 256 + e < low → has e d.links ≡ has e z.links
  pub capacity : (e : ℕ) → 256 + e < low → get_or d.capacity e 0 ≡ get_or z.capacity e 0
  pub sessions : (t : ℕ) → 512 + t < low → has t d.sessions ≡ has t z.sessions
  pub access : (t : ℕ) → 512 + t < low → get_or d.access t 0 ≡ get_or z.access t 0
  pub maximum : (t : ℕ) → 512 + t < low → get_or d.maximum t 0 ≡ get_or z.maximum t 0
  pub path : (t : ℕ) → 512 + t < low → (h : ℕ) → h < 8 → byte_at d.path t h ≡ byte_at z.path t h
  pub bytes : drop at s
      ≡ records_from (64 - (low - 256)) (low - 256) (λ e. has_of e d.links) (link_from d.capacity)
      ++ records_from (32 - (low - 512)) (low - 512) (λ t. has_of t d.sessions) (session_from d.access d.maximum d.path)

-- the end of the input
pub rest_end : (s : List ℕ) (z : Declared) (low at : ℕ) → length s ≤ at → Open z low → Rest s z z low at
rest_end s z low at h o =
    record {
      links = λ e l. refl;
      capacity = λ e l. refl;
      sessions = λ t l. refl;
      access = λ t l. refl;
      maximum = λ t l. refl;
      path = λ t l i k. refl;
      bytes =
          drop_of_length-le s h
          ∙ ap₂ ◌++◌
          (sym (records_none (link_from z.capacity) (64 - (low - 256)) (low - 256) (λ e. has_of e z.links) (λ e p q. out_is z.links e (o.links e (omega arith)))))
          (sym (records_none (session_from z.access z.maximum z.path) (32 - (low - 512)) (low - 512) (λ t. has_of t z.sessions) (λ t p q. out_is z.sessions t (o.sessions t (omega arith)))));
    }

-- A LINK'S RECORD -----------------------------------------------------------------------------------------------------

module _ (s : List ℕ) (z : Declared) (low at e c : ℕ) (low-e : e < 64) (rises : low ≤ 256 + e) (o : Open z low) where
  pub link_open : Open (declare_of s z (rec.Link e c)) (257 + e)
  unfolding declare_of
  link_open =
      record {
        links = λ i k. has_put_other e i z.links (λ q. omega arith) ∙ o.links i (omega arith);
        sessions = λ t k. o.sessions t (omega arith);
        lengths = declare_lengths s z (rec.Link e c) o.lengths;
      }

  module _ (d : Declared) (r : Rest s (declare_of s z (rec.Link e c)) d (257 + e) (at + 6))
      (here : drop at s ≡ link_record e c ++ drop (at + 6) s) where
    abbrev link_test : ℕ → Bool
    link_test i = has_of i d.links

    abbrev behind : List ℕ
    behind = records_from (32 - (low - 512)) (low - 512) (λ t. has_of t d.sessions) (session_from d.access d.maximum d.path)

    link_first : records_from (64 - (low - 256)) (low - 256) link_test (link_from d.capacity) ≡ link_record e c ++ records_from (63 - e) (suc e) link_test (link_from d.capacity)
    unfolding declare_of
    link_first =
        let b = low - 256 in
        let left : b + (64 - b) - suc e ≡ 63 - e = omega arith in
        let member = in_is d.links e (r.links e (omega arith) ∙ has_put_same e z.links) in
        let value : get_or d.capacity e 0 ≡ c = r.capacity e (omega arith) ∙ get_or-set_same z.capacity e c 0 (omega (arith, o.lengths.capacity)) in
        records_first link_test (link_from d.capacity) (64 - b) b e (omega arith) (omega arith)
        (λ i p q. out_is d.links i (r.links i (omega arith) ∙ has_put_other e i z.links (λ f. omega (arith, f)) ∙ o.links i (omega arith)))
        member
        ∙ ap₂ (λ (v k : ℕ). link_record e v ++ records_from k (suc e) link_test (link_from d.capacity)) value left

    pub link_rest : Rest s z d low at
    unfolding declare_of
    link_rest =
        record {
          links = λ i h. r.links i (omega arith) ∙ has_put_other e i z.links (λ q. omega arith);
          capacity = λ i h. r.capacity i (omega arith) ∙ get_or-set_other z.capacity e i c 0 (λ q. omega (arith, q));
          sessions = λ t h. absurd (omega arith);
          access = λ t h. absurd (omega arith);
          maximum = λ t h. absurd (omega arith);
          path = λ t h. absurd (omega arith);
          bytes =
              let a : 64 - (257 + e - 256) ≡ 63 - e = omega arith in
              let b : 257 + e - 256 ≡ suc e = omega arith in
              let g : 257 + e - 512 ≡ low - 512 = omega arith in
              let tail : drop (at + 6) s ≡ records_from (63 - e) (suc e) link_test (link_from d.capacity) ++ behind = r.bytes ∙ rw (a, b, g) refl in
              here
              ∙ ap (λ (l : List ℕ). link_record e c ++ l) tail
              ∙ sym (append_assoc (link_record e c) (records_from (63 - e) (suc e) link_test (link_from d.capacity)) behind)
              ∙ ap (λ (l : List ℕ). l ++ behind) (sym link_first);
        }

-- A SESSION'S RECORD --------------------------------------------------------------------------------------------------

module _ (s : List ℕ) (z : Declared) (low at t a m n : ℕ) (low-t : t < 32) (rises : low ≤ 512 + t) (o : Open z low) where
  abbrev session : Record
  session = a_session t a m n (at + 11)

  pub session_open : Open (declare_of s z session) (513 + t)
  unfolding declare_of
  session_open =
      record {
        links = λ i k. o.links i (omega arith);
        sessions = λ u k. has_put_other t u z.sessions (λ q. omega arith) ∙ o.sessions u (omega arith);
        lengths = declare_lengths s z session o.lengths;
      }

  module _ (d : Declared) (ok : path_ok s (at + 11) n ≡ true) (r : Rest s (declare_of s z session) d (513 + t) (at + 19))
      (here : drop at s ≡ session_record t a m n (λ h. get_or s (at + 11 + h) 0) ++ drop (at + 19) s) where
    abbrev session_test : ℕ → Bool
    session_test u = has_of u d.sessions

    path_is : (h : ℕ) → h < 8 → byte_at d.path t h ≡ get_or s (at + 11 + h) 0
    unfolding declare_of
    path_is h k = r.path t (omega arith) h k ∙ copied_there 8 z.path (t * 8) s (at + 11) h k (omega (arith, o.lengths.path))

    session_is : session_from d.access d.maximum d.path t ≡ session_record t a m n (λ h. get_or s (at + 11 + h) 0)
    unfolding declare_of
    session_is =
        let access : get_or d.access t 0 ≡ a = r.access t (omega arith) ∙ get_or-set_same z.access t a 0 (omega (arith, o.lengths.access)) in
        let maximum : get_or d.maximum t 0 ≡ m = r.maximum t (omega arith) ∙ get_or-set_same z.maximum t m 0 (omega (arith, o.lengths.maximum)) in
        let size : path_size d.path t ≡ n = path_size_is s (at + 11) n d.path t ok path_is in
        let path : values 0 8 (byte_at d.path t) ≡ values 0 8 (λ h. get_or s (at + 11 + h) 0) =
        values_same 0 8 (byte_at d.path t) (λ h. get_or s (at + 11 + h) 0) (λ h k. path_is h (omega arith)) in
        rw (access, maximum, size, path) refl

    session_first : records_from (32 - (low - 512)) (low - 512) session_test (session_from d.access d.maximum d.path)
        ≡ session_record t a m n (λ h. get_or s (at + 11 + h) 0) ++ records_from (31 - t) (suc t) session_test (session_from d.access d.maximum d.path)
    unfolding declare_of
    session_first =
        let b = low - 512 in
        let left : b + (32 - b) - suc t ≡ 31 - t = omega arith in
        let member = in_is d.sessions t (r.sessions t (omega arith) ∙ has_put_same t z.sessions) in
        records_first session_test (session_from d.access d.maximum d.path) (32 - b) b t (omega arith) (omega arith)
        (λ u p q. out_is d.sessions u (r.sessions u (omega arith) ∙ has_put_other t u z.sessions (λ f. omega (arith, f)) ∙ o.sessions u (omega arith)))
        member
        ∙ ap₂ (λ (l : List ℕ) (k : ℕ). l ++ records_from k (suc t) session_test (session_from d.access d.maximum d.path)) session_is left

    no_links : records_from (64 - (low - 256)) (low - 256) (λ i. has_of i d.links) (link_from d.capacity) ≡ []
    unfolding declare_of
    no_links =
        records_none (link_from d.capacity) (64 - (low - 256)) (low - 256) (λ i. has_of i d.links)
        (λ i p q. out_is d.links i (r.links i (omega arith) ∙ o.links i (omega arith)))

    pub session_rest : Rest s z d low at
    unfolding declare_of records_from
    session_rest =
        record {
          links = λ i h. r.links i (omega arith);
          capacity = λ i h. r.capacity i (omega arith);
          sessions = λ u h. r.sessions u (omega arith) ∙ has_put_other t u z.sessions (λ q. omega arith);
          access = λ u h. r.access u (omega arith) ∙ get_or-set_other z.access t u a 0 (λ q. omega (arith, q));
          maximum = λ u h. r.maximum u (omega arith) ∙ get_or-set_other z.maximum t u m 0 (λ q. omega (arith, q));
          path = λ u h i k. r.path u (omega arith) i k ∙ copied_other 8 z.path (t * 8) s (at + 11) (u * 8 + i) (inl (omega arith));
          bytes =
              let none : 64 - (513 + t - 256) ≡ 0 = omega arith in
              let left : 32 - (513 + t - 512) ≡ 31 - t = omega arith in
              let from : 513 + t - 512 ≡ suc t = omega arith in
              let tail : drop (at + 19) s ≡ records_from (31 - t) (suc t) session_test (session_from d.access d.maximum d.path) = r.bytes ∙ rw (none, left, from) refl in
              here
              ∙ ap (λ (l : List ℕ). session_record t a m n (λ h. get_or s (at + 11 + h) 0) ++ l) tail
              ∙ sym session_first
              ∙ ap (λ (l : List ℕ). l ++ records_from (32 - (low - 512)) (low - 512) session_test (session_from d.access d.maximum d.path)) (sym no_links);
        }
