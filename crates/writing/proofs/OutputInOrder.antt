-- The records of a set are in the writer's order.
-- Assumes nothing.
use mathlib.Core.Bool.{Bool, cond, false, true}
use mathlib.Core.List.{List, [], ◌++◌, append_assoc, append-nil}
use mathlib.Core.Path.{◌≡◌, ap, refl, subst, sym, ◌∙◌}
use Prim.Native.Nat.{ℕ, zero, suc, ◌+◌, ◌-◌, ◌*◌, ◌<◌, ◌≤◌}
use native.Mathlib.Omega.{arith}
use borrow.Author.Tests.{le-leb, le-ltb, lt-ltb}
use lib.ListN.{get_or, length, length-append}
use Rattle.sessions.specs.Set.{has_of}
use Rattle.fairness.specs.Figure1.{values}
use Rattle.records.specs.Format.{be2, size_at}
use Rattle.search.specs.Crossing.{byte_at}
use Rattle.declarations.specs.declared.Declared.{Declared}
use Rattle.writing.specs.Order.{in_order, rises_from}
use Rattle.writing.specs.Writing.{link_from, link_records, path_size, records_from, records_of, session_from, session_records}
use Rattle.writing.proofs.Appending.{Stands, stands}
use Rattle.writing.proofs.ReadRecords.{link_size, session_size}

-- from a place on, after n records, kind and number rise from `low`
abbrev Rises : List ℕ → ℕ → ℕ → ℕ → Type 0
Rises s n at low = rises_from (length s - n) s at low ≡ true

-- past the last byte
rises_end : (s : List ℕ) (n at low : ℕ) → length s ≤ at → Rises s n at low
unfolding rises_from
rises_end s n at low h = go (length s - n)
  where
    go : (k : ℕ) → rises_from k s at low ≡ true
    go zero = refl
    go (suc k) = rw (le-ltb at (length s) h) refl

-- one record more
rises_next : (s : List ℕ) (n at low key size : ℕ) → n ≤ at → at < length s → be2 s at ≡ key → size_at s at ≡ size → low ≤ key → Rises s (n + 1) (at + size) (key + 1)
    → Rises s n at low
unfolding rises_from
rises_next s n at low key size h l k z m r =
    let fuel : length s - n ≡ suc (length s - (n + 1)) = omega arith in
    rw (fuel, lt-ltb at (length s) l, k, z, le-leb low key m) r

module _ (s : List ℕ) (kind limit : ℕ) (test : ℕ → Bool) (f : ℕ → List ℕ)
    (one : (b : ℕ) (before behind : List ℕ) → s ≡ before ++ (f b ++ behind)
    → (be2 s (length before) ≡ kind * 256 + b) × (size_at s (length before) ≡ length (f b)) × (0 < length (f b))) where
  rises_over : (k b n : ℕ) (before behind : List ℕ) (low : ℕ) → n ≤ length before → low ≤ kind * 256 + b → s ≡ before ++ (records_from k b test f ++ behind)
      → ((m next : ℕ) → m ≤ length (before ++ records_from k b test f) → next ≤ kind * 256 + (b + k) → Rises s m (length (before ++ records_from k b test f)) next)
      → Rises s n (length before) low
  unfolding records_from
  rises_over zero b n before behind low h l e more =
      let z : length (before ++ []) ≡ length before = ap length (append-nil before) in
      subst (λ (v : ℕ). Rises s n v low) z (more n low (omega (arith, z)) (omega arith))
  rises_over (suc k) b n before behind low h l e more = go (test b) e more (λ m l next p q g c. rises_over k (suc b) m l behind next p q g c)
    where
      rest : List ℕ
      rest = records_from k (suc b) test f

      go : (t : Bool) → s ≡ before ++ ((cond t (f b) [] ++ rest) ++ behind)
          → ((m next : ℕ) → m ≤ length (before ++ (cond t (f b) [] ++ rest)) → next ≤ kind * 256 + (b + suc k) → Rises s m (length (before ++ (cond t (f b) [] ++ rest))) next)
          → ((m : ℕ) (l : List ℕ) (next : ℕ) → m ≤ length l → next ≤ kind * 256 + suc b → s ≡ l ++ (rest ++ behind)
          → ((i next' : ℕ) → i ≤ length (l ++ rest) → next' ≤ kind * 256 + (suc b + k) → Rises s i (length (l ++ rest)) next') → Rises s m (length l) next)
          → Rises s n (length before) low
      go false g c again = again n before low h (omega arith) g (λ i y p q. c i y p (omega arith))
      go true g c again =
          let g1 : s ≡ before ++ (f b ++ (rest ++ behind)) = g ∙ ap (λ (y : List ℕ). before ++ y) (append_assoc (f b) rest behind) in
          let g2 : s ≡ (before ++ f b) ++ (rest ++ behind) = g1 ∙ sym (append_assoc before (f b) (rest ++ behind)) in
          let r = one b before (rest ++ behind) g1 in
          let far : length (before ++ f b) ≡ length before + length (f b) = length-append before (f b) in
          let z : length ((before ++ f b) ++ rest) ≡ length (before ++ (f b ++ rest)) = ap length (append_assoc before (f b) rest) in
          rises_next s n (length before) low (kind * 256 + b) (length (f b)) h
          (omega (arith, r.2, ap length g1, length-append before (f b ++ (rest ++ behind)), length-append (f b) (rest ++ behind)))
          r.0 r.1 l
          (subst (λ (v : ℕ). Rises s (n + 1) v (kind * 256 + b + 1)) far
          (again (n + 1) (before ++ f b) (kind * 256 + b + 1) (omega (arith, far, r.2)) (omega arith) g2
          (λ i y p q. subst (λ (v : ℕ). Rises s i v y) (sym z) (c i y (omega (arith, z)) (omega arith)))))

key_of : (s : List ℕ) (at kind b : ℕ) (part : List ℕ) → Stands s at part → 1 < length part → get_or part 0 0 ≡ kind → get_or part 1 0 ≡ b → be2 s at ≡ kind * 256 + b
unfolding be2
key_of s at kind b part there h p q = rw (there.byte 0 (omega arith) at (omega arith) ∙ p, there.byte 1 h (at + 1) refl ∙ q) refl

pub output_in_order : (d : Declared) → in_order (records_of d) ≡ true
unfolding in_order records_of values
output_in_order d =
    let s = links ++ sessions in
    let zero-fuel : length s ≡ length s - 0 = omega arith in
    subst (λ (v : ℕ). rises_from v s 0 0 ≡ true) (sym zero-fuel)
    (rises_over s 1 64 (λ e. has_of e d.links) (link_from d.capacity)
    (λ b before behind e.
    let there = stands s before (link_from d.capacity b) behind e in
    (key_of s (length before) 1 b (link_from d.capacity b) there (omega arith) refl refl, link_size s (length before) b (get_or d.capacity b 0) there, omega arith))
    64 0 0 [] sessions 0 (omega arith) (omega arith) refl
    (λ m next p q.
    rises_over s 2 32 (λ t. has_of t d.sessions) (session_from d.access d.maximum d.path)
    (λ b before behind e.
    let there = stands s before (session_from d.access d.maximum d.path b) behind e in
    (key_of s (length before) 2 b (session_from d.access d.maximum d.path b) there (omega arith) refl refl, session_size s (length before) b (get_or d.access b 0) (get_or d.maximum b 0) (path_size d.path b) (byte_at d.path b) there, omega arith))
    32 0 m links [] next p (omega arith) (ap (λ (l : List ℕ). links ++ l) (sym (append-nil sessions)))
    (λ i y g h. rises_end s i (length s) y (omega arith))))
  where
    links : List ℕ
    links = link_records d.links d.capacity

    sessions : List ℕ
    sessions = session_records d.sessions d.access d.maximum d.path
