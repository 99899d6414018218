-- The output is bytes: every number of it is below 256.
-- Assumes nothing.
use mathlib.Core.Bool.{Bool, cond, false, true}
use mathlib.Core.List.{List, [], ◌∷◌, ◌++◌}
use mathlib.Core.Path.{◌≡◌, refl}
use Prim.Native.Nat.{ℕ, zero, suc, ◌+◌, ◌*◌, ◌/◌, ◌%◌, ◌<◌}
use native.Mathlib.Omega.{arith}
use lib.ListN.{get_or}
use Rattle.sessions.specs.Set.{has_of}
use Rattle.sessions.proofs.Members.{is_in}
use Rattle.fairness.specs.Figure1.{values}
use Rattle.fairness.proofs.Running.{values_below}
use Rattle.records.specs.Format.{Bytes}
use Rattle.records.proofs.ReadRecords.{path_size_lem}
use Rattle.search.specs.Crossing.{byte_at}
use Rattle.declarations.specs.declared.Declared.{Declared}
use Rattle.writing.specs.Sets.{Declarable}
use Rattle.writing.specs.Writing.{bytes4, link_from, link_records, path_size, records_from, records_of, session_from, session_records}
use Rattle.writing.proofs.Paths.{path_byte_lem}
use Rattle.writing.proofs.ReadRecords.{rate_lt}

none : Bytes []
none i = omega arith

one_more : (x : ℕ) (l : List ℕ) → x < 256 → Bytes l → Bytes (x ∷ l)
one_more x l h f zero = h
one_more x l h f (suc i) = f i

both : (l m : List ℕ) → Bytes l → Bytes m → Bytes (l ++ m)
both [] m f g = g
both (x ∷ l) m f g = one_more x (l ++ m) (f 0) (both l m (λ i. f (suc i)) g)

four : (n : ℕ) → n < 4294967296 → Bytes (bytes4 n)
four n h =
    let a : n / 256 / 256 / 256 < 256 = omega arith in
    let b : n / 256 / 256 % 256 < 256 = omega arith in
    let c : n / 256 % 256 < 256 = omega arith in
    let d : n % 256 < 256 = omega arith in
    one_more (n / 256 / 256 / 256) (n / 256 / 256 % 256 ∷ n / 256 % 256 ∷ n % 256 ∷ []) a
    (one_more (n / 256 / 256 % 256) (n / 256 % 256 ∷ n % 256 ∷ []) b (one_more (n / 256 % 256) (n % 256 ∷ []) c (one_more (n % 256) [] d none)))

records_bytes : (k b : ℕ) (test : ℕ → Bool) (f : ℕ → List ℕ) → ((i : ℕ) → i < b + k → test i ≡ true → Bytes (f i)) → Bytes (records_from k b test f)
unfolding records_from
records_bytes zero b test f h = none
records_bytes (suc k) b test f h =
    both (cond (test b) (f b) []) (records_from k (suc b) test f) (first (test b) (h b (omega arith))) (records_bytes k (suc b) test f (λ i l. h i (omega arith)))
  where
    first : (t : Bool) → (t ≡ true → Bytes (f b)) → Bytes (cond t (f b) [])
    first true g = g refl
    first false g = none

module _ (d : Declared) (ok : Declarable d) where
  link_bytes : (e : ℕ) → e < 64 → has_of e d.links ≡ true → Bytes (link_from d.capacity e)
  link_bytes e h t =
      let c = get_or d.capacity e 0 in
      one_more 1 (e ∷ bytes4 c) (omega arith) (one_more e (bytes4 c) (omega arith) (four c (rate_lt c (ok.capacity e h (is_in d.links e t)))))

  session_bytes : (t : ℕ) → t < 32 → has_of t d.sessions ≡ true → Bytes (session_from d.access d.maximum d.path t)
  session_bytes t h i =
      let m = is_in d.sessions t i in
      let size = (path_size_lem d.path (t * 8) (path_size d.path t) (ok.path t h m)).1 in
      let a = get_or d.access t 0 in
      let b = get_or d.maximum t 0 in
      let n = path_size d.path t in
      let path = values 0 8 (byte_at d.path t) in
      one_more 2 (t ∷ (bytes4 a ++ (bytes4 b ++ (n ∷ path)))) (omega arith)
      (one_more t (bytes4 a ++ (bytes4 b ++ (n ∷ path))) (omega arith)
      (both (bytes4 a) (bytes4 b ++ (n ∷ path)) (four a (rate_lt a (ok.access t h m)))
      (both (bytes4 b) (n ∷ path) (four b (omega (arith, ok.maximum t h m)))
      (one_more n path (omega arith)
      (values_below 0 8 (byte_at d.path t) 256 (omega arith) (λ j l. path_byte_lem d.path (t * 8) n (ok.path t h m) j (omega arith)))))))

  pub output_bytes : Bytes (records_of d)
  unfolding records_of
  output_bytes =
      both (link_records d.links d.capacity) (session_records d.sessions d.access d.maximum d.path)
      (records_bytes 64 0 (λ e. has_of e d.links) (link_from d.capacity) (λ e h t. link_bytes e (omega arith) t))
      (records_bytes 32 0 (λ t. has_of t d.sessions) (session_from d.access d.maximum d.path) (λ t h i. session_bytes t (omega arith) i))
