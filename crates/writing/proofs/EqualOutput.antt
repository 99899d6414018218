-- 02, §3: "Two sets have equal output exactly when they are equal".
-- Assumes nothing.
use mathlib.Core.Bool.{true}
use mathlib.Core.List.{List, ◌++◌}
use mathlib.Core.Path.{◌≡◌, ap, ap₂, refl, subst, sym, ◌∙◌}
use Prim.Native.Nat.{ℕ, ◌<◌}
use native.Mathlib.Omega.{arith}
use lib.Dec.{ltb}
use Rattle.sessions.specs.Set.{has, has_of}
use Rattle.sessions.proofs.Members.{is_in}
use Rattle.fairness.specs.Figure1.{values}
use Rattle.fairness.specs.Sum.{part}
use Rattle.fairness.proofs.Running.{values_same}
use Rattle.fairness.proofs.Sums.{sum_eq}
use Rattle.search.specs.Crossing.{byte_at}
use Rattle.declarations.specs.Declaring.{declarations_of}
use Rattle.declarations.specs.declared.Declared.{Declared}
use Rattle.writing.specs.Sets.{Declarable, SameSet}
use Rattle.writing.specs.Writing.{link_from, link_record, path_size, records_of, session_from}
use Rattle.writing.proofs.MoreRecords.{records_same}
use Rattle.writing.proofs.ReadBack.{read_back}

-- EQUAL SETS ----------------------------------------------------------------------------------------------------------

pub same_back : (d z : Declared) → SameSet d z → SameSet z d
same_back d z r =
    record {
      links = sym r.links;
      capacity = λ e h m. sym (r.capacity e h (ap (has e) r.links ∙ m));
      sessions = sym r.sessions;
      access = λ t h m. sym (r.access t h (ap (has t) r.sessions ∙ m));
      maximum = λ t h m. sym (r.maximum t h (ap (has t) r.sessions ∙ m));
      path = λ t h m j k. sym (r.path t h (ap (has t) r.sessions ∙ m) j k);
    }

pub same_then : (d y z : Declared) → SameSet d y → SameSet y z → SameSet d z
same_then d y z r q =
    record {
      links = r.links ∙ q.links;
      capacity = λ e h m. r.capacity e h m ∙ q.capacity e h (sym (ap (has e) r.links) ∙ m);
      sessions = r.sessions ∙ q.sessions;
      access = λ t h m. r.access t h m ∙ q.access t h (sym (ap (has t) r.sessions) ∙ m);
      maximum = λ t h m. r.maximum t h m ∙ q.maximum t h (sym (ap (has t) r.sessions) ∙ m);
      path = λ t h m j k. r.path t h m j k ∙ q.path t h (sym (ap (has t) r.sessions) ∙ m) j k;
    }

-- EQUAL RECORDS -------------------------------------------------------------------------------------------------------

-- paths of the same bytes have the same size
pub size_same : (path other : List ℕ) (t u : ℕ) → ((h : ℕ) → h < 8 → byte_at path t h ≡ byte_at other u h) → path_size path t ≡ path_size other u
unfolding path_size
size_same path other t u same = sum_eq 8 _ _ (λ h k. ap (λ (v : ℕ). part (ltb v 64) 1) (same h k))

module _ (d z : Declared) (r : SameSet d z) where
  links_same : (e : ℕ) → e < 64 → has_of e d.links ≡ true → link_from d.capacity e ≡ link_from z.capacity e
  links_same e h t = ap (link_record e) (r.capacity e h (is_in d.links e t))

  sessions_same : (t : ℕ) → t < 32 → has_of t d.sessions ≡ true → session_from d.access d.maximum d.path t ≡ session_from z.access z.maximum z.path t
  sessions_same t h i =
      let m = is_in d.sessions t i in
      let path : values 0 8 (byte_at d.path t) ≡ values 0 8 (byte_at z.path t) =
      values_same 0 8 (byte_at d.path t) (byte_at z.path t) (λ j k. r.path t h m j (omega arith)) in
      rw (r.access t h m, r.maximum t h m, size_same d.path z.path t t (r.path t h m), path) refl

  pub same_output : records_of d ≡ records_of z
  unfolding records_of
  same_output =
      ap₂ ◌++◌
      (records_same 64 0 (λ e. has_of e d.links) (λ e. has_of e z.links) (link_from d.capacity) (link_from z.capacity) (λ e. ap (has_of e) r.links) (λ e h t. links_same e (omega arith) t))
      (records_same 32 0 (λ t. has_of t d.sessions) (λ t. has_of t z.sessions) (session_from d.access d.maximum d.path) (session_from z.access z.maximum z.path) (λ t. ap (has_of t) r.sessions) (λ t h i. sessions_same t (omega arith) i))

-- a set is read back from its output, so sets of one output are equal
pub output_same : (d z : Declared) → Declarable d → Declarable z → records_of d ≡ records_of z → SameSet d z
output_same d z a b e =
    same_then d _ z (read_back d a).1
    (same_back z _ (subst (λ (s : List ℕ). SameSet z (declarations_of s).declared) (sym e) (read_back z b).1))
