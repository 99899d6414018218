-- What a table that passes the test of refusal 14 holds can be declared: so there is an input that declares its links and active sessions, the records
-- that are written of them.
-- Assumes nothing.
use Rattle.std.specs.Prelude.{Ok}
use mathlib.Core.Bool.{false, true}
use mathlib.Core.List.{List}
use mathlib.Core.Logic.{◌⊎◌, inl, inr}
use mathlib.Core.Path.{◌≡◌, ap, refl, subst, sym, ◌∙◌}
use Prim.Native.Nat.{ℕ, ◌*◌, ◌<◌, ◌≤◌}
use native.Mathlib.Omega.{arith}
use borrow.Author.Tests.{le-ltb, lt-ltb, ltb-false, ltb-true}
use lib.Dec.{ltb}
use lib.ListN.{get_or}
use Rattle.sessions.specs.Set.{has, has_of}
use Rattle.sessions.proofs.Members.{has_or_not, in_is, is_in, out_is}
use Rattle.records.specs.Format.{path_ok, rate_ok}
use Rattle.records.proofs.PathBytes.{path_passes_lem}
use Rattle.records.proofs.Rates.{rate_passes}
use Rattle.search.specs.Crossing.{byte_at}
use Rattle.declarations.specs.Declaring.{declarations_of, path_declared}
use Rattle.declarations.specs.declared.Declared.{Declared}
use Rattle.declarations.proofs.DeclaredPaths.{all_declared}
use Rattle.declarations.proofs.Undeclared.{undeclared_none}
use Rattle.writing.specs.Sets.{Declarable, SameSet}
use Rattle.writing.specs.Writing.{path_size, records_of}
use Rattle.writing.proofs.EqualOutput.{output_same, same_output}
use Rattle.writing.proofs.OutputBytes.{output_bytes}
use Rattle.writing.proofs.Paths.{size_is}
use Rattle.writing.proofs.ReadBack.{read_back}
use Rattle.handed.specs.Passes.{Passes}
use Rattle.ranges.proofs.FitsMeans.{source_fits_means}
use Rattle.table.specs.Values.{SourceWithin}
use Rattle.table.proofs.InRange.{capacity_most, hops_most, stop_below}
use Rattle.table.specs.Words.{hops_of, link_of, source_of, stop_of}
use Rattle.present_set.specs.Held.{Declares, declarations_in, path_byte}
use Rattle.present_set.proofs.TableDeclares.{table_declares, table_links, table_path, table_words}

module _ (w : List ℕ) (ok : Passes w) where
  abbrev d : Declared
  d = declarations_in w

  active : (t : ℕ) → t < 32 → has t d.sessions ≡ 1 → (source_of w t).active ≡ true
  active t h m = sym ((table_declares w).active t h) ∙ in_is d.sessions t m

  within : (t : ℕ) → t < 32 → has t d.sessions ≡ 1 → SourceWithin (source_of w t)
  within t h m = source_fits_means w t (ok.sources t h (ok.joined t h (active t h m)))

  used : (t h : ℕ) → t < 32 → h < 8 → h < hops_of w t → byte_at d.path t h ≡ stop_of w t h
  unfolding path_byte
  used t h l k i = table_path w t h l k ∙ rw (lt-ltb h (hops_of w t) i) refl

  unused : (t h : ℕ) → t < 32 → h < 8 → hops_of w t ≤ h → byte_at d.path t h ≡ 255
  unfolding path_byte
  unused t h l k i = table_path w t h l k ∙ rw (le-ltb h (hops_of w t) i) refl

  size : (t : ℕ) → t < 32 → path_size d.path t ≡ hops_of w t
  unfolding path_size
  size t l =
      size_is 8 (hops_of w t) (byte_at d.path t) (hops_most w t)
      (λ h i. subst (λ (v : ℕ). v < 64) (sym (used t h l (omega (arith, hops_most w t)) i)) (stop_below w t h))
      (λ h k i. unused t h l k i)

  path : (t : ℕ) → t < 32 → has t d.sessions ≡ 1 → path_ok d.path (t * 8) (path_size d.path t) ≡ true
  path t l m =
      ap (path_ok d.path (t * 8)) (size t l)
      ∙ path_passes_lem d.path (t * 8) (hops_of w t)
      (record {
        some = ok.joined t l (active t l m);
        most = hops_most w t;
        link = λ h i. subst (λ (v : ℕ). v < 64) (sym (used t h l (omega (arith, hops_most w t)) i)) (stop_below w t h);
        once = λ h g i j e.
            ok.once t h g l i j
            (sym (used t g l (omega (arith, hops_most w t)) (omega arith)) ∙ e ∙ used t h l (omega (arith, hops_most w t)) i);
        rest = λ h k i. unused t h l k i;
      })

  known : (t : ℕ) → t < 32 → has t d.sessions ≡ 1 → path_declared d.links d.path (t * 8) (path_size d.path t) ≡ true
  known t l m =
      ap (path_declared d.links d.path (t * 8)) (size t l)
      ∙ all_declared d.links d.path (t * 8) (hops_of w t)
      (λ h i.
      ap (λ (v : ℕ). has_of v d.links) (used t h l (omega (arith, hops_most w t)) i)
      ∙ table_links w (stop_of w t h) (stop_below w t h)
      ∙ lt-ltb 0 _ (ok.declared t h l i))

  -- what the table holds can be declared
  pub table_declarable : Declarable (declarations_in w)
  table_declarable =
      record {
        links = (table_words w).0;
        sessions = (table_words w).1;
        capacity = λ e h m.
            subst (λ (v : ℕ). rate_ok v ≡ true) (sym ((table_declares w).capacity e h))
            (rate_passes _ (ltb-true 0 _ (sym (table_links w e h) ∙ in_is d.links e m)) (capacity_most w e));
        access = λ t h m.
            let z = within t h m in
            subst (λ (v : ℕ). rate_ok v ≡ true) (sym ((table_declares w).access t h (active t h m))) (rate_passes _ z.joined z.access);
        maximum = λ t h m. subst (λ (v : ℕ). v ≤ 1000000) (sym ((table_declares w).maximum t h (active t h m))) (within t h m).maximum;
        line = λ t h m.
            let a = active t h m in
            rw ((table_declares w).access t h a, (table_declares w).maximum t h a) (le-ltb _ _ (within t h m).line);
        path = path;
        declared = known;
      }

  -- some input is accepted and declares the table's links and active sessions: the records of what the table holds
  pub table_written : ((declarations_of (records_of (declarations_in w))).end ≡ Ok tt) × Declares (declarations_of (records_of (declarations_in w))).declared w
  table_written = let b = read_back d table_declarable in (b.0, again b.1)
    where
      z : Declared
      z = (declarations_of (records_of (declarations_in w))).declared

      again : SameSet d z → Declares z w
      again r =
          record {
            capacity = λ e h. capacity e h (has_or_not e d.links);
            active = λ t h. ap (has_of t) (sym r.sessions) ∙ (table_declares w).active t h;
            access = λ t h a. sym (r.access t h (member t h a)) ∙ (table_declares w).access t h a;
            maximum = λ t h a. sym (r.maximum t h (member t h a)) ∙ (table_declares w).maximum t h a;
            path = λ t h l k a. sym (r.path t l (member t l a) h k) ∙ table_path w t h l k;
          }
        where
          member : (t : ℕ) → t < 32 → (source_of w t).active ≡ true → has t d.sessions ≡ 1
          member t h a = is_in d.sessions t ((table_declares w).active t h ∙ a)

          capacity : (e : ℕ) → e < 64 → (has e d.links ≡ 0) ⊎ (has e d.links ≡ 1) → get_or z.capacity e 0 ≡ (link_of w e).capacity
          capacity e h (inr m) = sym (r.capacity e h m) ∙ (table_declares w).capacity e h
          capacity e h (inl m) =
              let none : ltb 0 (link_of w e).capacity ≡ false = sym (table_links w e h) ∙ out_is d.links e m in
              undeclared_none (records_of (declarations_in w)) (output_bytes d table_declarable) e (ap (has e) (sym r.links) ∙ m)
              ∙ omega (arith, ltb-false 0 (link_of w e).capacity none)

-- 02, §3: two tables have equal output exactly where they hold equal sets
pub tables_same_output : (w v : List ℕ) → SameSet (declarations_in w) (declarations_in v) → records_of (declarations_in w) ≡ records_of (declarations_in v)
tables_same_output w v = same_output (declarations_in w) (declarations_in v)

pub tables_output_same : (w v : List ℕ) → Passes w → Passes v → records_of (declarations_in w) ≡ records_of (declarations_in v)
    → SameSet (declarations_in w) (declarations_in v)
tables_output_same w v a b = output_same (declarations_in w) (declarations_in v) (table_declarable w a) (table_declarable v b)
