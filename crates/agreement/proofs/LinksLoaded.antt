-- The machine takes the link records of a set that can be declared, from the empty table on: what its table has after each.
-- Assumes nothing.
use mathlib.Core.Bool.{false, true}
use mathlib.Core.List.{List, [], ◌++◌}
use mathlib.Core.Logic.{◌⊎◌, inl, inr}
use mathlib.Core.Path.{◌≡◌, ap, refl, subst, sym, ◌∙◌}
use Prim.Native.Nat.{ℕ, suc, ◌<◌, ◌≤◌}
use native.Mathlib.Omega.{arith}
use lib.ListN.{get_or, length}
use Rattle.fractions.proofs.Cases.{last}
use Rattle.sessions.specs.Set.{has, has_of}
use Rattle.sessions.proofs.Members.{is_in, member_below}
use Rattle.records.specs.Format.{RecordOk}
use Rattle.records.specs.declared.Call.TheVariants as call
use Rattle.records.specs.declared.Record.TheVariants as rec
use Rattle.records.proofs.Rates.{rate_is}
use Rattle.declarations.specs.declared.Declared.{Declared}
use Rattle.writing.specs.Sets.{Declarable}
use Rattle.writing.specs.Writing.{link_from}
use Rattle.writing.proofs.Appending.{stands}
use Rattle.writing.proofs.ReadRecords.{link_read, link_size}
use Rattle.writing.proofs.RunOver.{Taken}
use Rattle.ends.specs.declared.Source.{Source}
use Rattle.links.specs.declared.Link.{Link}
use Rattle.events.specs.Events.{Step, new_link}
use Rattle.machine.specs.Machine.{acting, judging}
use Rattle.table.specs.Words.{empty_words, link_of, packets_of, source_of}
use Rattle.table.proofs.Empty.{empty_length, empty_link, empty_packets}
use Rattle.table.proofs.EmptyLinks.{none_active}
use Rattle.table.proofs.Unchanged.{packets_after_link, source_after_link}
use Rattle.handed.proofs.EmptyPasses.{empty_is_passing}
use Rattle.reachable.specs.Invariant.{Safe}
use Rattle.reachable.proofs.PassesSafe.{passes_safe}
use Rattle.agreement.proofs.OneRecord.{TakesLink, after_link, takes_link}

-- of the links below b the table has those of d, with their capacities, and nothing else
pub record LinksIn (d : Declared) (b : ℕ) (w : List ℕ) : Type 0 where
  pub safe : Safe w
  pub capacity : (e : ℕ) → e < b → e < 64 → has e d.links ≡ 1 → (link_of w e).capacity ≡ get_or d.capacity e 0
  pub bare : (e : ℕ) → e < 64 → (b ≤ e) ⊎ (has e d.links ≡ 0) → (link_of w e).capacity ≡ 0
  pub idle : (t : ℕ) → t < 32 → (source_of w t).active ≡ false
  pub quiet : packets_of w ≡ []

pub empty_in : (d : Declared) → LinksIn d 0 empty_words
empty_in d =
    record {
      safe = passes_safe empty_words empty_length empty_is_passing;
      capacity = λ e h. absurd (omega arith);
      bare = λ e h o. ap (λ (l : Link). l.capacity) (empty_link e);
      idle = λ t h. none_active t;
      quiet = empty_packets;
    }

pub links_skip : (d : Declared) (b : ℕ) (w : List ℕ) → has_of b d.links ≡ false → LinksIn d b w → LinksIn d (suc b) w
links_skip d b w q r =
    record {
      safe = r.safe;
      capacity = λ e h l m. r.capacity e (member_below d.links b e q h m) l m;
      bare = λ e h o. bare e h o;
      idle = r.idle;
      quiet = r.quiet;
    }
  where
    bare : (e : ℕ) → e < 64 → (suc b ≤ e) ⊎ (has e d.links ≡ 0) → (link_of w e).capacity ≡ 0
    bare e h (inl o) = r.bare e h (inl (omega arith))
    bare e h (inr o) = r.bare e h (inr o)

module _ (d : Declared) (ok : Declarable d) (s : List ℕ) where
  links_next : (b : ℕ) (w : List ℕ) → b < 64 → has b d.links ≡ 1 → LinksIn d b w → RecordOk s (rec.Link b (get_or d.capacity b 0))
      → LinksIn d (suc b) (acting s w (rec.Link b (get_or d.capacity b 0)))
  links_next b w h m r k =
      subst (LinksIn d (suc b)) (sym (ap (λ (x : Step). x.words) takes.does))
      (record {
        safe = takes.safe;
        capacity = λ e i l n. capacity e l n (last i);
        bare = λ e l o. takes.elsewhere e (above e o) ∙ r.bare e l (below e o);
        idle = λ t l. ap (λ (z : Source). z.active) (source_after_link w b (new_link c) t h l) ∙ r.idle t l;
        quiet = packets_after_link w b (new_link c) h ∙ r.quiet;
      })
    where
      c : ℕ
      c = get_or d.capacity b 0

      takes : TakesLink s w b c
      takes = takes_link s w b c r.safe k (r.bare b h (inl (omega arith)))

      capacity : (e : ℕ) → e < 64 → has e d.links ≡ 1 → (e < b) ⊎ (e ≡ b) → (link_of (after_link w b c) e).capacity ≡ get_or d.capacity e 0
      capacity e l n (inl i) = takes.elsewhere e (λ q. omega arith) ∙ r.capacity e i l n
      capacity e l n (inr q) = ap (λ (v : ℕ). (link_of (after_link w b c) v).capacity) q ∙ takes.here ∙ ap (λ (v : ℕ). get_or d.capacity v 0) (sym q)

      above : (e : ℕ) → (suc b ≤ e) ⊎ (has e d.links ≡ 0) → e ≡ b → ⊥
      above e (inl o) q = omega arith
      above e (inr o) q = omega (arith, o, ap (λ (v : ℕ). has v d.links) q, m)

      below : (e : ℕ) → (suc b ≤ e) ⊎ (has e d.links ≡ 0) → (b ≤ e) ⊎ (has e d.links ≡ 0)
      below e (inl o) = inl (omega arith)
      below e (inr o) = inr o

  pub links_turn : (b : ℕ) (w : List ℕ) (before behind : List ℕ) → b < 64 → has_of b d.links ≡ true → LinksIn d b w
      → s ≡ before ++ (link_from d.capacity b ++ behind)
      → Taken call.Machine (judging s) (acting s) s (LinksIn d) b w (length before) 6
  links_turn b w before behind h t r e =
      let there = stands s before (link_from d.capacity b) behind e in
      let m = is_in d.links b t in
      let c = get_or d.capacity b 0 in
      let rate = rate_is c (ok.capacity b h m) in
      let k : RecordOk s (rec.Link b c) = (h, rate.0, rate.1) in
      let does = ap (λ (x : Step). x.verdict) (takes_link s w b c r.safe k (r.bare b h (inl (omega arith)))).does in
      record {
        what = rec.Link b c;
        taken = rw (link_read s (length before) b c there call.Machine h (ok.capacity b h m), does) refl;
        long = link_size s (length before) b c there;
        some = omega arith;
        fits = there.fits;
        next = links_next b w h m r k;
      }
