-- The empty table passes the test.
-- Assumes nothing.
use Rattle.std.specs.Prelude.{Err}
use mathlib.Core.Bool.{true}
use mathlib.Core.Path.{ap, refl, sym, ◌∙◌, ◌≡◌}
use Prim.Native.Nat.{ℕ, ◌*◌, ◌+◌, ◌<◌}
use native.Mathlib.Omega.{arith}
use lib.Count.{ones_in}
use Rattle.links.specs.declared.NoTotal.TheVariants as no_total
use Rattle.links.specs.Links.{B, bound_of, holds, is_fine, is_past_c}
use Rattle.records.proofs.Somes.{clash}
use Rattle.ranges.specs.Ranges.{count_fits, link_fits, standing_fits}
use Rattle.table.specs.Words.{count_of, empty_words, hops_of, place_of, source_of}
use Rattle.table.proofs.Empty.{empty_count, empty_hops, empty_word}
use Rattle.table.proofs.EmptyLinks.{empty_r, empty_sum, none_active, none_held, none_in_f}
use Rattle.handed.specs.Handed.{passes14_of}
use Rattle.handed.specs.Passes.{Passes}
use Rattle.handed.proofs.Passing.{means_passes}

not_held : {A : Type 0} (e s : ℕ) → holds (place_of empty_words e) s ≡ true → A
not_held e s t = absurd (clash (holds (place_of empty_words e) s) t (none_held e s))

no_hops : {A : Type 0} (s i : ℕ) → i < hops_of empty_words s → A
no_hops s i h = absurd (omega (arith, empty_hops s))

no_packets : {A : Type 0} (i : ℕ) → i < count_of empty_words → A
no_packets i h = absurd (omega (arith, empty_count))

fine_empty : (e : ℕ) → is_fine (B (place_of empty_words e)) ≡ true
unfolding B bound_of ones_in
fine_empty e = rw (empty_sum e, empty_r e)

pub empty_is_passing : Passes empty_words
unfolding count_fits link_fits standing_fits
empty_is_passing = record {
  count = rw (empty_word 9152);
  links = λ e l. rw (empty_word (e * 3), empty_word (e * 3 + 1), empty_word (e * 3 + 2));
  entries = λ e s l k t. not_held e s t;
  standing = λ s l. rw (empty_word (6336 + s * 24), empty_word (6336 + s * 24 + 12));
  sources = λ s l k. no_hops s 0 k;
  joined = λ s l a. absurd (clash (source_of empty_words s).active a (none_active s));
  packets = λ i l. no_packets i l;
  declared = λ s i l k. no_hops s i k;
  once = λ s i j l k m q. no_hops s i k;
  known = λ i l. no_packets i l;
  down = λ i l d. no_packets i l;
  up = λ i l d. no_packets i l;
  way = λ i l. no_packets i l;
  apart = λ e s l k t. none_in_f e s;
  on_path = λ e s l k t. not_held e s t;
  live = λ e s l k t a. not_held e s t;
  within_c = λ e l q. clash (is_past_c (Err no_total.PastC)) refl (ap is_past_c (sym q ∙ empty_sum e));
  fine = λ e l. fine_empty e;
}

pub empty_passes : passes14_of empty_words ≡ true
empty_passes = means_passes empty_words empty_is_passing
