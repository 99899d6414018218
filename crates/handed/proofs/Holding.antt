-- A link by its words: all that it holds, the sessions in both R and F, and a link that holds nobody.
-- Assumes nothing.
use Rattle.fractions.specs.declared.Rate.{Rate}
use Rattle.std.specs.Prelude.{Result}
use mathlib.Core.Bool.{Bool, false, not, true, ◌&&◌, ◌||◌}
use mathlib.Core.List.{List}
use mathlib.Core.Path.{ap, ap₂, refl, sym, ◌∙◌, ◌≡◌}
use Prim.Native.Nat.{ℕ, zero, suc, ◌<◌}
use native.Mathlib.Omega.{arith}
use borrow.Author.Tests.{eq-eqb}
use lib.Bits.{bit_and}
use Rattle.fractions.specs.Fraction.{zero_of}
use Rattle.links.specs.declared.NoTotal.{NoTotal}
use Rattle.links.specs.Links.{B, bound_of, holds, in_f, is_fine, is_past_c}
use Rattle.records.specs.Format.{all}
use Rattle.records.proofs.Alls.{all_at, all_below, all_fails}
use Rattle.records.proofs.Somes.{implies, not_so}
use Rattle.sessions.specs.Set.{has, size_of}
use Rattle.sessions.proofs.Counts.{count_most}
use Rattle.sessions.proofs.Chains.{AllPass}
use Rattle.sessions.proofs.Members.{has_zero, is_in}
use Rattle.sessions.proofs.Operations.{apart_each, word_apart}
use Rattle.table.specs.Words.{hop_of, hops_of, link_of, place_of}
use Rattle.table.proofs.Hops.{hop_of_stop}
use Rattle.table.proofs.InRange.{r_below}
use Rattle.totals.proofs.FineBounds.{fine_within}
use Rattle.totals.proofs.Held.{held_is, held_word, nobody_held, none_summed}
use Rattle.handed.specs.Handed.{row_apart, session_apart, sum_fits}
use Rattle.handed.specs.OnceOver.{member_passes, row_passes}

-- a session that has link e on its path has a path
pub path_of_hop : (w : List ℕ) (s e : ℕ) → 0 < hop_of w s e → 0 < hops_of w s
path_of_hop w s e h = go (hop_of w s e) refl
  where
    go : (n : ℕ) → hop_of w s e ≡ n → 0 < hops_of w s
    go zero q = absurd (omega (arith, h, q))
    go (suc i) q = omega (arith, (hop_of_stop w s e i q).0)

module _ (w : List ℕ) (e : ℕ) where
  -- ALL THAT IT HOLDS -------------------------------------------------------------------------------------------------

  row_all : ((s : ℕ) → s < 32 → has s (held_word w e) ≡ 1 → member_passes w e s ≡ true) → row_passes w e ≡ true
  unfolding row_passes
  row_all h =
      all_below 32 (λ s. not (holds (place_of w e) s) || member_passes w e s)
      (λ s l.
      implies (holds (place_of w e) s) (member_passes w e s)
      (λ t. h s l (is_in (held_word w e) s (held_is w e s ∙ t))))

  row_fails : (s : ℕ) → s < 32 → has s (held_word w e) ≡ 1 → member_passes w e s ≡ false → row_passes w e ≡ false
  unfolding row_passes
  row_fails s l i m =
      all_fails 32 (λ s. not (holds (place_of w e) s) || member_passes w e s) s l
      (ap₂ (λ (a b : Bool). not a || b) (sym (held_is w e s) ∙ eq-eqb (has s (held_word w e)) 1 i) m)

  -- what all of the members answer
  pub row_is : (r : Bool) → AllPass 32 (held_word w e) (member_passes w e) r → r ≡ row_passes w e
  row_is true h = sym (row_all h)
  row_is false (s, l, i, m) = sym (row_fails s l i m)

  -- IN BOTH R AND F ---------------------------------------------------------------------------------------------------

  pub words_apart : bit_and (link_of w e).r (link_of w e).f ≡ 0 → row_apart w e ≡ true
  unfolding row_apart session_apart
  words_apart h = all_below 32 (session_apart w e) (λ s l. apart_each (link_of w e).r (link_of w e).f h s)

  pub words_meet : 0 < bit_and (link_of w e).r (link_of w e).f → row_apart w e ≡ false
  unfolding row_apart session_apart
  words_meet h =
      not_so (all 32 (session_apart w e))
      (λ a. omega (arith, h, word_apart 32 (link_of w e).r (link_of w e).f (omega (arith, r_below w e)) (λ s l. all_at 32 (session_apart w e) s a l)))

  -- A LINK THAT HOLDS NOBODY ------------------------------------------------------------------------------------------

  module _ (z : held_word w e ≡ 0) where
    pub empty_apart : row_apart w e ≡ true
    unfolding row_apart session_apart
    empty_apart = all_below 32 (session_apart w e) (λ s l. ap (λ (a : Bool). not (a && in_f (place_of w e) s)) (nobody_held w e z s).0)

    pub empty_row : row_passes w e ≡ true
    empty_row = row_all (λ s l i. absurd (omega (arith, i, ap (has s) z, has_zero s)))

    pub empty_fits : sum_fits w e ≡ true
    unfolding sum_fits B
    empty_fits =
        let q = none_summed w e z in
        let c = (link_of w e).capacity in
        let k = size_of (link_of w e).r in
        ap₂ ◌&&◌ (ap (λ (x : Result Rate NoTotal). not (is_past_c x)) q)
        (ap (λ (x : Result Rate NoTotal). is_fine (bound_of c k x)) q ∙ fine_within c k zero_of (omega arith) (omega (arith, count_most 32 (link_of w e).r)))

-- what the words of R and F say of a link
pub ruleset words_held = (empty_apart, empty_fits, empty_row, words_apart, words_meet)
