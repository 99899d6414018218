-- (c) of a link by the word of the sessions that it holds: shown of each of them it holds of the link, and of a link that holds nobody it holds by itself.
-- Assumes nothing.
use mathlib.Core.Bool.{Bool, false, not, true, ◌&&◌, ◌||◌}
use mathlib.Core.List.{List}
use mathlib.Core.Logic.{◌⊎◌, inl, inr}
use mathlib.Core.Path.{ap, ap₂, refl, sym, ◌≡◌}
use Prim.Native.Nat.{ℕ, ◌<◌}
use native.Mathlib.Omega.{arith}
use lib.Dec.{eqb}
use Rattle.links.specs.declared.Bound.{Bound}
use Rattle.links.specs.Links.{B, R, below_b, equals_b, rate_at, sum_of}
use Rattle.records.proofs.Alls.{all_below, all_fails}
use Rattle.sessions.specs.Set.{has}
use Rattle.sessions.proofs.Chains.{AllPass}
use Rattle.sessions.proofs.Members.{has_or_not, has_zero}
use Rattle.table.specs.Words.{place_of}
use Rattle.totals.proofs.Held.{held_word, none_summed, out_of_both}
use Rattle.conditions.specs.Settled.{is_at_most_c, link_rated, member_rated, members_rated, rated_in_f, rated_in_r, sum_rated}

module _ (w : List ℕ) (e : ℕ) where
  module _ (b : Bound) where
    -- a session that the link does not hold has nothing to meet
    member_out : (s : ℕ) → has s (held_word w e) ≡ 0 → member_rated b (place_of w e) s ≡ true
    unfolding member_rated rated_in_r rated_in_f
    member_out s o =
        let p = place_of w e in
        let q = out_of_both w e s o in
        ap₂ ◌&&◌ (ap (λ (a : Bool). not a || equals_b b (rate_at p s)) q.0) (ap (λ (a : Bool). not a || below_b b (rate_at p s)) q.1)

    members_all : ((s : ℕ) → s < 32 → has s (held_word w e) ≡ 1 → member_rated b (place_of w e) s ≡ true) → members_rated b (place_of w e) ≡ true
    unfolding members_rated
    members_all h = all_below 32 (member_rated b (place_of w e)) (λ s l. go s l (has_or_not s (held_word w e)))
      where
        go : (s : ℕ) → s < 32 → (has s (held_word w e) ≡ 0) ⊎ (has s (held_word w e) ≡ 1) → member_rated b (place_of w e) s ≡ true
        go s l (inl o) = member_out s o
        go s l (inr i) = h s l i

    -- what all of the members answer
    pub rated_is : (r : Bool) → AllPass 32 (held_word w e) (member_rated b (place_of w e)) r → r ≡ members_rated b (place_of w e)
    unfolding members_rated
    rated_is true h = sym (members_all h)
    rated_is false (s, l, i, m) = sym (all_fails 32 (member_rated b (place_of w e)) s l m)

  pub empty_rated : held_word w e ≡ 0 → link_rated w e ≡ true
  unfolding link_rated sum_rated
  empty_rated z =
      let p = place_of w e in
      ap₂ ◌&&◌ (members_all (B p) (λ s l i. absurd (omega (arith, i, ap (has s) z, has_zero s))))
      (second (not (eqb (R p) 0)) (is_at_most_c (sum_of p)) (ap is_at_most_c (none_summed w e z)))
    where
      second : (a c : Bool) → c ≡ true → (a || c) ≡ true
      second true c h = refl
      second false c h = h
