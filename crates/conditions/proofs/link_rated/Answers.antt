-- `conditions::link_rated` meets its contract: the first test that settles it.
-- Assumes nothing.
use Rattle.std.specs.Prelude.{List, Result}
use mathlib.Core.Path.{ap, subst, sym, ◌∙◌, ◌≡◌}
use Prim.Native.Nat.{ℕ, ◌≤◌}
use borrow.Author.Rules.{rules}
use borrow.Author.Tests.{eq-eqb, ne_eqb}
use lib.Bits.{bit_or}
use Rattle.fractions.specs.declared.Rate.{Rate}
use Rattle.fractions.specs.Fraction.{max_rate}
use Rattle.links.specs.declared.Bound.{Bound}
use Rattle.links.specs.declared.Link.{Link}
use Rattle.links.specs.declared.NoTotal.{NoTotal}
use Rattle.links.specs.Links.{B, BoundSized, R, TotalSized, bound_of, sum_of}
use Rattle.links.proofs.Sizes.{b_sized, sum_sized}
use Rattle.sessions.specs.Set.{size_of}
use Rattle.sessions.proofs.Counts.{count_most}
use Rattle.table.specs.Words.{link_of, place_of}
use Rattle.table.proofs.InRange.{capacity_most}
use Rattle.table.proofs.Workables.{place_workable}
use Rattle.conditions.specs.Settled.{is_at_most_c, link_rated, members_rated, sum_rated}
use Rattle.conditions.proofs.LinkByWords.{empty_rated}
use Rattle.conditions.proofs.link_rated.Goals.{After-bound_from-b}
use Rattle.conditions.proofs.link_rated.Goals as goal

-- the B that was found is the link's: from what was read of the link
b_found : (w : List ℕ) (e : ℕ) {n : ℕ} {l : Link} {total : Result Rate NoTotal} {b : Bound}
    → total ≡ sum_of (place_of w e)
    → l ≡ link_of w e
    → n ≡ size_of l.r
    → b ≡ bound_of l.capacity n total
    → b ≡ B (place_of w e)
unfolding B
b_found w e x y z q = rw (← x, ← y, ← z) q

is_b : (c : After-bound_from-b) → c.bound_from-b.result ≡ B (place_of c.args.t.now c.args.e)
is_b c = b_found c.args.t.now c.args.e c.sum_at-total.ensures.exact c.link_at-l.ensures c.size.ensures c.bound_from-b.ensures.exact

pub returns-then-l-eq0 : goal.returns-then-l-eq0
returns-then-l-eq0 c =
    let a = c.args in
    sym (empty_rated a.t.now a.e (ap (λ (l : Link). bit_or l.r l.f) (sym c.link_at-l.ensures) ∙ c.if-l-eq0.true))

pub bound_from-b-requires : goal.bound_from-b-requires
bound_from-b-requires c =
    let a = c.args in
    let q = sym c.link_at-l.ensures in
    let y = c.sum_at-total in (
      subst (λ (l : Link). l.capacity ≤ max_rate) q (capacity_most a.t.now a.e),
      subst (λ (n : ℕ). n ≤ 32) (sym c.size.ensures) (count_most 32 _),
      subst (λ (l : Link). TotalSized l.capacity y.result) q
          (subst (TotalSized (link_of a.t.now a.e).capacity) (sym y.ensures.exact) (sum_sized (place_of a.t.now a.e) (place_workable a.t.now a.e))),
    )

pub members_rated-requires : goal.members_rated-requires
members_rated-requires c = (c.requires, subst BoundSized (sym (is_b c)) (b_sized (place_of c.args.t.now c.args.e) (place_workable c.args.t.now c.args.e)))

pub returns-else-members_rated : goal.returns-else-members_rated
unfolding link_rated
returns-else-members_rated c =
    let p = place_of c.args.t.now c.args.e in
    let m = sym (c.members_rated.ensures ∙ ap (λ (x : Bound). members_rated x p) (is_b c.before.before)) ∙ c.if-members_rated.false in
    rw m (search rules)

pub returns-then-l-ne0 : goal.returns-then-l-ne0
unfolding link_rated sum_rated
returns-then-l-ne0 c =
    let p = place_of c.args.t.now c.args.e in
    let m = sym (c.members_rated.ensures ∙ ap (λ (x : Bound). members_rated x p) (is_b c.before.before.before.before)) ∙ c.if-members_rated.true in
    let r = ne_eqb (R p) 0 (λ z. c.if-l-ne0.true (ap (λ (l : Link). l.r) c.link_at-l.ensures ∙ z)) in
    rw (m, r) (search rules)

pub returns-else-l-ne0 : goal.returns-else-l-ne0
unfolding link_rated sum_rated
returns-else-l-ne0 c =
    let p = place_of c.args.t.now c.args.e in
    let b = b_found c.args.t.now c.args.e c.sum_at-total.ensures.exact c.link_at-l.ensures c.size.ensures c.bound_from-b.ensures.exact in
    let m = sym (c.members_rated.ensures ∙ ap (λ (x : Bound). members_rated x p) b) ∙ c.if-members_rated.true in
    let r = eq-eqb (R p) 0 (sym (ap (λ (l : Link). l.r) c.link_at-l.ensures) ∙ c.if-l-ne0.false) in
    rw (m, r) (c.is_ok.ensures.value ∙ ap is_at_most_c c.sum_at-total.ensures.exact)
