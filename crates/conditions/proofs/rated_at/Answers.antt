-- `conditions::rated_at` meets its contract: what is asked of the entry is what the definition asks of the member.
-- Assumes nothing.
use mathlib.Core.Bool.{not, ◌&&◌, ◌||◌}
use mathlib.Core.Path.{ap₂, subst, sym, ◌∙◌}
use Rattle.fractions.specs.Fraction.{Sized, max_rate}
use Rattle.links.specs.declared.Entry.{Entry}
use Rattle.links.specs.declared.Link.{Link}
use Rattle.links.specs.Links.{below_b, equals_b}
use Rattle.sessions.specs.Set.{has_of}
use Rattle.table.proofs.InRange.{row_rates}
use Rattle.conditions.specs.Settled.{member_rated, rated_in_f, rated_in_r}
use Rattle.conditions.proofs.rated_at.Goals as goal

pub member_rated-requires : goal.member_rated-requires
member_rated-requires c =
    let a = c.args in
    let r = c.requires in
    (r.1, r.2, subst (λ (y : Entry). Sized max_rate y.rate) (sym c.entry_in-y.ensures) (row_rates a.t.now a.e a.s r.2))

pub returns : goal.returns
unfolding member_rated rated_in_r rated_in_f
returns c =
    let a = c.args in
    c.member_rated.ensures
    ∙ ap₂ (λ (l : Link) (y : Entry). (not (has_of a.s l.r) || equals_b a.b y.rate) && (not (has_of a.s l.f) || below_b a.b y.rate)) c.requires.3 c.entry_in-y.ensures
