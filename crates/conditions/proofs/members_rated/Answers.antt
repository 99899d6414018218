-- `conditions::members_rated` meets its contract.
-- Assumes nothing.
use lib.Bits.{bit_or}
use mathlib.Core.Path.{ap, ◌∙◌, ◌≡◌}
use borrow.Author.Rules.{rules}
use borrow.Author.Tests.{tests}
use Rattle.links.specs.declared.Link.{Link}
use Rattle.sessions.proofs.Chains.{all_members}
use Rattle.table.specs.Words.{place_of}
use Rattle.conditions.specs.Settled.{member_rated}
use Rattle.conditions.proofs.LinkByWords.{rated_is}
use Rattle.conditions.proofs.members_rated.Goals as goal

pub returns : goal.returns
returns c =
    let a = c.args in
    let w = a.t.now in
    let i : c.each.result.left ≡ bit_or c.link_at-l.result.r c.link_at-l.result.f = search rules in
    rated_is w a.e a.b _
    (all_members _ 32 _ (member_rated a.b (place_of w a.e)) (λ x b q k. search (rules, tests)) _ _ _ _ (i ∙ ap (λ (l : Link). bit_or l.r l.f) c.link_at-l.ensures) c.all.ensures.ran)
