-- `records::paths::path_ok` meets its contract: the tests of refusal 6 in their order.
-- Assumes nothing.
use Rattle.std.proofs.Common.{rules, tests}
use Rattle.std.proofs.lemmas.Grind.{common_steps}
use Rattle.records.specs.Format.{path_ok}
use Rattle.records.proofs.paths.path_ok.Goals as goal

pub returns-then-links_differ : goal.returns-then-links_differ
unfolding path_ok
returns-then-links_differ c = search (rules, tests)

pub returns-else-links_differ : goal.returns-else-links_differ
unfolding path_ok
returns-else-links_differ c = search (rules, tests)
