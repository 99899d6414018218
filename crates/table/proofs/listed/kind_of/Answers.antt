-- `table::kind_of` meets its contract.
-- Assumes nothing.
use borrow.Author.Tests.{ne_eqb}
use Rattle.table.specs.Words.{kind_of}
use native.Mathlib.Omega.{arith}
use Rattle.std.proofs.Common.{ℕ, get_or}
use Rattle.table.proofs.listed.kind_of.Goals as goal

pub returns-in-1 : goal.returns-in-1
unfolding kind_of
returns-in-1 c = rw (c.in-1.is, c.eta_of-name.ensures, c.kept-rate.ensures)

pub returns-in-2 : goal.returns-in-2
unfolding kind_of
returns-in-2 c = rw (c.in-2.is, c.tau_of-what.ensures, c.eta_of-name.ensures, c.kept-rate.ensures)

pub returns-in-3 : goal.returns-in-3
unfolding kind_of
returns-in-3 c = rw c.in-3.is

pub returns-in-4 : goal.returns-in-4
unfolding kind_of
returns-in-4 c = rw c.in-4.is

pub returns-in-5 : goal.returns-in-5
unfolding kind_of
returns-in-5 c = rw c.in-5.is

pub returns-in-6 : goal.returns-in-6
unfolding kind_of
returns-in-6 c = rw c.in-6.is

pub returns-in_default : goal.returns-in_default
unfolding kind_of
returns-in_default c =
    let n : ℕ = get_or c.args.b 3 0 in
    rw (
      ne_eqb n 1 (omega arith),
      ne_eqb n 2 (omega arith),
      ne_eqb n 3 (omega arith),
      ne_eqb n 4 (omega arith),
      ne_eqb n 5 (omega arith),
      ne_eqb n 6 (omega arith),
      c.eta_of-name.ensures,
      c.kept-rate.ensures,
    )
