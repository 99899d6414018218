-- A session as its owner sees it, case by case.
-- Assumes nothing.
use mathlib.Core.Bool.{cond, false, true}
use mathlib.Core.List.{List}
use mathlib.Core.Path.{◌≡◌, ap, sym, ◌∙◌}
use Prim.Native.Nat.{ℕ, ◌≤◌, ◌<◌}
use borrow.Author.Tests.{le-ltb, lt-ltb}
use lib.Dec.{ltb}
use Rattle.ends.specs.declared.Source.{Source}
use Rattle.fractions.proofs.Cases.{chosen}
use Rattle.table.specs.Words.{source_of}
use Rattle.machine.specs.declared.Session.{Session}
use Rattle.machine.specs.declared.Session.TheVariants as session
use Rattle.machine.specs.Machine.{session_of}

abbrev shown : Source → Session
shown z = cond z.active (session.Active z.told) session.NotActive

module _ (w : List ℕ) (s : ℕ) where
  pub session_over : 32 ≤ s → session_of w s ≡ session.NotActive
  unfolding session_of
  session_over h = chosen (ltb s 32) false (shown (source_of w s)) session.NotActive (le-ltb s 32 h)

  module _ (z : Source) (h : s < 32) (is : z ≡ source_of w s) where
    shows : session_of w s ≡ shown z
    unfolding session_of
    shows = chosen (ltb s 32) true (shown (source_of w s)) session.NotActive (lt-ltb s 32 h) ∙ ap shown (sym is)

    pub session_none : z.active ≡ false → session_of w s ≡ session.NotActive
    session_none e = shows ∙ chosen z.active false (session.Active z.told) session.NotActive e

    pub session_active : z.active ≡ true → session_of w s ≡ session.Active z.told
    session_active e = shows ∙ chosen z.active true (session.Active z.told) session.NotActive e
