-- `declarations::Declared::take` meets its contract.
-- Assumes nothing.
use mathlib.Core.List.{List}
use mathlib.Core.Path.{◌≡◌, refl}
use Prim.Native.Nat.{ℕ}
use Rattle.records.specs.declared.Record.{Record}
use Rattle.records.specs.declared.SessionRecord.{SessionRecord}
use Rattle.records.specs.declared.Record.TheVariants as rec
use Rattle.declarations.specs.Declaring.{declare_of}
use Rattle.declarations.specs.declared.Declared.{Declared}
use Rattle.declarations.proofs.Declared.take.Goals as goal

-- a record of another kind declares nothing
nothing : (s : List ℕ) (d : Declared) (x : Record) → ((e capacity : ℕ) → x ≡ rec.Link e capacity → ⊥)
    → ((y : SessionRecord) → x ≡ rec.Session y → ⊥) → d ≡ declare_of s d x
unfolding declare_of
nothing s d (rec.Link e capacity) no_link no_session = absurd (no_link e capacity refl)
nothing s d (rec.Session y) no_link no_session = absurd (no_session y refl)
nothing s d (rec.Leave t) no_link no_session = refl
nothing s d (rec.Change t maximum) no_link no_session = refl
nothing s d (rec.Deliver position) no_link no_session = refl

pub returns-in-Link : goal.returns-in-Link
unfolding declare_of
returns-in-Link c = rw (c.in-Link.is, c.put-self.ensures)

pub returns-in-Session : goal.returns-in-Session
unfolding declare_of
returns-in-Session c = rw (c.in-Session.is, c.put-self-in-Session.ensures, c.copy_path.ensures)

pub returns-in_default : goal.returns-in_default
returns-in_default c = nothing c.args.s.now c.args.self.now c.args.x c.in_default.not-Link c.in_default.not-Session
