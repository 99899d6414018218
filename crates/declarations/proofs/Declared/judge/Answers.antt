-- `declarations::Declared::judge` meets its contract: refusal 7, then 16, then 8.
-- Assumes nothing.
use Rattle.std.specs.Prelude.{Err}
use mathlib.Core.List.{List}
use mathlib.Core.Path.{◌≡◌, refl, sym, subst, ◌∙◌}
use Prim.Native.Nat.{ℕ}
use Rattle.records.specs.Format.{RecordOk}
use Rattle.records.specs.declared.Record.{Record}
use Rattle.records.specs.declared.SessionRecord.{SessionRecord}
use Rattle.records.specs.declared.Record.TheVariants as rec
use Rattle.records.specs.declared.Refusal.TheVariants as refusal
use Rattle.records.proofs.ReadRecords.{path_size_lem}
use Rattle.declarations.specs.Declaring.{judge_of}
use Rattle.declarations.proofs.Declared.judge.Goals as goal

-- a record of another kind
not_taken : (s : List ℕ) (links sessions : ℕ) (x : Record) → ((e capacity : ℕ) → x ≡ rec.Link e capacity → ⊥)
    → ((y : SessionRecord) → x ≡ rec.Session y → ⊥) → Err refusal.KindNotTaken ≡ judge_of s links sessions x
unfolding judge_of
not_taken s links sessions (rec.Link e capacity) no_link no_session = absurd (no_link e capacity refl)
not_taken s links sessions (rec.Session y) no_link no_session = absurd (no_session y refl)
not_taken s links sessions (rec.Leave t) no_link no_session = refl
not_taken s links sessions (rec.Change t maximum) no_link no_session = refl
not_taken s links sessions (rec.Deliver position) no_link no_session = refl

pub returns-then-has : goal.returns-then-has
unfolding judge_of
returns-then-has c = let e = sym c.has.ensures ∙ c.if-has.true in
    simp (c.in-Link.is, e)

pub returns-then-has-2 : goal.returns-then-has-2
unfolding judge_of
returns-then-has-2 c = let e = sym c.has-in-Session.ensures ∙ c.if-has-2.true in
    simp (c.in-Session.is, e)

pub returns-then-above_line : goal.returns-then-above_line
unfolding judge_of
returns-then-above_line c = let e = sym c.has-in-Session.ensures ∙ c.if-has-2.false in
    let f = sym c.above_line.ensures ∙ c.if-above_line.true in
    simp (c.in-Session.is, e, f)

pub path_declared-requires : goal.path_declared-requires
path_declared-requires c = let p = subst (RecordOk c.args.s.now) c.in-Session.is c.requires in ((path_size_lem _ _ _ p.4).1, p.5)

pub returns-then-not-path_declared : goal.returns-then-not-path_declared
unfolding judge_of
returns-then-not-path_declared c = let e = sym c.has-in-Session.ensures ∙ c.if-has-2.false in
    let f = sym c.above_line.ensures ∙ c.if-above_line.false in
    let g = sym c.path_declared.ensures ∙ c.if-not-path_declared.true in
    simp (c.in-Session.is, e, f, g)

pub returns-else-has : goal.returns-else-has
unfolding judge_of
returns-else-has c = let e = sym c.has.ensures ∙ c.if-has.false in
    simp (c.in-Link.is, e)

pub returns-else-not-path_declared : goal.returns-else-not-path_declared
unfolding judge_of
returns-else-not-path_declared c = let e = sym c.has-in-Session.ensures ∙ c.if-has-2.false in
    let f = sym c.above_line.ensures ∙ c.if-above_line.false in
    let g = sym c.path_declared.ensures ∙ c.if-not-path_declared.false in
    simp (c.in-Session.is, e, f, g)

pub returns-in_default : goal.returns-in_default
returns-in_default c = not_taken c.args.s.now c.args.self.now.links c.args.self.now.sessions c.args.x c.in_default.not-Link c.in_default.not-Session
