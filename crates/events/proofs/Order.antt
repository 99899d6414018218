-- 02, §1: where refusal 16 stands in the order, for records that meet it and another at once. That 5 and 6 come first is in the reading of a record
-- (records/specs/Run.antt, `judged`): what it refuses is refused so, whatever the table says.
-- Assumes nothing.
use mathlib.Core.Bool.{false, true}
use mathlib.Core.List.{List}
use mathlib.Core.Path.{◌≡◌, refl, sym}
use Prim.Native.Nat.{ℕ}
use Rattle.records.specs.Format.{a_session}
use Rattle.records.specs.Limits.{above_line}
use Rattle.records.specs.declared.Record.TheVariants as rec
use Rattle.records.specs.declared.Refusal.TheVariants as refusal
use Rattle.table.specs.Words.{source_of}
use Rattle.events.specs.Events.{event_of, refusing}
use Rattle.events.proofs.Steps.{change_above, change_not, join_above, join_active}

-- a session record: 7 whatever the maximum, then 16 whatever the path (8) and the packets in flight (10, 13)
module _ (s w : List ℕ) (t access maximum n at : ℕ) where
  pub seven_before_16 : (source_of w t).active ≡ true → event_of s w (a_session t access maximum n at) ≡ refusing refusal.AlreadyThere w
  unfolding event_of
  seven_before_16 a = join_active s w t access maximum n at (source_of w t) refl a

  pub sixteen_before_8_10_13 : (source_of w t).active ≡ false → above_line access maximum ≡ true
      → event_of s w (a_session t access maximum n at) ≡ refusing refusal.AboveLine w
  unfolding event_of
  sixteen_before_8_10_13 a b = join_above s w t access maximum n at (source_of w t) refl a b

-- a change: 9 whatever the maximum, then 16 whatever the packets in flight (13), against the access rate that the table holds
module _ (s w : List ℕ) (t maximum : ℕ) where
  pub nine_before_16 : (source_of w t).active ≡ false → event_of s w (rec.Change t maximum) ≡ refusing refusal.NotActive w
  unfolding event_of
  nine_before_16 a = change_not w t (source_of w t) refl maximum a

  pub sixteen_before_13 : (source_of w t).active ≡ true → above_line (source_of w t).access maximum ≡ true
      → event_of s w (rec.Change t maximum) ≡ refusing refusal.AboveLine w
  unfolding event_of
  sixteen_before_13 a b = change_above w t (source_of w t) refl maximum a true (sym b) refl
