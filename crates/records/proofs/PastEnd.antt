-- Past the end of an input stands no kind, and so none that is taken.
-- Assumes nothing.
use Rattle.std.specs.Prelude.{Err}
use mathlib.Core.Bool.{false}
use mathlib.Core.List.{List}
use mathlib.Core.Path.{◌≡◌, refl}
use Prim.Native.Nat.{ℕ, ◌≤◌}
use lib.ListN.{length, get_or-eq_default}
use Rattle.records.specs.Format.{body_of, read_at, size_at, takes_of}
use Rattle.records.specs.declared.Call.{Call}
use Rattle.records.specs.declared.Call.TheVariants as call
use Rattle.records.specs.declared.Refusal.TheVariants as refusal

kind_0_not_taken : (c : Call) → takes_of c 0 ≡ false
kind_0_not_taken call.Calculation = refl
kind_0_not_taken call.Machine = refl

module _ (s : List ℕ) (at : ℕ) (h : length s ≤ at) where
  pub read_past_end : (c : Call) → read_at c s at ≡ Err refusal.KindNotTaken
  unfolding read_at
  read_past_end c = rw (get_or-eq_default s 0 h, kind_0_not_taken c)

  pub size_past_end : size_at s at ≡ 1
  unfolding size_at body_of
  size_past_end = rw (get_or-eq_default s 0 h)
