-- A run of the machine, turn by turn: a record that is taken, one that is refused, and the end.
-- Assumes nothing.
use Rattle.std.specs.Prelude.{Result, Ok, Err, ⊤}
use mathlib.Core.List.{List}
use mathlib.Core.Path.{◌≡◌, ap, refl, sym, ◌∙◌}
use Prim.Native.Nat.{ℕ, ◌+◌, ◌-◌, ◌≤◌, ◌<◌}
use lib.ListN.{length}
use Rattle.events.specs.Events.{Step, ended, event_of}
use Rattle.events.proofs.Refusals.{refused_keeps}
use Rattle.records.specs.declared.Call.TheVariants as call
use Rattle.records.specs.declared.Record.{Record}
use Rattle.records.specs.declared.Refusal.{Refusal}
use Rattle.records.specs.declared.Refusal.TheVariants as refusal
use Rattle.records.specs.Format.{read_at, size_at}
use Rattle.records.specs.Run.{Ran, judged, run_from, weighed}
use Rattle.records.specs.Refusals.{refused_at}
use Rattle.records.proofs.ReadRecords.{judged_record_ends}
use Rattle.records.proofs.Refusing.{not_ok}
use Rattle.records.proofs.Runs.{run_refused, run_taken}
use Rattle.machine.specs.Machine.{acting, judging, read_step, step_of}

-- the records from place `at` on, where n were taken and left w
abbrev pub going : List ℕ → ℕ → List ℕ → ℕ → ℕ → Ran (List ℕ)
going s k w n at = run_from call.Machine (judging s) (acting s) s k w n at

-- a run that a refusal ended
abbrev stopped : List ℕ → ℕ → Refusal → ℕ → Ran (List ℕ)
stopped w n r at = record { state = w; taken = n; end = Err (refused_at r at) }

-- a refusal as what was read
abbrev refusal_read : Result ⊤ Refusal → Result Record Refusal
refusal_read (Ok u) = Err refusal.TooLong
refusal_read (Err r) = Err r

-- a record was read, and the verdict on it is v
reads : (s w : List ℕ) (x : Record) (v : Result ⊤ Refusal) → (event_of s w x).verdict ≡ v → judged (Ok x) (judging s w) ≡ weighed v x
reads s w x v e = ap (λ (q : Result ⊤ Refusal). weighed q x) e

-- the step that was made, by its verdict
module _ (s w u : List ℕ) (n at : ℕ) (v : Result ⊤ Refusal) (a : n ≤ at) (b : at < length s) (e : ended v u ≡ step_of s w at) where
  made : ended v u ≡ read_step s w (read_at call.Machine s at)
  unfolding step_of
  made = e

  -- it was taken
  module _ (t : v ≡ Ok tt) where
    taken_by : (r : Result Record Refusal) → read_at call.Machine s at ≡ r → ended v u ≡ read_step s w r
        → (at + size_at s at ≤ length s) × (going s (length s - n) w n at ≡ going s (length s - (n + 1)) u (n + 1) (at + size_at s at))
    taken_by (Ok x) q f =
        let h : judged (read_at call.Machine s at) (judging s w) ≡ Ok x =
        ap (λ (r : Result Record Refusal). judged r (judging s w)) q ∙ reads s w x (Ok tt) (sym (ap (λ (z : Step). z.verdict) f) ∙ t) in (
          judged_record_ends call.Machine s at (judging s w) x h,
          run_taken call.Machine (judging s) (acting s) s w n at x a b h
              ∙ ap (λ (z : List ℕ). going s (length s - (n + 1)) z (n + 1) (at + size_at s at)) (sym (ap (λ (z : Step). z.words) f)),
        )
    taken_by (Err r) q f = absurd (not_ok r tt (sym (ap (λ (z : Step). z.verdict) f) ∙ t))

    pub turn_ends : at + size_at s at ≤ length s
    turn_ends = (taken_by (read_at call.Machine s at) refl made).0

    pub turn_taken : going s (length s - n) w n at ≡ going s (length s - (n + 1)) u (n + 1) (at + size_at s at)
    turn_taken = (taken_by (read_at call.Machine s at) refl made).1

  -- it was refused
  module _ (r : Refusal) (t : v ≡ Err r) where
    refused_by : (q : Result Record Refusal) → read_at call.Machine s at ≡ q → ended v u ≡ read_step s w q
        → going s (length s - n) w n at ≡ stopped u n r at
    refused_by (Ok x) q f =
        let k : (event_of s w x).verdict ≡ Err r = sym (ap (λ (z : Step). z.verdict) f) ∙ t in
        let h : judged (read_at call.Machine s at) (judging s w) ≡ Err r =
        ap (λ (r : Result Record Refusal). judged r (judging s w)) q ∙ reads s w x (Err r) k in
        run_refused call.Machine (judging s) (acting s) s w n at r a b h
        ∙ ap (λ (z : List ℕ). stopped z n r at) (sym (ap (λ (z : Step). z.words) f ∙ refused_keeps s w x r k))
    refused_by (Err p) q f =
        let k : Err p ≡ Err r = sym (ap (λ (z : Step). z.verdict) f) ∙ t in
        let h : judged (read_at call.Machine s at) (judging s w) ≡ Err r =
        ap (λ (r : Result Record Refusal). judged r (judging s w)) q ∙ ap refusal_read k in
        run_refused call.Machine (judging s) (acting s) s w n at r a b h
        ∙ ap (λ (z : List ℕ). stopped z n r at) (sym (ap (λ (z : Step). z.words) f))

    pub turn_refused : going s (length s - n) w n at ≡ stopped u n r at
    turn_refused = refused_by (read_at call.Machine s at) refl made
