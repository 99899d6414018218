-- A leave and a change of a maximum: the table after it.
-- Assumes nothing.
use mathlib.Core.Bool.{true}
use mathlib.Core.List.{List, [], ◌∷◌}
use mathlib.Core.Path.{◌≡◌, refl, subst, sym}
use Prim.Native.Nat.{ℕ, ◌+◌, ◌<◌, ◌≤◌}
use native.Mathlib.Omega.{arith}
use borrow.Author.Tests.{ltb-false}
use Rattle.fractions.specs.Fraction.{max_rate}
use Rattle.ends.specs.declared.SourceDid.{SourceDid}
use Rattle.ends.specs.Figure3.{changing_of, leaving_of}
use Rattle.events.specs.Events.{Step, change_of, leave_of, source_sends}
use Rattle.sending.specs.Sending.{one_if, sent_from}
use Rattle.fractions.proofs.Cases.{cases}
use Rattle.records.specs.Limits.{above_line}
use Rattle.table.specs.Values.{SourceWithin}
use Rattle.table.specs.Words.{count_of, hops_of, packets_of, put_source, source_of}
use Rattle.tasks.specs.declared.Kind.TheVariants as kind
use Rattle.tasks.specs.declared.Packet.{Packet}
use Rattle.reachable.specs.Invariant.{Every, PacketOk, Safe, active_in, also, none}
use Rattle.reachable.proofs.Lines.{lines_refl}
use Rattle.reachable.proofs.Sends.{length_onward, onward_to, sends_on}
use Rattle.reachable.proofs.SentPackets.{onward_ok, sent_ok}
use Rattle.reachable.proofs.SourceRules.{SourceDone, changing_done, down_kind}
use Rattle.reachable.proofs.SourceWrites.{Written, source_at, source_written}
use Rattle.reachable.proofs.Unless.{unless_many_lem}

-- v is the table w after the source of session s did d, with nothing taken out
abbrev pub SessionAfter : List ℕ → ℕ → SourceDid → List ℕ → Type 0
SessionAfter w s d v = Written w s d.source (packets_of w) (onward_to s 0 d.on) v

-- the Leave of session s at hop 1
abbrev pub the_leave : ℕ → Packet
the_leave s = sent_from s 0 kind.Leave

-- what an active session sends is in range and on its path
module _ (w : List ℕ) (s : ℕ) (i : Safe w) (ls : s < 32) (active : active_in w s ≡ true) where
  known : 0 < hops_of w s
  known = (i.source s ls).joined active

  within : SourceWithin (source_of w s)
  within = source_at w s i ls known

  pub leave_ok : Every (PacketOk w) (the_leave s ∷ [])
  leave_ok = also (sent_ok w s 0 kind.Leave ls known (λ t. omega arith) (omega arith) tt) none

  pub changed_ok : (d : SourceDid) → SourceDone (source_of w s) d → Every (PacketOk w) (onward_to s 0 d.on)
  changed_ok d done = onward_ok w s 0 down_kind d.on done.on ls known (λ t. omega arith) (omega arith)

module _ (P : List ℕ → Type 0) (w : List ℕ) (s : ℕ) (ls : s < 32) (i : Safe w) (k : P w) where
  sends_either : (d : SourceDid) → SourceWithin d.source → Every (PacketOk w) (onward_to s 0 d.on) → ((v : List ℕ) → SessionAfter w s d v → P v)
      → P (source_sends w w s d).words
  unfolding source_sends
  sends_either d o ok f =
      unless_many_lem P _ w _ k
      (λ (n : count_of w + one_if d.on ≤ 256).
      subst P (sym (sends_on (put_source w s d.source) s 0 d.on))
      (f _
      (source_written w w (lines_refl w) i.fits s ls d.source o (packets_of w) (onward_to s 0 d.on) refl ok
      (omega (arith, n, length_onward s 0 d.on)))))

  pub leave_either : (active_in w s ≡ true → (v : List ℕ) → SessionAfter w s (leaving_of (source_of w s)) v → P v) → P (leave_of w s).words
  unfolding leave_of leaving_of
  leave_either f =
      cases (λ (x : Step). P x.words) (source_of w s).active _ _
      (λ a.
      let o = within w s i ls a in
      sends_either (leaving_of (source_of w s))
      (record { joined = o.joined; access = o.access; maximum = o.maximum; line = o.line; rate = o.rate; told = o.told })
      (leave_ok w s i ls a) (f a))
      (λ a. k)

  pub change_either : (m : ℕ) → m ≤ max_rate
      → (active_in w s ≡ true → (v : List ℕ) → SourceDone (source_of w s) (changing_of (source_of w s) m) → SessionAfter w s (changing_of (source_of w s) m) v → P v)
      → P (change_of w s m).words
  unfolding change_of
  change_either m lm f =
      cases (λ (x : Step). P x.words) (source_of w s).active _ _
      (λ a.
      cases (λ (x : Step). P x.words) (above_line (source_of w s).access m) _ _ (λ b. k)
      (λ b.
      let d = changing_of (source_of w s) m in
      let done = changing_done (source_of w s) m lm (ltb-false _ _ b) (within w s i ls a) in
      sends_either d done.within (changed_ok w s i ls a d done) (λ v. f a v done)))
      (λ a. k)
