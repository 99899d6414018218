-- 00, demand 3: whenever the machine says that it is settled, its rates are the calculation's, fraction for fraction.
-- Assumes nothing.
use Rattle.std.specs.Prelude.{Ok, Err, Some}
use mathlib.Core.Bool.{Bool, cond, false, true}
use mathlib.Core.List.{List}
use mathlib.Core.Path.{◌≡◌, ap, refl, subst, sym, ◌∙◌}
use Prim.Native.Nat.{ℕ, ◌<◌}
use native.Mathlib.Omega.{arith}
use borrow.Author.Tests.{lt-ltb}
use Rattle.calculation.specs.Calculating.{calculate_of}
use Rattle.conditions.specs.Conditions.{Active}
use Rattle.conditions.specs.Settled.{settled_of}
use Rattle.conditions.proofs.Means.{settled_means}
use Rattle.handed.specs.Handed.{passes14_of}
use Rattle.machine.specs.declared.Session.TheVariants as session
use Rattle.machine.specs.Machine.{answer_of, machine_of, session_of}
use Rattle.reachable.specs.Reachable.{Reachable, empty, ran}
use Rattle.reachable.proofs.ReachablePasses.{reachable_passes}
use Rattle.records.specs.declared.Refusal.TheVariants as refusal
use Rattle.records.specs.Format.{Bytes}
use Rattle.records.specs.Refusals.{refused_at}
use Rattle.declarations.specs.Declaring.{declarations_of}
use Rattle.declarations.specs.declared.Declared.{Declared}
use Rattle.table.specs.Words.{empty_words, source_of}
use Rattle.agreement.specs.Agrees.{Agrees, HasRate, calculated_rate, written_rate}
use Rattle.present_set.specs.Held.{Declares, declarations_in}
use Rattle.agreement.specs.Needed.{Needed}
use Rattle.agreement.proofs.Calculated.{calculate_writes, same_as_calculated}
use Rattle.agreement.proofs.DeclaresPoses.{declares_poses}
use Rattle.agreement.proofs.SettledEntries.{conditions_needed, settled_links, settled_told}
use Rattle.agreement.proofs.SettledRates.{settled_answer}
use Rattle.present_set.proofs.TableDeclares.{table_declares}

-- the answer is yes only where the test of settled passes
yes_settled : (p q : Bool) → cond p (cond q (Ok true) (Ok false)) (Err (refused_at refusal.BadTable 0)) ≡ Ok true → q ≡ true
yes_settled true true e = refl
yes_settled true false e = absurd (let z : ◌≡◌ {A = ℕ} 0 1 = cc in omega arith)
yes_settled false q e = absurd (let z : ◌≡◌ {A = ℕ} 0 1 = cc in omega arith)

-- for any declarations of the table's links and active sessions
module _ (w : List ℕ) (r : Reachable w) (says : answer_of w ≡ Ok true) (d : Declared) (l : Declares d w) where
  needed : Needed w
  unfolding answer_of
  needed = conditions_needed w (settled_means w (yes_settled (passes14_of w) (settled_of w) says))

  pub has_calculated_rate : (s : ℕ) → s < 32 → Active w s → HasRate w s (calculated_rate d s)
  has_calculated_rate s h a =
      let o = reachable_passes w r in
      let e : (source_of w s).rate ≡ calculated_rate d s = same_as_calculated d w l (settled_answer w _ (declares_poses d w l) o needed) s h a in
      record {
        source = e;
        links = λ f p. record { held = (needed.b s (omega arith) a f p).held; rate = settled_links w o needed s h a f p ∙ e };
        told = settled_told w o needed s h a ∙ ap Some e;
      }

-- DEMAND 3 ------------------------------------------------------------------------------------------------------------

-- for every table that is reached and of which `settled` says yes: every active session has the calculation's rate at its source, at every link of its
-- path and last told
pub settled_agrees : (w : List ℕ) → Reachable w → answer_of w ≡ Ok true → Agrees w
settled_agrees w r says = record { rates = has_calculated_rate w r says (declarations_in w) (table_declares w) }

-- THE SAME FROM THE USER'S SIDE ---------------------------------------------------------------------------------------

-- any table that is reached and of which `settled` says yes, and any call of `calculate` that accepts records of the same links and active sessions: it
-- writes the rates that the sessions have
pub calculate_agrees : (w : List ℕ) → Reachable w → answer_of w ≡ Ok true
    → (records nums dens places : List ℕ) (links sessions : ℕ)
    → (calculate_of records nums dens places).answer ≡ Ok (record { links = links; sessions = sessions })
    → Declares (declarations_of records).declared w
    → (s : ℕ) → s < 32 → Active w s
    → HasRate w s (written_rate (calculate_of records nums dens places) s)
calculate_agrees w r says records nums dens places links sessions done l s h a =
    subst (HasRate w s) (sym (calculate_writes records nums dens places links sessions done s h (l.active s h ∙ a)))
    (has_calculated_rate w r says (declarations_of records).declared l s h a)

-- and so for any input bytes on the empty table: what it writes for an active session is what the machine last told it
pub run_agrees : (input : List ℕ) → Bytes input
    → answer_of (machine_of empty_words input).state ≡ Ok true
    → (records nums dens places : List ℕ) (links sessions : ℕ)
    → (calculate_of records nums dens places).answer ≡ Ok (record { links = links; sessions = sessions })
    → Declares (declarations_of records).declared (machine_of empty_words input).state
    → (s : ℕ) → s < 32 → Active (machine_of empty_words input).state s
    → session_of (machine_of empty_words input).state s ≡ session.Active (Some (written_rate (calculate_of records nums dens places) s))
unfolding session_of
run_agrees input bytes says records nums dens places links sessions done l s h a =
    let w = (machine_of empty_words input).state in
    let r = calculate_agrees w (ran empty input bytes) says records nums dens places links sessions done l s h a in
    rw (lt-ltb s 32 h, a) (ap session.Active r.told)
