-- A session that is in R and waits for a response: what leaves it so, and that a Join and a Probe which the link takes make it so.
-- Assumes nothing.
use mathlib.Core.Bool.{Bool, false, not, true}
use mathlib.Core.List.{List}
use mathlib.Core.Logic.{◌⊎◌, inl, inr}
use mathlib.Core.Path.{◌≡◌, ap, refl, subst, sym, ◌∙◌}
use Prim.Native.Nat.{ℕ, zero, suc, ◌≤◌, ◌<◌, max}
use lib.ListN.{get_or}
use lib.Seq.{get_or-set_other, get_or-set_same}
use native.Mathlib.Omega.{arith}
use borrow.Author.Tests.{eq-eqb}
use Rattle.fractions.specs.declared.Rate.{Rate}
use Rattle.fractions.specs.Fraction.{zero_of}
use Rattle.fractions.proofs.Cases.{and_both, cases, not_true, or_either}
use Rattle.links.specs.declared.Bound.{Bound}
use Rattle.links.specs.declared.Entry.{Entry}
use Rattle.links.specs.declared.Mu.{Mu}
use Rattle.links.specs.declared.Mu.TheVariants as mu
use Rattle.links.specs.declared.Place.{Place}
use Rattle.links.specs.FCheck.{check_of, highest_of, over_b, process_of, turn_of}
use Rattle.links.specs.Links.{B, F, R, above_b, awaits_response, entry, entry_at, equals_b, holds, in_f, in_r, is_idle, mu_at, no_entry, rate_at, some_of, those_of, wait_in, waiting_of, with_entry, with_mu, with_words, at_least, has_rate, idle_above, idle_at}
use Rattle.records.proofs.Somes.{clash}
use Rattle.sessions.specs.Set.{cut, has, members, put, walk}
use Rattle.sessions.proofs.Members.{has_lt, has_put_same, is_in}
use Rattle.sessions.proofs.Operations.{has_or}
use Rattle.tasks.specs.declared.Did.{Did}
use Rattle.tasks.specs.declared.Eta.{Eta}
use Rattle.tasks.specs.declared.Kind.{Kind}
use Rattle.tasks.specs.declared.Kind.TheVariants as kind
use Rattle.tasks.specs.Figure2.{join_of, link_step_of, probe_of, restricted_of, staying_of}
use Rattle.soundness.specs.ProbeCycle.{Waiting}
use Rattle.soundness.specs.Sound.{Sound}
use Rattle.soundness.proofs.Chosen.{those_out}
use Rattle.soundness.proofs.Weights.{walk_adds}

-- a Join is taken where the link does not hold the session (h is whether it does), a Probe where it does
abbrev pub starts_to_wait : Kind → Bool → Bool
starts_to_wait (kind.Join x η) h = not h
starts_to_wait (kind.Probe x η) h = h
starts_to_wait (kind.Response τ x η) h = false
starts_to_wait kind.Update h = false
starts_to_wait kind.Bottleneck h = false
starts_to_wait (kind.SetBottleneck β) h = false
starts_to_wait kind.Leave h = false

-- WHAT LEAVES A SESSION ALONE -----------------------------------------------------------------------------------------

-- a session stays in R, with its entry
pub still : (p q : Place) (r : ℕ) → has r (R p) ≤ has r (R q) → entry_at q r ≡ entry_at p r → Waiting p r → Waiting q r
still p q r h e w = record {
  restricted = eq-eqb (has r (R q)) 1 (omega (arith, is_in (R p) r w.restricted, has_lt r (R q)));
  awaits = subst (λ (y : Entry). awaits_response y.mu ≡ true) (sym e) w.awaits;
}

-- the entry of another session
pub entry_still : (p : Place) (s r : ℕ) (y : Entry) → (s ≡ r → ⊥) → Waiting p r → Waiting (with_entry p s y) r
entry_still p s r y n w = still p (with_entry p s y) r (omega arith) (get_or-set_other p.entries s r y no_entry (λ q. n (sym q))) w

pub not_idle : (m : Mu) → awaits_response m ≡ true → is_idle m ≡ true → ⊥
not_idle mu.Idle e f = clash false e refl
not_idle mu.WaitingProbe e f = clash false e refl
not_idle mu.WaitingResponse e f = clash false f refl

-- sessions other than r are made to wait for a probe
entries_still : (es : List Entry) (w r : ℕ) → has r w ≡ 0 → get_or (walk wait_in es (members w)) r no_entry ≡ get_or es r no_entry
entries_still es w r n =
    walk_adds (λ fs m. get_or fs r no_entry ≡ get_or es r no_entry) wait_in (λ j. 0) w
    (λ j l h fs m e. get_or-set_other fs j r _ no_entry (λ q. omega (arith, n, subst (λ (i : ℕ). has i w ≡ 1) (sym q) h)) ∙ e)
    es 0 refl

pub waiting_still : (p : Place) (w r : ℕ) → has r w ≡ 0 → Waiting p r → Waiting (waiting_of p w) r
unfolding waiting_of
waiting_still p w r n h = still p (waiting_of p w) r (omega arith) (entries_still p.entries w r n) h

-- a session that waits is not among the idle
module _ (p : Place) (r w : ℕ) (h : Waiting p r) (b : Bound) where
  not_above : has r (those_of (idle_above b) p.entries w) ≡ 0
  not_above =
      those_out (idle_above b) p.entries w r
      (λ k m. not_idle (mu_at p r) h.awaits (and_both (is_idle (mu_at p r)) (above_b b (rate_at p r)) m).0)

  pub not_at : has r (those_of (idle_at b) p.entries w) ≡ 0
  not_at =
      those_out (idle_at b) p.entries w r
      (λ k m. not_idle (mu_at p r) h.awaits (and_both (is_idle (mu_at p r)) (equals_b b (rate_at p r)) m).0)

-- the F check takes nobody out of R
turn_still : (p : Place) (r : ℕ) → Waiting p r → Waiting (turn_of p) r
unfolding turn_of
turn_still p r w =
    let v = those_of (has_rate (highest_of p)) p.entries (F p) in
    still p (turn_of p) r (omega (arith, has_or r (R p) v, least (has r (R p)) (has r v))) refl w
  where
    least : (a b : ℕ) → a ≤ max a b
    least a b = omega arith

check_still : (k : ℕ) (p : Place) (r : ℕ) → Waiting p r → Waiting (check_of k p) r
unfolding check_of
check_still zero p r w = w
check_still (suc k) p r w =
    cases (λ (q : Place). Waiting q r) (some_of (at_least (B p)) p.entries (F p)) (check_of k (turn_of p)) p
    (λ e. check_still k (turn_of p) r (turn_still p r w))
    (λ e. w)

pub process_still : (p : Place) (r : ℕ) → Waiting p r → Waiting (process_of p).place r
unfolding process_of
process_still p r w =
    let q = check_of 32 p in
    let v = check_still 32 p r w in
    waiting_still q (over_b q) r (not_above q r (R q) v (B q)) v

-- STARTS --------------------------------------------------------------------------------------------------------------

-- an entry that waits for a response, of a session in R
new_waiting : (p : Place) (s : ℕ) (x : Rate) (r f : ℕ) → s < 32 → Sound p → has s r ≡ 1
    → Waiting (with_words (with_entry p s (entry mu.WaitingResponse x)) r f) s
new_waiting p s x r f l z h = record {
  restricted = eq-eqb (has s r) 1 h;
  awaits =
      ap (λ (y : Entry). awaits_response y.mu)
      (get_or-set_same p.entries s (entry mu.WaitingResponse x) no_entry (omega (arith, z.workable.rates.many)));
}

-- a Probe that is taken
pub probe_waits : (e s : ℕ) (x : Rate) (η : Eta) (p : Place) → s < 32 → Sound p → holds p s ≡ true → Waiting (probe_of e s x η p).place s
unfolding probe_of restricted_of staying_of
probe_waits e s x η p l z h =
    cases (λ (d : Did). Waiting d.place s) (in_f p s) (restricted_of e s x η (with_mu p s mu.WaitingResponse)) (staying_of e x η (with_mu p s mu.WaitingResponse))
    (λ f. process_still (with_words (with_mu p s mu.WaitingResponse) (put s (R p)) (cut s (F p))) s (new_waiting p s (rate_at p s) (put s (R p)) (cut s (F p)) l z (has_put_same s (R p))))
    (λ f. new_waiting p s (rate_at p s) (R p) (F p) l z (here f (or_either (in_r p s) (in_f p s) h)))
  where
    here : in_f p s ≡ false → (in_r p s ≡ true) ⊎ (in_f p s ≡ true) → has s (R p) ≡ 1
    here f (inl i) = is_in (R p) s i
    here f (inr i) = absurd (clash (in_f p s) i f)

pub starts_waiting : (e s : ℕ) (k : Kind) (p : Place) → s < 32 → Sound p → starts_to_wait k (holds p s) ≡ true → Waiting (link_step_of e s k p).place s
unfolding link_step_of join_of
starts_waiting e s (kind.Join x η) p l z t =
    let n : holds p s ≡ false = not_true (holds p s) t in
    rw n
    (process_still (with_entry (with_words p (put s (R p)) (F p)) s (entry mu.WaitingResponse zero_of)) s
    (new_waiting p s zero_of (put s (R p)) (F p) l z (has_put_same s (R p))))
starts_waiting e s (kind.Probe x η) p l z t = rw t (probe_waits e s x η p l z t)
starts_waiting e s (kind.Response τ x η) p l z t = absurd (clash false t refl)
starts_waiting e s kind.Update p l z t = absurd (clash false t refl)
starts_waiting e s kind.Bottleneck p l z t = absurd (clash false t refl)
starts_waiting e s (kind.SetBottleneck β) p l z t = absurd (clash false t refl)
starts_waiting e s kind.Leave p l z t = absurd (clash false t refl)
