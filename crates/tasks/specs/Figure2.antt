-- 001, Figure 2: the task of a link. p is the link with its entries, e its number, s the packet's session. Comments give the figure's lines.
-- A rule answers the link after it, the packets that it sends, and `fine`: whether every partial sum and B that it read is within the limit of
-- refusal 12, and so are those of the link after it, where those of the link before it were. What reads a B that is too fine goes no further with
-- it: no comparison holds.
-- Assumes nothing: definitions.
use Rattle.std.specs.Prelude.{Bool, cond, false, true, ◌&&◌, ℕ, ◌≤◌, eqb, None, Option, Some}
use Rattle.fractions.specs.declared.Rate.{Rate}
use Rattle.fractions.specs.Fraction.{Sized, lt_of, max_rate, zero_of}
use Rattle.sessions.specs.Set.{cut, put}
use Rattle.links.specs.declared.Bound.{Bound}
use Rattle.links.specs.declared.Bound.TheVariants as bound
use Rattle.tasks.specs.declared.Burst.{Burst}
use Rattle.tasks.specs.declared.Burst.TheVariants as burst
use Rattle.tasks.specs.declared.Did.{Did}
use Rattle.tasks.specs.declared.Eta.{Eta}
use Rattle.tasks.specs.declared.Eta.TheVariants as eta
use Rattle.tasks.specs.declared.Kind.{Kind}
use Rattle.tasks.specs.declared.Kind.TheVariants as kind
use Rattle.links.specs.declared.Mu.TheVariants as mu
use Rattle.links.specs.declared.Place.{Place}
use Rattle.tasks.specs.declared.Tau.{Tau}
use Rattle.tasks.specs.declared.Tau.TheVariants as tau
use Rattle.links.specs.FCheck.{process_of}
use Rattle.links.specs.Links.{
  B,
  F,
  R,
  above_b,
  all_at_b,
  at_most_b,
  awaits_response,
  below_b,
  entry,
  equals_b,
  holds,
  in_f,
  in_r,
  is_fine,
  is_idle,
  mu_at,
  rate_at,
  those_of,
  waiting_of,
  with_entry,
  with_mu,
  with_words,
  idle_at,
}

-- WHAT A RULE ANSWERS -------------------------------------------------------------------------------------------------

-- the link after it; first a packet of one kind upstream to each session of a word, by rising number, then at most one of its own session
abbrev pub did : Place → Burst → ℕ → Option Kind → Bool → Did
did p k w o fine = record { place = p; burst = k; to = w; on = o; fine = fine }

-- no session but its own is sent anything
abbrev pub quiet : Place → Option Kind → Bool → Did
quiet p o fine = did p burst.Update 0 o fine

-- μ_r ← WAITING_PROBE and send upstream Update (r), for each r of w
abbrev pub updating : Place → ℕ → Option Kind → Bool → Did
updating p w o fine = did (waiting_of p w) burst.Update w o fine

-- A PACKET'S RATE ----------------------------------------------------------------------------------------------------

-- lines 15 and 35: if λ > B then λ ← B; η ← e
abbrev pub lowered_of : Bound → Rate → Rate
lowered_of (bound.At b) x = cond (lt_of b x) b x
lowered_of bound.Above x = x
lowered_of bound.TooFine x = x

abbrev pub named_of : Bound → Rate → ℕ → Eta → Eta
named_of b x e η = cond (above_b b x) (eta.Link e) η

-- WHEN RECEIVED -------------------------------------------------------------------------------------------------------

-- Join (s, λ, η), lines 12 to 16
unfoldable pub join_of : ℕ → ℕ → Rate → Eta → Place → Did
join_of e s x η p =
    let q = process_of (with_entry (with_words p (put s (R p)) (F p)) s (entry mu.WaitingResponse zero_of)) in  -- 13, 14; 01: a rate of 0/1
    let b = q.bound in
    did q.place burst.Update q.to (Some (kind.Join (lowered_of b x) (named_of b x e η))) (is_fine b)  -- 15, 16

-- η = e
abbrev pub is_link : Eta → ℕ → Bool
is_link eta.Own e = false
is_link (eta.Link n) e = eqb n e

-- line 21: (η = e ∧ λ = B) ∨ (η ≠ e ∧ λ ≤ B)
abbrev pub accepted_of : Bound → ℕ → Rate → Eta → Bool
accepted_of b e x η = cond (is_link η e) (equals_b b x) (at_most_b b x)

-- lines 25 to 28: the link is q by now, and its B still b: s is in R, so not in F (14), and neither R nor F nor a rate of F has changed
unfoldable pub answered_of : Bound → ℕ → ℕ → Tau → Rate → Eta → Place → Did
answered_of b e s τ x η q =
    cond (all_at_b b q)  -- 25
    (did q burst.Bottleneck (cut s (R q)) (Some (kind.Response tau.Bottleneck x (eta.Link e))) (is_fine b))  -- 26 to 28
    (quiet q (Some (kind.Response τ x η)) (is_fine b))  -- 28

-- lines 21 to 28
unfoldable pub agreed_of : ℕ → ℕ → Tau → Rate → Eta → Place → Did
agreed_of e s τ x η p =
    let b = B p in
    cond (accepted_of b e x η)  -- 21
    (answered_of b e s τ x η (with_entry p s (entry mu.Idle x)))  -- 22
    (answered_of b e s tau.Update x η (with_mu p s mu.WaitingProbe))  -- 23, 24

-- Response (s, τ, λ, η), lines 18 to 28
unfoldable pub response_of : ℕ → ℕ → Tau → Rate → Eta → Place → Did
response_of e s tau.Update x η p = quiet (with_mu p s mu.WaitingProbe) (Some (kind.Response tau.Update x η)) true  -- 19, 28
response_of e s tau.Response x η p = agreed_of e s tau.Response x η p  -- 20
response_of e s tau.Bottleneck x η p = agreed_of e s tau.Bottleneck x η p  -- 20

-- lines 33 to 36, for a session of F
unfoldable pub restricted_of : ℕ → ℕ → Rate → Eta → Place → Did
restricted_of e s x η v =
    let q = process_of (with_words v (put s (R v)) (cut s (F v))) in  -- 33, 34
    let b = q.bound in
    did q.place burst.Update q.to (Some (kind.Probe (lowered_of b x) (named_of b x e η))) (is_fine b)  -- 35, 36

-- lines 35 and 36, for a session of R
unfoldable pub staying_of : ℕ → Rate → Eta → Place → Did
staying_of e x η v =
    let b = B v in
    quiet v (Some (kind.Probe (lowered_of b x) (named_of b x e η))) (is_fine b)

-- Probe (s, λ, η), lines 30 to 36
unfoldable pub probe_of : ℕ → ℕ → Rate → Eta → Place → Did
probe_of e s x η p =
    let v = with_mu p s mu.WaitingResponse in  -- 31
    cond (in_f p s) (restricted_of e s x η v) (staying_of e x η v)  -- 32

-- Update (s), lines 38 to 40
unfoldable pub update_of : ℕ → Place → Did
update_of s p =
    cond (is_idle (mu_at p s))  -- 39
    (quiet (with_mu p s mu.WaitingProbe) (Some kind.Update) true)  -- 40
    (quiet p None true)

-- Bottleneck (s), lines 42 and 43
unfoldable pub bottleneck_of : ℕ → Place → Did
bottleneck_of s p = cond (is_idle (mu_at p s) && in_r p s) (quiet p (Some kind.Bottleneck) true) (quiet p None true)

-- lines 49 and 58: {r ∈ w : μ_r = IDLE ∧ λ_r = B}
abbrev pub idle_at_b : Bound → Place → ℕ → ℕ
idle_at_b b p w = those_of (idle_at b) p.entries w

-- lines 49 to 53; b is the B that line 48 found above the rate of s, so it is not too fine
unfoldable pub freed_of : Bound → ℕ → Bool → Place → Did
freed_of b s β p =
    let q = with_words p (cut s (R p)) (put s (F p)) in  -- 52
    updating q (idle_at_b b p (R p))  -- 49 to 51
    (Some (kind.SetBottleneck β))  -- 53
    (is_fine (B q))

-- SetBottleneck (s, β), lines 45 to 55
unfoldable pub set_bottleneck_of : ℕ → Bool → Place → Did
set_bottleneck_of s β p =
    let b = B p in
    cond (all_at_b b p) (quiet p (Some (kind.SetBottleneck true)) (is_fine b))  -- 46, 47
    (cond (below_b b (rate_at p s) && is_idle (mu_at p s)) (freed_of b s β p)  -- 48 to 53
    (cond (is_idle (mu_at p s) && equals_b b (rate_at p s)) (quiet p (Some (kind.SetBottleneck β)) (is_fine b))  -- 54, 55
    (quiet p None (is_fine b))))

-- line 59: if s ∈ F then F ← F \ {s} else R ← R \ {s}. We leave IDLE and 0/1 in the entry that is no longer there
unfoldable pub without_of : ℕ → Place → Place
without_of s p =
    with_entry (cond (in_f p s) (with_words p (R p) (cut s (F p))) (with_words p (cut s (R p)) (F p))) s (entry mu.Idle zero_of)

-- Leave (s), lines 57 to 62
unfoldable pub leave_of : ℕ → Place → Did
leave_of s p =
    let b = B p in
    let q = without_of s p in  -- 59
    updating q (idle_at_b b p (cut s (R p)))  -- 58, 60, 61
    (Some kind.Leave)  -- 62
    (is_fine b && is_fine (B q))

-- THE TASK, with what 01 adds: "A packet other than Join that reaches a link which doesn't hold its session .. is dropped; but a Leave is passed
-- on"; dropped too are "a Response at a link where its session is not both in R and waiting for a response, and a Join at a link that already
-- holds its session"
unfoldable pub link_step_of : ℕ → ℕ → Kind → Place → Did
link_step_of e s (kind.Join x η) p = cond (holds p s) (quiet p None true) (join_of e s x η p)
link_step_of e s (kind.Probe x η) p = cond (holds p s) (probe_of e s x η p) (quiet p None true)
link_step_of e s (kind.Response τ x η) p = cond (in_r p s && awaits_response (mu_at p s)) (response_of e s τ x η p) (quiet p None true)
link_step_of e s kind.Update p = cond (holds p s) (update_of s p) (quiet p None true)
link_step_of e s kind.Bottleneck p = cond (holds p s) (bottleneck_of s p) (quiet p None true)
link_step_of e s (kind.SetBottleneck β) p = cond (holds p s) (set_bottleneck_of s β p) (quiet p None true)
link_step_of e s kind.Leave p = cond (holds p s) (leave_of s p) (quiet p (Some kind.Leave) true)

-- WHAT THE ARITHMETIC NEEDS -------------------------------------------------------------------------------------------

-- the rate that a packet carries, where it carries one, is within the limits
abbrev pub KindSized : Kind → Type 0
KindSized (kind.Join x η) = Sized max_rate x
KindSized (kind.Probe x η) = Sized max_rate x
KindSized (kind.Response τ x η) = Sized max_rate x
KindSized kind.Update = 0 ≤ 0
KindSized kind.Bottleneck = 0 ≤ 0
KindSized (kind.SetBottleneck β) = 0 ≤ 0
KindSized kind.Leave = 0 ≤ 0
