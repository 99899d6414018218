-- 01, "The tasks": "The entries of one link are lent as a slice of records and changed where they stand by the F check. The link's own record is lent
-- to the step and updated by it." What the two answer and what stands behind the references after them, for slices of every length: the link's
-- entries are the first 32 places, and those after them are left alone.
-- Assumes nothing: definitions.
use Rattle.std.specs.Prelude.{Bool, Err, Ok, Result, cond, not, true, ◌&&◌, ◌≡◌, List, ◌++◌, ℕ, leb, ltb, drop, get_or, length, take}
use Rattle.fractions.specs.Fraction.{is_rate_of, max_rate}
use Rattle.records.specs.Format.{all}
use Rattle.records.specs.Refusals.{number_of}
use Rattle.records.specs.declared.Refusal.{Refusal}
use Rattle.records.specs.declared.Refusal.TheVariants as refusal
use Rattle.links.specs.declared.Entry.{Entry}
use Rattle.links.specs.declared.Link.{Link}
use Rattle.links.specs.declared.Place.{Place}
use Rattle.links.specs.FCheck.{process_of}
use Rattle.links.specs.Links.{B, is_fine, is_past_c, no_entry, sum_of}
use Rattle.sessions.specs.Set.{has_of}
use Rattle.tasks.specs.declared.Kind.{Kind}
use Rattle.tasks.specs.declared.Kind.TheVariants as kind
use Rattle.tasks.specs.Figure2.{link_step_of}
use Rattle.lent.specs.declared.After.{After}
use Rattle.lent.specs.declared.Checked.{Checked}
use Rattle.lent.specs.declared.Sent.{Sent}

-- a link with its entries
abbrev pub place_of : Link → List Entry → Place
place_of l es = record { link = l; entries = es }

-- WHAT IS TURNED AWAY AS 14 -------------------------------------------------------------------------------------------

-- 01, 14: "a field outside its range (rates: 0 to 1,000,000, denominator to 1,048,576), a rate not in lowest terms": of all 32 entries
unfoldable pub rates_fit : List Entry → Bool
rates_fit es = all 32 (λ s. is_rate_of (get_or es s no_entry).rate)

-- and the link's capacity: at most 1,000,000 (0, of a link that is not declared, is taken)
unfoldable pub in_range : Place → Bool
in_range p = leb p.link.capacity max_rate && rates_fit p.entries

-- not "a session in both R and F of a link"
unfoldable pub apart : Link → Bool
apart l = all 32 (λ s. not (has_of s l.r && has_of s l.f))

-- nor "a link whose F sums past C": what both forms ask of the link and its entries
unfoldable pub fits : Place → Bool
fits p = in_range p && (apart p.link && not (is_past_c (sum_of p)))

-- of a packet: the rate that it carries, where it carries one
abbrev pub kind_fits : Kind → Bool
kind_fits (kind.Join x η) = is_rate_of x
kind_fits (kind.Probe x η) = is_rate_of x
kind_fits (kind.Response τ x η) = is_rate_of x
kind_fits kind.Update = true
kind_fits kind.Bottleneck = true
kind_fits (kind.SetBottleneck β) = true
kind_fits kind.Leave = true

-- and its session, with the link and its entries; and not "a link .. whose sums or B meet 12", before the step
unfoldable pub step_fits : ℕ → Kind → Place → Bool
step_fits s k p = ltb s 32 && (kind_fits k && (fits p && is_fine (B p)))

-- WHAT STANDS AFTER A CALL --------------------------------------------------------------------------------------------

-- a refusal leaves the link and every place of the slice as they were
abbrev pub refused : {A : Type 0} → Refusal → Link → List Entry → After A
refused r l es = record { link = l; entries = es; answer = Err r }

-- of what was worked out on the first 32 places: the link and the entries after it stand where those before it stood
abbrev pub put_back : {A : Type 0} → Result (Place × A) Refusal → Link → List Entry → After A
put_back (Ok (p, x)) l es = record { link = p.link; entries = p.entries ++ drop 32 es; answer = Ok x }
put_back (Err r) l es = refused r l es

-- so a slice that is too short is refused 15 before anything is worked out
unfoldable pub lent_of : {A : Type 0} → (Place → Result (Place × A) Refusal) → Link → List Entry → After A
lent_of of l es = cond (ltb (length es) 32) (refused refusal.ShortSlice l es) (put_back (of (place_of l (take 32 es))) l es)

-- a function that is passed works this out
abbrev pub Works : {A : Type 0} → (Place → Result (Place × A) Refusal → Type 0) → (Place → Result (Place × A) Refusal) → Type 0
Works {A} post of = (p : Place) (r : Result (Place × A) Refusal) → post p r → r ≡ of p

-- 01's number of an answer: 0 where the call was made
abbrev pub answer_number : {A : Type 0} → Result A Refusal → ℕ
answer_number (Ok x) = 0
answer_number (Err r) = number_of r

-- THE F CHECK ---------------------------------------------------------------------------------------------------------

-- 001, Figure 2, lines 5 to 10; where its B is too fine, refusal 12
unfoldable pub check_of : Place → Result (Place × Checked) Refusal
check_of p =
    cond (fits p)
    (let q = process_of p in cond (is_fine q.bound) (Ok (q.place, record { to = q.to; bound = q.bound })) (Err refusal.TooFine))
    (Err refusal.BadTable)

-- tested in this order: 15, 14, 12
abbrev pub f_check_of : Link → List Entry → After Checked
f_check_of l es = lent_of check_of l es

-- THE STEP ------------------------------------------------------------------------------------------------------------

-- 001, Figure 2; where a sum or B that it reads, or that its change makes, is too fine, refusal 12. The sums and B of the link before it are fine by 14
unfoldable pub step_of : ℕ → ℕ → Kind → Place → Result (Place × Sent) Refusal
step_of e s k p =
    cond (step_fits s k p)
    (let d = link_step_of e s k p in cond d.fine (Ok (d.place, record { burst = d.burst; to = d.to; on = d.on })) (Err refusal.TooFine))
    (Err refusal.BadTable)

-- link e and a packet of session s, tested in this order: 15, 14, 12
abbrev pub step_link_of : ℕ → ℕ → Kind → Link → List Entry → After Sent
step_link_of e s k l es = lent_of (step_of e s k) l es
