-- A refusal of a lent form, whichever it is (15, 14 or 12), leaves the link's record and every place of the slice as they were.
-- Assumes nothing.
use Rattle.std.proofs.Common.{Bool, Err, List, Ok, Result, cond, false, true, ◌≡◌, ℕ, length, ltb, take}
use Rattle.links.specs.declared.Entry.{Entry}
use Rattle.links.specs.declared.Link.{Link}
use Rattle.links.specs.declared.Place.{Place}
use Rattle.records.specs.declared.Refusal.{Refusal}
use Rattle.records.specs.declared.Refusal.TheVariants as refusal
use Rattle.tasks.specs.declared.Kind.{Kind}
use Rattle.lent.specs.Lent.{check_of, f_check_of, lent_of, place_of, put_back, refused, step_link_of, step_of}

-- by the length of the slice, and what was worked out
kept : {A : Type 0} (short : Bool) (x : Result (Place × A) Refusal) (l : Link) (es : List Entry) (r : Refusal)
    → (cond short (refused refusal.ShortSlice l es) (put_back x l es)).answer ≡ Err r
    → cond short (refused refusal.ShortSlice l es) (put_back x l es) ≡ refused r l es
kept true x l es r e = λ i. record { link = l; entries = es; answer = e i }
kept false (Ok (p, x)) l es r e = cc
kept false (Err y) l es r e = λ i. record { link = l; entries = es; answer = e i }

lent_keeps : {A : Type 0} (of : Place → Result (Place × A) Refusal) (l : Link) (es : List Entry) (r : Refusal) → (lent_of of l es).answer ≡ Err r → lent_of of l es ≡ refused r l es
unfolding lent_of
lent_keeps of l es r e = kept (ltb (length es) 32) (of (place_of l (take 32 es))) l es r e

pub check_refused_keeps : (l : Link) (es : List Entry) (r : Refusal) → (f_check_of l es).answer ≡ Err r → f_check_of l es ≡ refused r l es
check_refused_keeps l es r e = lent_keeps check_of l es r e

pub step_refused_keeps : (n s : ℕ) (k : Kind) (l : Link) (es : List Entry) (r : Refusal) → (step_link_of n s k l es).answer ≡ Err r → step_link_of n s k l es ≡ refused r l es
step_refused_keeps n s k l es r e = lent_keeps (step_of n s k) l es r e
