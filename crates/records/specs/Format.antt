-- 01, "Records": one record read at a place of the bytes s, with refusals 2 to 6 in number order. Numbers are big-endian.
-- Assumes nothing: definitions.
use Rattle.std.specs.Prelude.{Bool, ◌&&◌, ◌||◌, cond, not, true, List, [], ◌∷◌, ◌≡◌, ℕ, zero, suc, ◌+◌, ◌*◌, ◌≤◌, ◌<◌, eqb, leb, ltb, get_or, length, Result, Ok, Err}
use Rattle.records.specs.Limits.{link_limit, path_limit, rate_limit, session_limit}
use Rattle.records.specs.declared.Call.{Call}
use Rattle.records.specs.declared.Call.TheVariants as call
use Rattle.records.specs.declared.Record.{Record}
use Rattle.records.specs.declared.Record.TheVariants as rec
use Rattle.records.specs.declared.Refusal.TheVariants as refusal
use Rattle.records.specs.declared.Refusal.{Refusal}

-- all numbers of an input are bytes
abbrev pub Bytes : List ℕ → Type 0
Bytes s = (i : ℕ) → get_or s i 0 < 256

-- two and four bytes, the highest first
unfoldable pub be2 : List ℕ → ℕ → ℕ
be2 s at = get_or s at 0 * 256 + get_or s (at + 1) 0

unfoldable pub be4 : List ℕ → ℕ → ℕ
be4 s at = ((get_or s at 0 * 256 + get_or s (at + 1) 0) * 256 + get_or s (at + 2) 0) * 256 + get_or s (at + 3) 0

-- "The calculation takes kinds 1 and 2"; the machine takes 1 to 5
abbrev pub takes_of : Call → ℕ → Bool
takes_of call.Calculation kind = eqb kind 1 || eqb kind 2
takes_of call.Machine kind = ltb 0 kind && leb kind 5

-- the length of the body, by kind: the table of 01, "Records"
abbrev pub bodies : List ℕ
bodies = 0 ∷ 5 ∷ 18 ∷ 1 ∷ 5 ∷ 2 ∷ []

unfoldable pub body_of : ℕ → ℕ
body_of kind = get_or bodies kind 0

-- the test passes at all i < n
unfoldable pub all : ℕ → (ℕ → Bool) → Bool
all zero f = true
all (suc n) f = all n f && f n

-- refusal 5: a capacity or an access rate is 1 to 1,000,000
abbrev pub rate_ok : ℕ → Bool
rate_ok n = ltb 0 n && leb n rate_limit

-- refusal 6, of n links in the eight bytes from a place on: "used byte over 63"
unfoldable pub links_ok : List ℕ → ℕ → ℕ → Bool
links_ok s at n = all n (λ h. ltb (get_or s (at + h) 0) link_limit)

-- "link twice": each is another than those before it
unfoldable pub is_new : List ℕ → ℕ → ℕ → ℕ → Bool
is_new s at h link = all h (λ g. not (eqb (get_or s (at + g) 0) link))

unfoldable pub differ : List ℕ → ℕ → ℕ → Bool
differ s at n = all n (λ h. is_new s at h (get_or s (at + h) 0))

-- "unused byte not 255"
unfoldable pub rest_ok : List ℕ → ℕ → ℕ → Bool
rest_ok s at n = all path_limit (λ h. ltb h n || eqb (get_or s (at + h) 0) 255)

-- "path length 0 or over 8", and the three above
unfoldable pub path_ok : List ℕ → ℕ → ℕ → Bool
path_ok s at n = ltb 0 n && (leb n path_limit && (links_ok s at n && (differ s at n && rest_ok s at n)))

-- kind 1: link 1, capacity 4
unfoldable pub link_at : List ℕ → ℕ → Result Record Refusal
link_at s at =
    let link = get_or s (at + 1) 0 in
    let capacity = be4 s (at + 2) in
    cond (ltb link link_limit)
    (cond (rate_ok capacity) (Ok (rec.Link link capacity)) (Err refusal.RateOutOfRange))
    (Err refusal.NumberTooLarge)

-- what a session's record says, from its parts
abbrev pub a_session : ℕ → ℕ → ℕ → ℕ → ℕ → Record
a_session session access maximum size path =
    rec.Session (record { session = session; access = access; maximum = maximum; size = size; path = path })

-- kind 2: session 1, access 4, maximum 4, path length 1, eight link bytes
unfoldable pub session_at : List ℕ → ℕ → Result Record Refusal
session_at s at =
    let session = get_or s (at + 1) 0 in
    let access = be4 s (at + 2) in
    let maximum = be4 s (at + 6) in
    let size = get_or s (at + 10) 0 in
    cond (ltb session session_limit)
    (cond (rate_ok access && leb maximum rate_limit)
    (cond (path_ok s (at + 11) size) (Ok (a_session session access maximum size (at + 11))) (Err refusal.BadPath))
    (Err refusal.RateOutOfRange))
    (Err refusal.NumberTooLarge)

-- kind 3: session 1
unfoldable pub leave_at : List ℕ → ℕ → Result Record Refusal
leave_at s at =
    let session = get_or s (at + 1) 0 in
    cond (ltb session session_limit) (Ok (rec.Leave session)) (Err refusal.NumberTooLarge)

-- kind 4: session 1, maximum 4
unfoldable pub change_at : List ℕ → ℕ → Result Record Refusal
change_at s at =
    let session = get_or s (at + 1) 0 in
    let maximum = be4 s (at + 2) in
    cond (ltb session session_limit)
    (cond (leb maximum rate_limit) (Ok (rec.Change session maximum)) (Err refusal.RateOutOfRange))
    (Err refusal.NumberTooLarge)

-- kind 5: position 2
unfoldable pub deliver_at : List ℕ → ℕ → Result Record Refusal
deliver_at s at = Ok (rec.Deliver (be2 s (at + 1)))

-- a whole record, by its kind
unfoldable pub body_at : List ℕ → ℕ → Result Record Refusal
body_at s at =
    let kind = get_or s at 0 in
    cond (eqb kind 1) (link_at s at)
    (cond (eqb kind 2) (session_at s at) (cond (eqb kind 3) (leave_at s at) (cond (eqb kind 4) (change_at s at) (deliver_at s at))))

-- how many bytes the record at a place has
unfoldable pub size_at : List ℕ → ℕ → ℕ
size_at s at = 1 + body_of (get_or s at 0)

-- the record at a place: refusal 2, then 3, then its own
unfoldable pub read_at : Call → List ℕ → ℕ → Result Record Refusal
read_at c s at =
    cond (takes_of c (get_or s at 0)) (cond (leb (at + size_at s at) (length s)) (body_at s at) (Err refusal.CutOff))
    (Err refusal.KindNotTaken)

-- what holds of a record that was read from s: its numbers are within the limits, and its path, if it has one, is a path within s
abbrev pub RecordOk : List ℕ → Record → Type 0
RecordOk s (rec.Link e capacity) = (e < link_limit) × (0 < capacity) × (capacity ≤ rate_limit)
RecordOk s (rec.Session x) =
    (x.session < session_limit) × (0 < x.access) × (x.access ≤ rate_limit) × (x.maximum ≤ rate_limit) × (path_ok s x.path x.size ≡ true)
    × (x.path + path_limit ≤ length s)
RecordOk s (rec.Leave t) = t < session_limit
RecordOk s (rec.Change t maximum) = (t < session_limit) × (maximum ≤ rate_limit)
RecordOk s (rec.Deliver position) = position < 65536
