-- 01, "What is turned away", and 02: the refusals and their numbers; and a refusal with its place.
-- Assumes nothing: definitions.
use Rattle.std.specs.Prelude.{codes, decimal, List, ◌++◌, ℕ}
use Rattle.records.specs.declared.Refusal.{Refusal}
use Rattle.records.specs.declared.Refusal.TheVariants as refusal
use Rattle.records.specs.declared.Refused.{Refused}

abbrev pub number_of : Refusal → ℕ
number_of refusal.TooLong = 1  -- input longer than 32,768 bytes
number_of refusal.KindNotTaken = 2  -- kind not taken by this call
number_of refusal.CutOff = 3  -- record cut off by the end
number_of refusal.NumberTooLarge = 4  -- link over 63 or session over 31 (not path bytes)
number_of refusal.RateOutOfRange = 5  -- capacity or access 0 or over 1,000,000; maximum over 1,000,000
number_of refusal.BadPath = 6  -- path length 0 or over 8; used byte over 63; link twice; unused byte not 255
number_of refusal.AlreadyThere = 7  -- link already declared, or session already active
number_of refusal.UndeclaredLink = 8  -- path names an undeclared link
number_of refusal.NotActive = 9  -- leave or change of a session not active
number_of refusal.StillLeaving = 10  -- join of a session that has left and still has a packet in flight
number_of refusal.BadPosition = 11  -- position past the list's end, or out of turn
number_of refusal.TooFine = 12  -- a partial sum or B that the rule reads, or one of any link after the step, has a denominator over 1,048,576
number_of refusal.TooManyPackets = 13  -- more than 256 packets after the step
number_of refusal.BadTable = 14  -- a table handed in has a fault
number_of refusal.ShortSlice = 15  -- a lent answer slice has fewer than 32 places
number_of refusal.AboveLine = 16  -- a nonzero maximum larger than the session's access rate (02, §1)
number_of refusal.ShorterThanOutput = 17  -- a lent slice is shorter than the output (02, §3)

-- "A refusal returns its number and the place of its record's kind byte (0 for 1, 14, 15)"
abbrev pub refused_at : Refusal → ℕ → Refused
refused_at r place = record { refusal = r; place = place }

-- 01, "Examples": how the programs print it
abbrev pub refused_text : Refused → List ℕ
refused_text r = codes "refused " ++ (decimal (number_of r.refusal) ++ (codes " at " ++ decimal r.place))
