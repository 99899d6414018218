-- The link that a session has left still has its rates within the limits.
-- Assumes nothing.
use lib.Dec.{lit≤}
use Prim.Native.Nat.{ℕ}
use Rattle.fractions.specs.Fraction.{max_rate}
use Rattle.fractions.proofs.Cases.{cases}
use Rattle.fractions.proofs.Ranges.{whole_sized}
use Rattle.sessions.specs.Set.{cut}
use Rattle.links.specs.declared.Place.{Place}
use Rattle.links.specs.Links.{F, R, Workable, in_f, with_words}
use Rattle.links.proofs.Sizes.{workable_entry, workable_words}
use Rattle.tasks.specs.Figure2.{without_of}

pub workable_without : (s : ℕ) (p : Place) → Workable p → Workable (without_of s p)
unfolding without_of
workable_without s p o =
    workable_entry _ s _
    (cases Workable (in_f p s) (with_words p (R p) (cut s (F p))) (with_words p (cut s (R p)) (F p)) (λ e. workable_words p _ _ o) (λ e. workable_words p _ _ o))
    (whole_sized {m = max_rate} {n = 0} (lit≤ tt))
