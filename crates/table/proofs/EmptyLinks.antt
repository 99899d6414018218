-- In the empty table no link holds a session, no session is active, and every F sums to 0.
-- Assumes nothing.
use Rattle.std.specs.Prelude.{Ok}
use mathlib.Core.Bool.{false}
use mathlib.Core.Path.{ap, ◌≡◌}
use Prim.Native.Nat.{ℕ}
use Rattle.ends.specs.declared.Source.{Source}
use Rattle.fractions.specs.Fraction.{zero_of}
use Rattle.links.specs.declared.Link.{Link}
use Rattle.links.specs.Links.{F, R, holds, in_f, in_r, sum_of}
use Rattle.links.proofs.Bounds.{sum_none}
use Rattle.sessions.proofs.Members.{has_zero}
use Rattle.table.specs.Words.{empty_words, place_of, source_of}
use Rattle.table.proofs.Empty.{empty_link, empty_source}

pub empty_r : (e : ℕ) → R (place_of empty_words e) ≡ 0
empty_r e = ap (λ (l : Link). l.r) (empty_link e)

pub empty_f : (e : ℕ) → F (place_of empty_words e) ≡ 0
empty_f e = ap (λ (l : Link). l.f) (empty_link e)

pub none_in_r : (e s : ℕ) → in_r (place_of empty_words e) s ≡ false
none_in_r e s = rw (empty_r e, has_zero s)

pub none_in_f : (e s : ℕ) → in_f (place_of empty_words e) s ≡ false
none_in_f e s = rw (empty_f e, has_zero s)

pub none_held : (e s : ℕ) → holds (place_of empty_words e) s ≡ false
none_held e s = rw (empty_r e, empty_f e, has_zero s)

pub none_active : (s : ℕ) → (source_of empty_words s).active ≡ false
none_active s = ap (λ (z : Source). z.active) (empty_source s)

pub empty_sum : (e : ℕ) → sum_of (place_of empty_words e) ≡ Ok zero_of
empty_sum e = sum_none (place_of empty_words e) (empty_f e)
