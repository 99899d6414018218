-- One turn, and the end, of making the sessions of a set wait for a probe.
-- Assumes nothing.
use mathlib.Core.Path.{◌≡◌, ap}
use mathlib.Core.List.{List, [], ◌∷◌}
use Prim.Native.Nat.{ℕ}
use Rattle.sessions.specs.Set.{members, walk}
use Rattle.links.specs.declared.Place.{Place}
use Rattle.links.specs.declared.Mu.TheVariants as mu
use Rattle.links.specs.Links.{wait_in, waiting_of, with_mu}

abbrev waited : Place → List ℕ → Place
waited p l = record { link = p.link; entries = walk wait_in p.entries l }

pub waiting_turn : (p : Place) (w s v : ℕ) → members w ≡ s ∷ members v → waiting_of p w ≡ waiting_of (with_mu p s mu.WaitingProbe) v
unfolding waiting_of walk
waiting_turn p w s v e = ap (waited p) e

pub waiting_end : (p : Place) (w : ℕ) → members w ≡ [] → waiting_of p w ≡ p
unfolding waiting_of walk
waiting_end p w e = ap (waited p) e
