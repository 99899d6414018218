-- A table that passes the test of refusal 14 and is settled (01, "Settled"): its links hold the active sessions whose paths they are on and no
-- others, with the rates of their sources, and those rates were told, fraction for fraction (00, demand 3).
-- Assumes nothing.
use Rattle.std.specs.Prelude.{Some}
use mathlib.Core.Bool.{Bool, false, true}
use mathlib.Core.List.{List}
use mathlib.Core.Path.{◌≡◌, ap, refl, subst, ◌∙◌}
use Prim.Native.Nat.{ℕ, ◌-◌, ◌<◌}
use native.Mathlib.Omega.{arith}
use Rattle.conditions.specs.Conditions.{Active, FiveConditions, OnPath}
use Rattle.fractions.specs.Fraction.{Within, max_rate}
use Rattle.fractions.proofs.LowestTerms.{lowest_unique}
use Rattle.handed.specs.Passes.{Passes}
use Rattle.links.specs.Links.{holds, rate_at}
use Rattle.table.specs.Values.{SourceWithin, ToldWithin}
use Rattle.table.specs.Words.{hop_of, place_of, source_of}
use Rattle.ranges.proofs.FitsMeans.{entry_fits_means, source_fits_means}
use Rattle.reachable.proofs.Kept.{hop_on}
use Rattle.table.proofs.InRange.{stop_below}
use Rattle.agreement.specs.Needed.{Needed}

-- what is needed of the five conditions
pub conditions_needed : (w : List ℕ) → FiveConditions w → Needed w
conditions_needed w c = record {
  a = omega (arith, c.a);
  b = λ s l h e o.
      let g = (c.b s (omega arith) h).links e o in
      record { held = g.held; rate = g.rate };
  c = λ e l. record { restricted = λ s k r. (c.c e (omega arith)).restricted s (omega arith) r; free = λ s k r. (c.c e (omega arith)).free s (omega arith) r };
  d = λ s l h. c.d s (omega arith) h;
  e = λ s l h. c.e s (omega arith) h;
}

on_path_below : (w : List ℕ) (s e : ℕ) → OnPath w s e → e < 64
on_path_below w s e o = subst (λ (i : ℕ). i < 64) o.stop (stop_below w s o.place)

-- a link that has a hop is on the path
hop_on_path_lem : (w : List ℕ) (s e : ℕ) → 0 < hop_of w s e → OnPath w s e
hop_on_path_lem w s e h = let o = hop_on w s e h in record { place = hop_of w s e - 1; within = omega (arith, o.upto); stop = o.stop }

module _ (w : List ℕ) (o : Passes w) where
  -- the rates that the source of an active session keeps are in lowest terms
  pub source_of_active : (s : ℕ) → s < 32 → Active w s → SourceWithin (source_of w s)
  source_of_active s l a = source_fits_means w s (o.sources s l (o.joined s l a))

  -- an entry is on its session's path
  pub entry_on_path_lem : (e s : ℕ) → e < 64 → s < 32 → holds (place_of w e) s ≡ true → OnPath w s e
  entry_on_path_lem e s le ls h = hop_on_path_lem w s e (o.on_path e s le ls h)

  module _ (c : Needed w) where
    -- and its session is active: with no packet in flight, no Leave is to come
    pub entry_active : (e s : ℕ) → e < 64 → s < 32 → holds (place_of w e) s ≡ true → Active w s
    entry_active e s le ls h = go (source_of w s).active refl
      where
        go : (b : Bool) → (source_of w s).active ≡ b → Active w s
        go true q = q
        go false q = absurd (omega (arith, (o.live e s le ls h q).flying, c.a))

    -- at each link of its path an active session has the rate of its source
    pub settled_links : (s : ℕ) → s < 32 → Active w s → (e : ℕ) → OnPath w s e → rate_at (place_of w e) s ≡ (source_of w s).rate
    settled_links s l a e h =
        let there = c.b s (omega arith) a e h in
        let entry : Within max_rate (rate_at (place_of w e) s) = entry_fits_means w e s l (o.entries e s (on_path_below w s e h) l there.held) in
        lowest_unique entry.lowest (source_of_active s l a).rate.lowest there.rate

    -- which is the rate last told
    pub settled_told : (s : ℕ) → s < 32 → Active w s → (source_of w s).told ≡ Some (source_of w s).rate
    settled_told s l a =
        let t = c.e s (omega arith) a in
        let last : Within max_rate t.last = subst ToldWithin t.told (source_of_active s l a).told in
        t.told ∙ ap Some (lowest_unique last.lowest (source_of_active s l a).rate.lowest t.same)
