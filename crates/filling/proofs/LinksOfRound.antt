-- The links after a round: their rooms are written over the new denominator, and the chosen sessions leave the links of their paths.
-- Assumes nothing.
use mathlib.Core.List.{List}
use mathlib.Core.Logic.{◌⊎◌, inl, inr}
use mathlib.Core.Path.{◌≡◌, ap, ◌∙◌}
use Prim.Native.Nat.{ℕ, ◌+◌, ◌-◌, ◌*◌, ◌^◌, ◌<◌, ◌≤◌, min}
use native.Mathlib.Omega.{arith}
use lib.Bits.{and_le_l, bit_and}
use lib.Count.{ones, ones-le}
use lib.ListN.{get_or}
use Rattle.sessions.specs.Set.{has}
use Rattle.sessions.proofs.Counts.{ones_zero}
use Rattle.sessions.proofs.Members.{has_lt, has_or_not}
use Rattle.sessions.proofs.Operations.{has_and}
use Rattle.fairness.proofs.Sums.{sum_add, sum_eq}
use Rattle.declarations.specs.declared.Declared.{Declared}
use Rattle.filling.specs.OneRound.{Enough, Grown, LinksAfter, Running, Without}
use Rattle.filling.specs.SmallestShare.{GivenAmong, SharesFit, limits_of, room_of, word_of}
use Rattle.filling.specs.State.{Fill}
use Rattle.filling.specs.declared.Given.{Given}
use Rattle.filling.specs.declared.Links.{Links}
use Rattle.filling.proofs.Chosen.{on_crosses}
use Rattle.filling.proofs.OpenSessions.{member_link, ones_sum, word_link}
use Rattle.filling.proofs.RoundOfFigure1.{room_enough}

-- the members of a word are those that stay and those that are chosen
parts : (w v ch : ℕ) → w < 2 ^ 32 → v ≤ w → ((s : ℕ) → s < 32 → has s v ≡ min (has s w) (1 - has s ch)) → ones w ≡ ones v + ones (bit_and w ch)
parts w v ch h k f =
    ones_sum 32 w h
    ∙ sum_eq 32 (λ s. has s w) (λ s. has s v + has s (bit_and w ch)) (λ s l. omega (arith, f s l, has_and s w ch, has_lt s w, has_lt s ch))
    ∙ sum_add 32 (λ s. has s v) (λ s. has s (bit_and w ch))
    ∙ omega (arith, ones_sum 32 v (omega arith), ones_sum 32 (bit_and w ch) (omega (arith, and_le_l w ch)))

-- what the loop over the busy links asks
pub shares_fit : (d : Declared) (z : Fill) → Running d z → SharesFit z.links.busy z.links.room z.links.count
shares_fit d z run =
    record {
      room = run.links.room;
      count = λ e h. omega (arith, run.links.count e h, ones-le 32 (get_or z.links.at e 0) (omega (arith, run.links.at e h)));
      busy = λ e h q. run.links.count e h ∙ ap ones (run.links.busy e h q) ∙ ones_zero;
    }

module _ (d : Declared) (z : Fill) (run : Running d z) (l : Given)
    (best : GivenAmong (room_of z.links.room z.den (limits_of d.access d.maximum)) (word_of z.links z.opens) l) (m : List ℕ)
    (grown : Grown z.links.busy l.count z.links.room m) where
  abbrev k : Links
  k = record z.links { room = m }

  -- a link with somebody open is busy
  grown_there : (e : ℕ) → e < 64 → 0 < get_or z.links.at e 0 → get_or m e 0 ≡ get_or z.links.room e 0 * l.count
  grown_there e h p = go (has_or_not e z.links.busy)
    where
      go : (has e z.links.busy ≡ 0) ⊎ (has e z.links.busy ≡ 1) → get_or m e 0 ≡ get_or z.links.room e 0 * l.count
      go (inl n) = absurd (omega (arith, p, run.links.busy e h n))
      go (inr o) = grown.at e h o

  pub enough : Enough l.room k
  enough =
      record {
        whole =
            record {
              rooms = grown.long ∙ run.whole.rooms;
              words = run.whole.words;
              counts = run.whole.counts;
              lasts = run.whole.lasts;
              low = run.whole.low;
            };
        room = λ e h p. omega (arith, grown_there e h p, room_enough d z run l best e h p);
        count = run.links.count;
      }

  module _ (r : Links) (without : Without d.path l.chosen l.room k r) where
    at : (e : ℕ) → e < 64 → (s : ℕ) → s < 32 → has s (get_or r.at e 0) ≡ min (has s (get_or z.links.at e 0)) (1 - has s l.chosen)
    at e h s i = go (has_or_not s l.chosen) (has_or_not s (get_or z.links.at e 0))
      where
        go : (has s l.chosen ≡ 0) ⊎ (has s l.chosen ≡ 1) → (has s (get_or z.links.at e 0) ≡ 0) ⊎ (has s (get_or z.links.at e 0) ≡ 1)
            → has s (get_or r.at e 0) ≡ min (has s (get_or z.links.at e 0)) (1 - has s l.chosen)
        go (inl n) y = omega (arith, n, without.stays e h s n, has_lt s (get_or z.links.at e 0))
        go (inr o) (inl y) = omega (arith, o, y, without.fewer e h s)
        go (inr o) (inr y) =
            let on = (member_link d z run e h s i (ap (has s) (word_link d z run e h) ∙ y)).0 in
            omega (arith, o, without.gone e h s i o (on_crosses d z run e h s on))

    room : (e : ℕ) → e < 64 → 0 < get_or z.links.at e 0
        → get_or r.room e 0 + l.room * ones (bit_and (get_or z.links.at e 0) l.chosen) ≡ get_or z.links.room e 0 * l.count
    room e h p =
        omega (
          arith,
          without.room e h,
          grown_there e h p,
          ap (λ (v : ℕ). l.room * v)
              (parts (get_or z.links.at e 0) (get_or r.at e 0) l.chosen (omega (arith, run.links.at e h)) (without.small e h) (at e h)),
        )

    still : (e : ℕ) → e < 64 → get_or z.links.at e 0 ≡ 0
        → (get_or r.room e 0 ≡ get_or z.links.room e 0) ⊎ (get_or r.room e 0 ≡ get_or z.links.room e 0 * l.count)
    still e h q = go (has_or_not e z.links.busy)
      where
        same : get_or r.room e 0 ≡ get_or m e 0
        same =
            let v : get_or r.at e 0 ≡ get_or z.links.at e 0 = omega (arith, q, without.small e h) in
            omega (arith, without.room e h, ap (λ (y : ℕ). l.room * ones y) v)

        go : (has e z.links.busy ≡ 0) ⊎ (has e z.links.busy ≡ 1)
            → (get_or r.room e 0 ≡ get_or z.links.room e 0) ⊎ (get_or r.room e 0 ≡ get_or z.links.room e 0 * l.count)
        go (inl n) = inl (same ∙ grown.other e h n)
        go (inr o) = inr (same ∙ grown.at e h o)

    pub links_after : LinksAfter z.links l r
    links_after =
        record {
          at = at;
          small = without.small;
          room = room;
          still = still;
          last = without.last;
          count = λ e h. omega (arith, without.count e h, run.links.count e h);
          busy = without.busy run.links.busy;
          long = without.long enough.whole;
        }
