-- The test with (b), (d) and (e) asked session by session is the test condition by condition; and who is in R at some link, as a word.
-- Assumes nothing.
use mathlib.Core.Bool.{Bool, false, not, true, ◌&&◌, ◌||◌}
use mathlib.Core.List.{List, [], ◌∷◌, ◌++◌}
use mathlib.Core.Path.{ap, ap₂, sym, ◌∙◌, ◌≡◌}
use Prim.Native.Nat.{ℕ, ◌<◌}
use lib.Bits.{bit_or}
use lib.Dec.{eqb}
use Rattle.std.proofs.Math.Bool.{or-false}
use Rattle.std.specs.List.{list_any, range_with_len}
use Rattle.std.proofs.lemmas.List.Folds.{list_any-append}
use Rattle.declarations.specs.Declaring.{own_limit_of}
use Rattle.ends.specs.declared.Source.{Source}
use Rattle.fractions.specs.Fraction.{le_of, same_of, whole_of}
use Rattle.fractions.proofs.Cases.{and_both, same_test}
use Rattle.links.specs.Links.{is_idle}
use Rattle.records.specs.Format.{all}
use Rattle.records.proofs.Alls.{all_at, all_below}
use Rattle.records.proofs.Chains.{list_any_below}
use Rattle.sessions.specs.Set.{has_of}
use Rattle.sessions.proofs.Members.{has_zero}
use Rattle.sessions.proofs.Operations.{in_either}
use Rattle.table.specs.Words.{link_of, source_of}
use Rattle.conditions.specs.OneSession.{RestrictedIn, session_settles}
use Rattle.conditions.specs.Settled.{condition_a, condition_b, condition_c, condition_d, condition_e, is_limited, is_told, limit_of, path_agrees, restricted_at, restricted_somewhere, session_limited, session_rests, session_told, settled_of}

-- IN R AT SOME LINK ---------------------------------------------------------------------------------------------------

-- the members are the sessions that are in R at one of these links
abbrev pub InAny : List ℕ → List ℕ → ℕ → Type 0
InAny w es v = (s : ℕ) → has_of s v ≡ list_any (restricted_at w s) es

pub restricted_none : (w : List ℕ) → InAny w [] 0
restricted_none w s = ap (λ (d : ℕ). eqb d 1) (has_zero s)

pub restricted_next : (w es : List ℕ) (e v : ℕ) → InAny w es v → InAny w (es ++ (e ∷ [])) (bit_or v (link_of w e).r)
unfolding restricted_at
restricted_next w es e v h s =
    in_either s v (link_of w e).r
    ∙ ap (λ (a : Bool). a || has_of s (link_of w e).r) (h s)
    ∙ ap (λ (a : Bool). list_any (restricted_at w s) es || a) (sym (or-false (has_of s (link_of w e).r)))
    ∙ sym (list_any-append (restricted_at w s) es (e ∷ []))

pub restricted_all : (w : List ℕ) (v : ℕ) → InAny w (range_with_len 0 64) v → RestrictedIn w v
unfolding restricted_somewhere
restricted_all w v h s = h s ∙ list_any_below 64 (restricted_at w s)

-- ONE SESSION ---------------------------------------------------------------------------------------------------------

pub settles_inactive : (w : List ℕ) (s : ℕ) → (source_of w s).active ≡ false → session_settles w s ≡ true
unfolding session_settles session_rests session_limited session_told
settles_inactive w s h = rw h

-- of an active session: (b), (d) and (e) one after the other
pub settles_active : (w : List ℕ) (s : ℕ) (z : Source) → z ≡ source_of w s → (source_of w s).active ≡ true
    → session_settles w s
    ≡ ((is_idle z.mu && (not z.updated && path_agrees w s))
    && (((restricted_somewhere w s || same_of z.rate (whole_of (own_limit_of z.access z.maximum))) && le_of z.rate (whole_of (own_limit_of z.access z.maximum)))
    && is_told z.told z.rate))
unfolding session_settles session_rests session_limited session_told is_limited limit_of
settles_active w s z q h = rw (q, h)

-- ALL FIVE ------------------------------------------------------------------------------------------------------------

module _ (w : List ℕ) where
  once_conditions : (condition_a w && (all 32 (session_settles w) && condition_c w)) ≡ true → settled_of w ≡ true
  unfolding settled_of condition_b condition_d condition_e session_settles
  once_conditions h =
      let a = and_both (condition_a w) (all 32 (session_settles w) && condition_c w) h in
      let b = and_both (all 32 (session_settles w)) (condition_c w) a.1 in
      let one : (s : ℕ) → s < 32 → (session_rests w s ≡ true) × ((session_limited w s && session_told w s) ≡ true) =
      λ s l. and_both (session_rests w s) (session_limited w s && session_told w s) (all_at 32 (session_settles w) s b.0 l) in
      let two : (s : ℕ) → s < 32 → (session_limited w s ≡ true) × (session_told w s ≡ true) =
      λ s l. and_both (session_limited w s) (session_told w s) (one s l).1 in
      ap₂ ◌&&◌ a.0
      (ap₂ ◌&&◌ (all_below 32 (session_rests w) (λ s l. (one s l).0))
      (ap₂ ◌&&◌ b.1 (ap₂ ◌&&◌ (all_below 32 (session_limited w) (λ s l. (two s l).0)) (all_below 32 (session_told w) (λ s l. (two s l).1)))))

  conditions_once : settled_of w ≡ true → (condition_a w && (all 32 (session_settles w) && condition_c w)) ≡ true
  unfolding settled_of condition_b condition_d condition_e session_settles
  conditions_once h =
      let a = and_both (condition_a w) (condition_b w && (condition_c w && (condition_d w && condition_e w))) h in
      let b = and_both (condition_b w) (condition_c w && (condition_d w && condition_e w)) a.1 in
      let c = and_both (condition_c w) (condition_d w && condition_e w) b.1 in
      let d = and_both (condition_d w) (condition_e w) c.1 in
      ap₂ ◌&&◌ a.0
      (ap₂ ◌&&◌
      (all_below 32 (session_settles w)
      (λ s l. ap₂ ◌&&◌ (all_at 32 (session_rests w) s b.0 l) (ap₂ ◌&&◌ (all_at 32 (session_limited w) s d.0 l) (all_at 32 (session_told w) s d.1 l))))
      c.0)

  pub settled_once : (condition_a w && (all 32 (session_settles w) && condition_c w)) ≡ settled_of w
  settled_once = same_test (condition_a w && (all 32 (session_settles w) && condition_c w)) (settled_of w) once_conditions conditions_once
