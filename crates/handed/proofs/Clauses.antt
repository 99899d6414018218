-- Each clause of refusal 14's test, as a fact about each link, session and packet: from the test, and back to it.
-- Assumes nothing.
use Rattle.std.specs.Prelude.{Err}
use mathlib.Core.Bool.{Bool, cond, false, not, true, ◌&&◌, ◌||◌}
use mathlib.Core.List.{List}
use mathlib.Core.Logic.{inl, inr, ◌⊎◌}
use mathlib.Core.Path.{ap, ap₂, refl, ◌≡◌}
use Prim.Native.Nat.{ℕ, ◌+◌, ◌<◌, ◌≤◌}
use borrow.Author.Tests.{eq-eqb, eqb-false, eqb-true, le-leb, leb-true, lt-ltb, ltb-true, ne_eqb}
use lib.Dec.{eqb, leb, ltb}
use Rattle.fractions.proofs.Cases.{and_both, cases, not-false, not_true, or_either}
use Rattle.links.specs.declared.NoTotal.TheVariants as no_total
use Rattle.links.specs.Links.{B, holds, is_fine, is_past_c, sum_of}
use Rattle.records.specs.Format.{all}
use Rattle.records.proofs.Alls.{all_at, all_below, all_fails}
use Rattle.records.proofs.Somes.{all_some, clash, implied, implies, not_so}
use Rattle.sessions.specs.Set.{has_of}
use Rattle.ranges.specs.Ranges.{entry_fits, link_fits, packet_fits, source_fits, standing_fits}
use Rattle.table.specs.Words.{count_of, hop_of, hops_of, link_of, packet_of, place_of, source_of, stop_of}
use Rattle.tasks.specs.Packets.{goes_down, is_leave}
use Rattle.handed.specs.Handed.{apart, entries_in_range, entries_live, entries_on_path, entry_in_range, entry_live, entry_on_path, has_joined, hop_on_path, leave_ahead, leave_to_come, links_in_range, packet_on_its_way, packet_on_path, packets_in_range, packets_on_path, packets_on_their_way, path_declared, path_once, paths_declared, paths_once, row_apart, row_in_range, row_live, row_on_path, session_apart, source_in_range, sources_in_range, stop_declared, stop_new, sum_fits, sums_fit}
use Rattle.handed.specs.Passes.{LeaveToCome}
use Rattle.handed.proofs.Ways.{both_not, cond_else, cond_then, hop_down, hop_on, hop_up, not_both, same_way_lem, way_same, within, within_test}

-- FIELDS AND RATES ----------------------------------------------------------------------------------------------------

pub links_means : (w : List ℕ) → links_in_range w ≡ true → (e : ℕ) → e < 64 → link_fits w e ≡ true
unfolding links_in_range
links_means w h e l = all_at 64 (link_fits w) e h l

pub links_test : (w : List ℕ) → ((e : ℕ) → e < 64 → link_fits w e ≡ true) → links_in_range w ≡ true
unfolding links_in_range
links_test w f = all_below 64 (link_fits w) f

pub entries_means : (w : List ℕ) → entries_in_range w ≡ true → (e s : ℕ) → e < 64 → s < 32 → holds (place_of w e) s ≡ true → entry_fits w e s ≡ true
unfolding entries_in_range row_in_range entry_in_range
entries_means w h e s l k t = implied (holds (place_of w e) s) (entry_fits w e s) (all_at 32 (entry_in_range w e) s (all_at 64 (row_in_range w) e h l) k) t

pub entries_test : (w : List ℕ) → ((e s : ℕ) → e < 64 → s < 32 → holds (place_of w e) s ≡ true → entry_fits w e s ≡ true) → entries_in_range w ≡ true
unfolding entries_in_range row_in_range entry_in_range
entries_test w f = all_below 64 (row_in_range w) (λ e l. all_below 32 (entry_in_range w e) (λ s k. implies (holds (place_of w e) s) (entry_fits w e s) (f e s l k)))

-- of one source
source_means : (w : List ℕ) (s : ℕ) → source_in_range w s ≡ true → (standing_fits w s ≡ true) × (cond (has_joined w s) (source_fits w s) (not (source_of w s).active) ≡ true)
unfolding source_in_range
source_means w s h = and_both (standing_fits w s) (cond (has_joined w s) (source_fits w s) (not (source_of w s).active)) h

pub standing_means : (w : List ℕ) → sources_in_range w ≡ true → (s : ℕ) → s < 32 → standing_fits w s ≡ true
unfolding sources_in_range
standing_means w h s l = (source_means w s (all_at 32 (source_in_range w) s h l)).0

pub sources_means : (w : List ℕ) → sources_in_range w ≡ true → (s : ℕ) → s < 32 → 0 < hops_of w s → source_fits w s ≡ true
unfolding sources_in_range has_joined
sources_means w h s l k =
    cond_then (has_joined w s) (source_fits w s) (not (source_of w s).active) (source_means w s (all_at 32 (source_in_range w) s h l)).1 (lt-ltb 0 (hops_of w s) k)

pub joined_means : (w : List ℕ) → sources_in_range w ≡ true → (s : ℕ) → s < 32 → (source_of w s).active ≡ true → 0 < hops_of w s
unfolding sources_in_range has_joined
joined_means w h s l a = go (ltb 0 (hops_of w s)) refl
  where
    go : (t : Bool) → ltb 0 (hops_of w s) ≡ t → 0 < hops_of w s
    go true e = ltb-true 0 (hops_of w s) e
    go false e =
        absurd
        (clash (source_of w s).active a
        (not_true (source_of w s).active
        (cond_else (has_joined w s) (source_fits w s) (not (source_of w s).active) (source_means w s (all_at 32 (source_in_range w) s h l)).1 e)))

pub sources_test : (w : List ℕ)
    → ((s : ℕ) → s < 32 → standing_fits w s ≡ true)
    → ((s : ℕ) → s < 32 → 0 < hops_of w s → source_fits w s ≡ true)
    → ((s : ℕ) → s < 32 → (source_of w s).active ≡ true → 0 < hops_of w s)
    → sources_in_range w ≡ true
unfolding sources_in_range source_in_range has_joined
sources_test w f g j =
    all_below 32 (source_in_range w)
    (λ s l.
    ap₂ ◌&&◌ (f s l)
    (cases (λ (t : Bool). t ≡ true) (has_joined w s) (source_fits w s) (not (source_of w s).active)
    (λ e. g s l (ltb-true 0 (hops_of w s) e))
    (λ e. ap not (not_so (source_of w s).active (λ a. clash (ltb 0 (hops_of w s)) (lt-ltb 0 (hops_of w s) (j s l a)) e)))))

pub packets_means : (w : List ℕ) → packets_in_range w ≡ true → (i : ℕ) → i < count_of w → packet_fits w i ≡ true
unfolding packets_in_range
packets_means w h i l = all_at (count_of w) (packet_fits w) i h l

pub packets_test : (w : List ℕ) → ((i : ℕ) → i < count_of w → packet_fits w i ≡ true) → packets_in_range w ≡ true
unfolding packets_in_range
packets_test w f = all_below (count_of w) (packet_fits w) f

-- PATHS ---------------------------------------------------------------------------------------------------------------

pub declared_means : (w : List ℕ) → paths_declared w ≡ true → (s i : ℕ) → s < 32 → i < hops_of w s → 0 < (link_of w (stop_of w s i)).capacity
unfolding paths_declared path_declared stop_declared
declared_means w h s i l k = ltb-true 0 (link_of w (stop_of w s i)).capacity (all_at (hops_of w s) (stop_declared w s) i (all_at 32 (path_declared w) s h l) k)

pub declared_test : (w : List ℕ) → ((s i : ℕ) → s < 32 → i < hops_of w s → 0 < (link_of w (stop_of w s i)).capacity) → paths_declared w ≡ true
unfolding paths_declared path_declared stop_declared
declared_test w f =
    all_below 32 (path_declared w) (λ s l. all_below (hops_of w s) (stop_declared w s) (λ i k. lt-ltb 0 (link_of w (stop_of w s i)).capacity (f s i l k)))

pub once_means : (w : List ℕ) → paths_once w ≡ true → (s i j : ℕ) → s < 32 → i < hops_of w s → j < i → stop_of w s j ≡ stop_of w s i → ⊥
unfolding paths_once path_once stop_new
once_means w h s i j l k m =
    eqb-false (stop_of w s j) (stop_of w s i)
    (not_true (eqb (stop_of w s j) (stop_of w s i))
    (all_at i (λ j. not (eqb (stop_of w s j) (stop_of w s i))) j (all_at (hops_of w s) (stop_new w s) i (all_at 32 (path_once w) s h l) k) m))

pub once_test : (w : List ℕ) → ((s i j : ℕ) → s < 32 → i < hops_of w s → j < i → stop_of w s j ≡ stop_of w s i → ⊥) → paths_once w ≡ true
unfolding paths_once path_once stop_new
once_test w f =
    all_below 32 (path_once w)
    (λ s l.
    all_below (hops_of w s) (stop_new w s)
    (λ i k. all_below i (λ j. not (eqb (stop_of w s j) (stop_of w s i))) (λ j m. ap not (ne_eqb (stop_of w s j) (stop_of w s i) (f s i j l k m)))))

-- PACKETS -------------------------------------------------------------------------------------------------------------

-- of one packet
on_path_means : (w : List ℕ) → packets_on_path w ≡ true → (i : ℕ) → i < count_of w
    → (has_joined w (packet_of w i).session ≡ true) × (hop_on_path (hops_of w (packet_of w i).session) (packet_of w i).down (packet_of w i).hop ≡ true)
unfolding packets_on_path packet_on_path
on_path_means w h i l =
    and_both (has_joined w (packet_of w i).session) (hop_on_path (hops_of w (packet_of w i).session) (packet_of w i).down (packet_of w i).hop)
    (all_at (count_of w) (packet_on_path w) i h l)

pub known_means : (w : List ℕ) → packets_on_path w ≡ true → (i : ℕ) → i < count_of w → 0 < hops_of w (packet_of w i).session
unfolding has_joined
known_means w h i l = ltb-true 0 (hops_of w (packet_of w i).session) (on_path_means w h i l).0

pub down_means : (w : List ℕ) → packets_on_path w ≡ true → (i : ℕ) → i < count_of w → (packet_of w i).down ≡ true
    → (0 < (packet_of w i).hop) × ((packet_of w i).hop ≤ hops_of w (packet_of w i).session + 1)
down_means w h i l d = hop_down (hops_of w (packet_of w i).session) (packet_of w i).hop (packet_of w i).down (on_path_means w h i l).1 d

pub up_means : (w : List ℕ) → packets_on_path w ≡ true → (i : ℕ) → i < count_of w → (packet_of w i).down ≡ false
    → (packet_of w i).hop ≤ hops_of w (packet_of w i).session
up_means w h i l d = hop_up (hops_of w (packet_of w i).session) (packet_of w i).hop (packet_of w i).down (on_path_means w h i l).1 d

pub on_path_test : (w : List ℕ)
    → ((i : ℕ) → i < count_of w → 0 < hops_of w (packet_of w i).session)
    → ((i : ℕ) → i < count_of w → (packet_of w i).down ≡ true → (0 < (packet_of w i).hop) × ((packet_of w i).hop ≤ hops_of w (packet_of w i).session + 1))
    → ((i : ℕ) → i < count_of w → (packet_of w i).down ≡ false → (packet_of w i).hop ≤ hops_of w (packet_of w i).session)
    → packets_on_path w ≡ true
unfolding packets_on_path packet_on_path has_joined
on_path_test w f g u =
    all_below (count_of w) (packet_on_path w)
    (λ i l.
    ap₂ ◌&&◌ (lt-ltb 0 (hops_of w (packet_of w i).session) (f i l))
    (hop_on (hops_of w (packet_of w i).session) (packet_of w i).hop (packet_of w i).down (g i l) (u i l)))

pub way_means : (w : List ℕ) → packets_on_their_way w ≡ true → (i : ℕ) → i < count_of w → (packet_of w i).down ≡ goes_down (packet_of w i).kind
unfolding packets_on_their_way packet_on_its_way
way_means w h i l = way_same (packet_of w i).down (goes_down (packet_of w i).kind) (all_at (count_of w) (packet_on_its_way w) i h l)

pub way_test : (w : List ℕ) → ((i : ℕ) → i < count_of w → (packet_of w i).down ≡ goes_down (packet_of w i).kind) → packets_on_their_way w ≡ true
unfolding packets_on_their_way packet_on_its_way
way_test w f = all_below (count_of w) (packet_on_its_way w) (λ i l. same_way_lem (packet_of w i).down (goes_down (packet_of w i).kind) (f i l))

-- LINKS AND ENTRIES ---------------------------------------------------------------------------------------------------

pub apart_means : (w : List ℕ) → apart w ≡ true → (e s : ℕ) → e < 64 → s < 32 → has_of s (link_of w e).r ≡ true → has_of s (link_of w e).f ≡ false
unfolding apart row_apart session_apart
apart_means w h e s l k = not_both (has_of s (link_of w e).r) (has_of s (link_of w e).f) (all_at 32 (session_apart w e) s (all_at 64 (row_apart w) e h l) k)

pub apart_test : (w : List ℕ) → ((e s : ℕ) → e < 64 → s < 32 → has_of s (link_of w e).r ≡ true → has_of s (link_of w e).f ≡ false) → apart w ≡ true
unfolding apart row_apart session_apart
apart_test w f =
    all_below 64 (row_apart w) (λ e l. all_below 32 (session_apart w e) (λ s k. both_not (has_of s (link_of w e).r) (has_of s (link_of w e).f) (f e s l k)))

pub held_means : (w : List ℕ) → entries_on_path w ≡ true → (e s : ℕ) → e < 64 → s < 32 → holds (place_of w e) s ≡ true → 0 < hop_of w s e
unfolding entries_on_path row_on_path entry_on_path
held_means w h e s l k t =
    ltb-true 0 (hop_of w s e) (implied (holds (place_of w e) s) (ltb 0 (hop_of w s e)) (all_at 32 (entry_on_path w e) s (all_at 64 (row_on_path w) e h l) k) t)

pub held_test : (w : List ℕ) → ((e s : ℕ) → e < 64 → s < 32 → holds (place_of w e) s ≡ true → 0 < hop_of w s e) → entries_on_path w ≡ true
unfolding entries_on_path row_on_path entry_on_path
held_test w f =
    all_below 64 (row_on_path w)
    (λ e l. all_below 32 (entry_on_path w e) (λ s k. implies (holds (place_of w e) s) (ltb 0 (hop_of w s e)) (λ t. lt-ltb 0 (hop_of w s e) (f e s l k t))))

-- a Leave that is still to come
pub leave_means : (w : List ℕ) (s h : ℕ) → leave_to_come w s h ≡ true → LeaveToCome w s h
unfolding leave_to_come leave_ahead
leave_means w s h e =
    let r = all_some (count_of w) (λ i. not (leave_ahead w s h i)) (not_true (all (count_of w) (λ i. not (leave_ahead w s h i))) e) in
    let p = packet_of w r.place in
    let a = and_both (eqb p.session s) (is_leave p.kind && leb p.hop h) (not-false (leave_ahead w s h r.place) r.fails) in
    let c = and_both (is_leave p.kind) (leb p.hop h) a.1 in
    record { place = r.place; flying = r.below; session = eqb-true p.session s a.0; leave = c.0; hop = leb-true p.hop h c.1 }

pub leave_test : (w : List ℕ) (s h : ℕ) → LeaveToCome w s h → leave_to_come w s h ≡ true
unfolding leave_to_come leave_ahead
leave_test w s h o =
    let p = packet_of w o.place in
    let t : leave_ahead w s h o.place ≡ true = ap₂ ◌&&◌ (eq-eqb p.session s o.session) (ap₂ ◌&&◌ o.leave (le-leb p.hop h o.hop)) in
    ap not (all_fails (count_of w) (λ i. not (leave_ahead w s h i)) o.place o.flying (ap not t))

pub live_means : (w : List ℕ) → entries_live w ≡ true → (e s : ℕ) → e < 64 → s < 32 → holds (place_of w e) s ≡ true → (source_of w s).active ≡ false
    → LeaveToCome w s (hop_of w s e)
unfolding entries_live row_live entry_live
live_means w h e s l k t a =
    leave_means w s (hop_of w s e)
    (go (or_either (source_of w s).active (leave_to_come w s (hop_of w s e))
    (implied (holds (place_of w e) s) ((source_of w s).active || leave_to_come w s (hop_of w s e)) (all_at 32 (entry_live w e) s (all_at 64 (row_live w) e h l) k) t)))
  where
    go : ((source_of w s).active ≡ true) ⊎ (leave_to_come w s (hop_of w s e) ≡ true) → leave_to_come w s (hop_of w s e) ≡ true
    go (inl q) = absurd (clash (source_of w s).active q a)
    go (inr q) = q

active_or : (a b : Bool) → (a ≡ false → b ≡ true) → (a || b) ≡ true
active_or true b f = refl
active_or false b f = f refl

pub live_test : (w : List ℕ)
    → ((e s : ℕ) → e < 64 → s < 32 → holds (place_of w e) s ≡ true → (source_of w s).active ≡ false → LeaveToCome w s (hop_of w s e))
    → entries_live w ≡ true
unfolding entries_live row_live entry_live
live_test w f =
    all_below 64 (row_live w)
    (λ e l.
    all_below 32 (entry_live w e)
    (λ s k.
    implies (holds (place_of w e) s) ((source_of w s).active || leave_to_come w s (hop_of w s e))
    (λ t. active_or (source_of w s).active (leave_to_come w s (hop_of w s e)) (λ a. leave_test w s (hop_of w s e) (f e s l k t a)))))

-- SUMS ----------------------------------------------------------------------------------------------------------------

-- of one link
sum_means : (w : List ℕ) → sums_fit w ≡ true → (e : ℕ) → e < 64 → (not (is_past_c (sum_of (place_of w e))) ≡ true) × (is_fine (B (place_of w e)) ≡ true)
unfolding sums_fit sum_fits
sum_means w h e l = and_both (not (is_past_c (sum_of (place_of w e)))) (is_fine (B (place_of w e))) (all_at 64 (sum_fits w) e h l)

pub within_means : (w : List ℕ) → sums_fit w ≡ true → (e : ℕ) → e < 64 → sum_of (place_of w e) ≡ Err no_total.PastC → ⊥
within_means w h e l = within (sum_of (place_of w e)) (sum_means w h e l).0

pub fine_means : (w : List ℕ) → sums_fit w ≡ true → (e : ℕ) → e < 64 → is_fine (B (place_of w e)) ≡ true
fine_means w h e l = (sum_means w h e l).1

pub sums_test : (w : List ℕ)
    → ((e : ℕ) → e < 64 → sum_of (place_of w e) ≡ Err no_total.PastC → ⊥)
    → ((e : ℕ) → e < 64 → is_fine (B (place_of w e)) ≡ true)
    → sums_fit w ≡ true
unfolding sums_fit sum_fits
sums_test w f g = all_below 64 (sum_fits w) (λ e l. ap₂ ◌&&◌ (within_test (sum_of (place_of w e)) (f e l)) (g e l))
