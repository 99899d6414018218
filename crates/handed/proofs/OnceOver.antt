-- The test of refusal 14 asked once of each session, packet and link is the test clause by clause.
-- Assumes nothing.
use mathlib.Core.Bool.{Bool, not, true, ◌&&◌, ◌||◌}
use mathlib.Core.List.{List}
use mathlib.Core.Path.{ap₂, ◌≡◌}
use Prim.Native.Nat.{ℕ, ◌<◌}
use lib.Dec.{ltb}
use Rattle.fractions.proofs.Cases.{and_both, same_test}
use Rattle.links.specs.Links.{holds}
use Rattle.records.specs.Format.{all}
use Rattle.records.proofs.Alls.{all_at, all_below}
use Rattle.records.proofs.Somes.{implied, implies}
use Rattle.ranges.specs.Ranges.{count_fits, entry_fits, link_fits, packet_fits}
use Rattle.table.specs.Words.{count_of, hop_of, hops_of, place_of, source_of}
use Rattle.handed.specs.Handed.{apart, entries_in_range, entries_live, entries_on_path, entry_in_range, entry_live, entry_on_path, fields_in_range, leave_to_come, links_in_range, links_pass, packet_on_its_way, packet_on_path, packets_in_range, packets_on_path, packets_on_their_way, passes14_of, path_declared, path_once, paths_declared, paths_once, paths_pass, row_apart, row_in_range, row_live, row_on_path, source_in_range, sources_in_range, stop_declared, stop_new, sum_fits, sums_fit}
use Rattle.handed.specs.OnceOver.{link_passes, member_passes, once_over, packet_passes, path_passes, row_passes, session_passes}

-- a session that is active, or has a Leave to come at link e
abbrev live : List ℕ → ℕ → ℕ → Bool
live w e s = (source_of w s).active || leave_to_come w s (hop_of w s e)

module _ (w : List ℕ) where
  -- EACH BY ITSELF ----------------------------------------------------------------------------------------------------

  session_parts : all 32 (session_passes w) ≡ true → (s : ℕ) → s < 32 → (source_in_range w s ≡ true) × (path_passes w s ≡ true)
  unfolding session_passes
  session_parts h s l = and_both (source_in_range w s) (path_passes w s) (all_at 32 (session_passes w) s h l)

  stop_parts : (s : ℕ) → path_passes w s ≡ true → (i : ℕ) → i < hops_of w s → (stop_declared w s i ≡ true) × (stop_new w s i ≡ true)
  unfolding path_passes
  stop_parts s h i l = and_both (stop_declared w s i) (stop_new w s i) (all_at (hops_of w s) (λ i. stop_declared w s i && stop_new w s i) i h l)

  packet_parts : all (count_of w) (packet_passes w) ≡ true → (i : ℕ) → i < count_of w
      → (packet_fits w i ≡ true) × (packet_on_path w i ≡ true) × (packet_on_its_way w i ≡ true)
  unfolding packet_passes
  packet_parts h i l =
      let a = and_both (packet_fits w i) (packet_on_path w i && packet_on_its_way w i) (all_at (count_of w) (packet_passes w) i h l) in
      let b = and_both (packet_on_path w i) (packet_on_its_way w i) a.1 in
      (a.0, b.0, b.1)

  link_parts : all 64 (link_passes w) ≡ true → (e : ℕ) → e < 64
      → (link_fits w e ≡ true) × (row_apart w e ≡ true) × (row_passes w e ≡ true) × (sum_fits w e ≡ true)
  unfolding link_passes
  link_parts h e l =
      let a = and_both (link_fits w e) (row_apart w e && (row_passes w e && sum_fits w e)) (all_at 64 (link_passes w) e h l) in
      let b = and_both (row_apart w e) (row_passes w e && sum_fits w e) a.1 in
      let c = and_both (row_passes w e) (sum_fits w e) b.1 in
      (a.0, b.0, c.0, c.1)

  member_parts : (e : ℕ) → row_passes w e ≡ true → (s : ℕ) → s < 32 → holds (place_of w e) s ≡ true
      → (ltb 0 (hop_of w s e) ≡ true) × (entry_fits w e s ≡ true) × (live w e s ≡ true)
  unfolding row_passes member_passes
  member_parts e h s l t =
      let m = implied (holds (place_of w e) s) (member_passes w e s) (all_at 32 (λ s. not (holds (place_of w e) s) || member_passes w e s) s h l) t in
      let a = and_both (ltb 0 (hop_of w s e)) (entry_fits w e s && live w e s) m in
      let b = and_both (entry_fits w e s) (live w e s) a.1 in
      (a.0, b.0, b.1)

  pub sessions_in_range : all 32 (session_passes w) ≡ true → sources_in_range w ≡ true
  unfolding sources_in_range
  sessions_in_range h = all_below 32 (source_in_range w) (λ s l. (session_parts h s l).0)

  -- CLAUSE BY CLAUSE --------------------------------------------------------------------------------------------------

  module _ (k : count_fits w ≡ true) (ss : all 32 (session_passes w) ≡ true) (ps : all (count_of w) (packet_passes w) ≡ true)
      (ls : all 64 (link_passes w) ≡ true) where
    part : (e s : ℕ) → e < 64 → s < 32 → holds (place_of w e) s ≡ true
        → (ltb 0 (hop_of w s e) ≡ true) × (entry_fits w e s ≡ true) × (live w e s ≡ true)
    part e s l m t = member_parts e (link_parts ls e l).2 s m t

    fields : fields_in_range w ≡ true
    unfolding fields_in_range links_in_range entries_in_range row_in_range entry_in_range packets_in_range
    fields =
        ap₂ ◌&&◌ k
        (ap₂ ◌&&◌ (all_below 64 (link_fits w) (λ e l. (link_parts ls e l).0))
        (ap₂ ◌&&◌
        (all_below 64 (row_in_range w) (λ e l. all_below 32 (entry_in_range w e) (λ s m. implies (holds (place_of w e) s) (entry_fits w e s) (λ t. (part e s l m t).1))))
        (ap₂ ◌&&◌ (sessions_in_range ss) (all_below (count_of w) (packet_fits w) (λ i l. (packet_parts ps i l).0)))))

    paths : paths_pass w ≡ true
    unfolding paths_pass paths_declared path_declared paths_once path_once packets_on_path packets_on_their_way
    paths =
        ap₂ ◌&&◌
        (all_below 32 (path_declared w) (λ s l. all_below (hops_of w s) (stop_declared w s) (λ i m. (stop_parts s (session_parts ss s l).1 i m).0)))
        (ap₂ ◌&&◌
        (all_below 32 (path_once w) (λ s l. all_below (hops_of w s) (stop_new w s) (λ i m. (stop_parts s (session_parts ss s l).1 i m).1)))
        (ap₂ ◌&&◌ (all_below (count_of w) (packet_on_path w) (λ i l. (packet_parts ps i l).1))
        (all_below (count_of w) (packet_on_its_way w) (λ i l. (packet_parts ps i l).2))))

    links : links_pass w ≡ true
    unfolding links_pass apart entries_on_path row_on_path entry_on_path entries_live row_live entry_live sums_fit
    links =
        ap₂ ◌&&◌ (all_below 64 (row_apart w) (λ e l. (link_parts ls e l).1))
        (ap₂ ◌&&◌
        (all_below 64 (row_on_path w) (λ e l. all_below 32 (entry_on_path w e) (λ s m. implies (holds (place_of w e) s) (ltb 0 (hop_of w s e)) (λ t. (part e s l m t).0))))
        (ap₂ ◌&&◌
        (all_below 64 (row_live w) (λ e l. all_below 32 (entry_live w e) (λ s m. implies (holds (place_of w e) s) (live w e s) (λ t. (part e s l m t).2))))
        (all_below 64 (sum_fits w) (λ e l. (link_parts ls e l).3))))

  once_clauses : once_over w ≡ true → passes14_of w ≡ true
  unfolding once_over passes14_of
  once_clauses h =
      let a = and_both (count_fits w) (all 32 (session_passes w) && (all (count_of w) (packet_passes w) && all 64 (link_passes w))) h in
      let b = and_both (all 32 (session_passes w)) (all (count_of w) (packet_passes w) && all 64 (link_passes w)) a.1 in
      let c = and_both (all (count_of w) (packet_passes w)) (all 64 (link_passes w)) b.1 in
      ap₂ ◌&&◌ (fields a.0 b.0 c.0 c.1) (ap₂ ◌&&◌ (paths a.0 b.0 c.0 c.1) (links a.0 b.0 c.0 c.1))

  -- AND BACK ----------------------------------------------------------------------------------------------------------

  session_once : sources_in_range w ≡ true → paths_declared w ≡ true → paths_once w ≡ true → all 32 (session_passes w) ≡ true
  unfolding sources_in_range paths_declared path_declared paths_once path_once session_passes path_passes
  session_once f d o =
      all_below 32 (session_passes w)
      (λ s l.
      ap₂ ◌&&◌ (all_at 32 (source_in_range w) s f l)
      (all_below (hops_of w s) (λ i. stop_declared w s i && stop_new w s i)
      (λ i m.
      ap₂ ◌&&◌ (all_at (hops_of w s) (stop_declared w s) i (all_at 32 (path_declared w) s d l) m)
      (all_at (hops_of w s) (stop_new w s) i (all_at 32 (path_once w) s o l) m))))

  packet_once : packets_in_range w ≡ true → packets_on_path w ≡ true → packets_on_their_way w ≡ true → all (count_of w) (packet_passes w) ≡ true
  unfolding packets_in_range packets_on_path packets_on_their_way packet_passes
  packet_once f p y =
      all_below (count_of w) (packet_passes w)
      (λ i l.
      ap₂ ◌&&◌ (all_at (count_of w) (packet_fits w) i f l)
      (ap₂ ◌&&◌ (all_at (count_of w) (packet_on_path w) i p l) (all_at (count_of w) (packet_on_its_way w) i y l)))

  row_once : entries_in_range w ≡ true → entries_on_path w ≡ true → entries_live w ≡ true → (e : ℕ) → e < 64 → row_passes w e ≡ true
  unfolding entries_in_range row_in_range entry_in_range entries_on_path row_on_path entry_on_path entries_live row_live entry_live row_passes member_passes
  row_once f p v e l =
      all_below 32 (λ s. not (holds (place_of w e) s) || member_passes w e s)
      (λ s m.
      implies (holds (place_of w e) s) (member_passes w e s)
      (λ t.
      ap₂ ◌&&◌ (implied (holds (place_of w e) s) (ltb 0 (hop_of w s e)) (all_at 32 (entry_on_path w e) s (all_at 64 (row_on_path w) e p l) m) t)
      (ap₂ ◌&&◌ (implied (holds (place_of w e) s) (entry_fits w e s) (all_at 32 (entry_in_range w e) s (all_at 64 (row_in_range w) e f l) m) t)
      (implied (holds (place_of w e) s) (live w e s) (all_at 32 (entry_live w e) s (all_at 64 (row_live w) e v l) m) t))))

  link_once : links_in_range w ≡ true → apart w ≡ true → ((e : ℕ) → e < 64 → row_passes w e ≡ true) → sums_fit w ≡ true → all 64 (link_passes w) ≡ true
  unfolding links_in_range apart sums_fit link_passes
  link_once f a r m =
      all_below 64 (link_passes w)
      (λ e l.
      ap₂ ◌&&◌ (all_at 64 (link_fits w) e f l)
      (ap₂ ◌&&◌ (all_at 64 (row_apart w) e a l) (ap₂ ◌&&◌ (r e l) (all_at 64 (sum_fits w) e m l))))

  clauses_once : passes14_of w ≡ true → once_over w ≡ true
  unfolding once_over passes14_of fields_in_range paths_pass links_pass
  clauses_once h =
      let a = and_both (fields_in_range w) (paths_pass w && links_pass w) h in
      let b = and_both (paths_pass w) (links_pass w) a.1 in
      let f1 = and_both (count_fits w) (links_in_range w && (entries_in_range w && (sources_in_range w && packets_in_range w))) a.0 in
      let f2 = and_both (links_in_range w) (entries_in_range w && (sources_in_range w && packets_in_range w)) f1.1 in
      let f3 = and_both (entries_in_range w) (sources_in_range w && packets_in_range w) f2.1 in
      let f4 = and_both (sources_in_range w) (packets_in_range w) f3.1 in
      let p1 = and_both (paths_declared w) (paths_once w && (packets_on_path w && packets_on_their_way w)) b.0 in
      let p2 = and_both (paths_once w) (packets_on_path w && packets_on_their_way w) p1.1 in
      let p3 = and_both (packets_on_path w) (packets_on_their_way w) p2.1 in
      let l1 = and_both (apart w) (entries_on_path w && (entries_live w && sums_fit w)) b.1 in
      let l2 = and_both (entries_on_path w) (entries_live w && sums_fit w) l1.1 in
      let l3 = and_both (entries_live w) (sums_fit w) l2.1 in
      ap₂ ◌&&◌ f1.0
      (ap₂ ◌&&◌ (session_once f4.0 p1.0 p2.0)
      (ap₂ ◌&&◌ (packet_once f4.1 p3.0 p3.1) (link_once f2.0 l1.0 (row_once f3.0 l2.0 l3.0) l3.1)))

  pub once_over_lem : once_over w ≡ passes14_of w
  once_over_lem = same_test (once_over w) (passes14_of w) once_clauses clauses_once
