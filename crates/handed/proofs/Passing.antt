-- Refusal 14 does not meet a table exactly where it is what `Passes` says.
-- Assumes nothing.
use mathlib.Core.Bool.{true, ◌&&◌}
use mathlib.Core.List.{List}
use mathlib.Core.Path.{ap₂, ◌≡◌}
use Prim.Native.Nat.{ℕ}
use Rattle.fractions.proofs.Cases.{and_both}
use Rattle.ranges.specs.Ranges.{count_fits}
use Rattle.handed.specs.Handed.{apart, entries_in_range, entries_live, entries_on_path, fields_in_range, links_in_range, links_pass, packets_in_range, packets_on_path, packets_on_their_way, passes14_of, paths_declared, paths_once, paths_pass, sources_in_range, sums_fit}
use Rattle.handed.specs.Passes.{Passes}
use Rattle.handed.proofs.Clauses.{apart_means, apart_test, declared_means, declared_test, down_means, entries_means, entries_test, fine_means, held_means, held_test, joined_means, known_means, links_means, links_test, live_means, live_test, on_path_test, once_means, once_test, packets_means, packets_test, sources_means, sources_test, standing_means, sums_test, up_means, way_means, way_test, within_means}

pub passes_means : (w : List ℕ) → passes14_of w ≡ true → Passes w
unfolding passes14_of fields_in_range paths_pass links_pass
passes_means w h =
    let a = and_both (fields_in_range w) (paths_pass w && links_pass w) h in
    let b = and_both (paths_pass w) (links_pass w) a.1 in
    let f1 = and_both (count_fits w) (links_in_range w && (entries_in_range w && (sources_in_range w && packets_in_range w))) a.0 in
    let f2 = and_both (links_in_range w) (entries_in_range w && (sources_in_range w && packets_in_range w)) f1.1 in
    let f3 = and_both (entries_in_range w) (sources_in_range w && packets_in_range w) f2.1 in
    let f4 = and_both (sources_in_range w) (packets_in_range w) f3.1 in
    let p1 = and_both (paths_declared w) (paths_once w && (packets_on_path w && packets_on_their_way w)) b.0 in
    let p2 = and_both (paths_once w) (packets_on_path w && packets_on_their_way w) p1.1 in
    let p3 = and_both (packets_on_path w) (packets_on_their_way w) p2.1 in
    let l1 = and_both (apart w) (entries_on_path w && (entries_live w && sums_fit w)) b.1 in
    let l2 = and_both (entries_on_path w) (entries_live w && sums_fit w) l1.1 in
    let l3 = and_both (entries_live w) (sums_fit w) l2.1 in
    record {
      count = f1.0;
      links = links_means w f2.0;
      entries = entries_means w f3.0;
      standing = standing_means w f4.0;
      sources = sources_means w f4.0;
      joined = joined_means w f4.0;
      packets = packets_means w f4.1;
      declared = declared_means w p1.0;
      once = once_means w p2.0;
      known = known_means w p3.0;
      down = down_means w p3.0;
      up = up_means w p3.0;
      way = way_means w p3.1;
      apart = apart_means w l1.0;
      on_path = held_means w l2.0;
      live = live_means w l3.0;
      within_c = within_means w l3.1;
      fine = fine_means w l3.1;
    }

pub means_passes : (w : List ℕ) → Passes w → passes14_of w ≡ true
unfolding passes14_of fields_in_range paths_pass links_pass
means_passes w o =
    let f : fields_in_range w ≡ true = ap₂ ◌&&◌ o.count (ap₂ ◌&&◌ (links_test w o.links) (ap₂ ◌&&◌ (entries_test w o.entries) (ap₂ ◌&&◌ (sources_test w o.standing o.sources o.joined) (packets_test w o.packets)))) in
    let p : paths_pass w ≡ true = ap₂ ◌&&◌ (declared_test w o.declared) (ap₂ ◌&&◌ (once_test w o.once) (ap₂ ◌&&◌ (on_path_test w o.known o.down o.up) (way_test w o.way))) in
    let l : links_pass w ≡ true = ap₂ ◌&&◌ (apart_test w o.apart) (ap₂ ◌&&◌ (held_test w o.on_path) (ap₂ ◌&&◌ (live_test w o.live) (sums_test w o.within_c o.fine))) in
    ap₂ ◌&&◌ f (ap₂ ◌&&◌ p l)
