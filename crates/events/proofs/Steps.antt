-- Each way out of a step, from what its calls answered.
-- Assumes nothing.
use Rattle.std.specs.Prelude.{Option}
use mathlib.Core.Bool.{Bool, cond, false, not, true}
use mathlib.Core.List.{List}
use mathlib.Core.Path.{◌≡◌, ap, ap₂, sym, ◌∙◌}
use Prim.Native.Nat.{ℕ, ◌+◌, ◌-◌, ◌≤◌, ◌<◌}
use borrow.Author.Tests.{le-ltb, lt-ltb}
use lib.Dec.{ltb}
use Rattle.ends.specs.declared.Source.{Source}
use Rattle.ends.specs.declared.SourceDid.{SourceDid}
use Rattle.ends.specs.Figure3.{changing_of, joining_of, leaving_of, source_step_of}
use Rattle.ends.specs.Figure4.{destination_step_of}
use Rattle.fractions.proofs.Cases.{chosen, not-false, not_true}
use Rattle.records.specs.Limits.{above_line}
use Rattle.records.specs.declared.Refusal.TheVariants as refusal
use Rattle.sessions.specs.Set.{size_of}
use Rattle.table.specs.Words.{count_of, place_of, put_hops, put_path, put_place, put_source, removed, source_of}
use Rattle.tasks.specs.declared.Did.{Did}
use Rattle.tasks.specs.declared.Packet.{Packet}
use Rattle.tasks.specs.Figure2.{link_step_of}
use Rattle.events.specs.Events.{Step, at_destination_of, at_link_of, at_source_of, change_of, join_of, leave_of, path_declared_in, refusing, source_sends, taking, unless_many}
use Rattle.sending.specs.Sending.{none_of, on_path_of, one_if, send_all_of, send_on_of}
use Rattle.tasks.specs.declared.Kind.{Kind}

-- REFUSAL 13 ----------------------------------------------------------------------------------------------------------

module _ (n m : ℕ) (w v : List ℕ) (e : m ≡ n) where
  pub too_many : 256 < m → unless_many n w v ≡ refusing refusal.TooManyPackets w
  too_many h = chosen (ltb 256 n) true (refusing refusal.TooManyPackets w) (taking v) (ap (ltb 256) (sym e) ∙ lt-ltb 256 m h)

  pub few : m ≤ 256 → unless_many n w v ≡ taking v
  few h = chosen (ltb 256 n) false (refusing refusal.TooManyPackets w) (taking v) (ap (ltb 256) (sym e) ∙ le-ltb 256 m h)

-- A LINK --------------------------------------------------------------------------------------------------------------

module _ (w : List ℕ) (i : ℕ) (p : Packet) (e : ℕ) where
  abbrev sends : Did → ℕ → List ℕ
  sends d to = send_on_of (send_all_of (put_place (removed w i) e d.place) e d.burst to) p.session p.hop d.on

  abbrev unless_many_sent : Did → Step
  unless_many_sent d = unless_many (count_of w - 1 + size_of (on_path_of w e d.to) + one_if d.on) w (sends d (on_path_of w e d.to))

  abbrev link_with : Did → Step
  link_with d = cond d.fine (unless_many_sent d) (refusing refusal.TooFine w)

  module _ (d : Did) (is : d ≡ link_step_of e p.session p.kind (place_of w e)) where
    at_link_is : at_link_of w i p e ≡ link_with d
    unfolding at_link_of
    at_link_is = ap link_with (sym is)

    pub link_too_fine : d.fine ≡ false → at_link_of w i p e ≡ refusing refusal.TooFine w
    link_too_fine h = at_link_is ∙ chosen d.fine _ (unless_many_sent d) (refusing refusal.TooFine w) h

    module _ (to n k o : ℕ) (h : d.fine ≡ true) (on : to ≡ on_path_of w e d.to) (en : n ≡ count_of w) (ek : k ≡ size_of to) (eo : o ≡ one_if d.on) where
      after_is : n - 1 + k + o ≡ count_of w - 1 + size_of (on_path_of w e d.to) + one_if d.on
      after_is = ap₂ ◌+◌ (ap₂ (λ a b. a - 1 + b) en (ek ∙ ap size_of on)) eo

      fine_is : at_link_of w i p e ≡ unless_many_sent d
      fine_is = at_link_is ∙ chosen d.fine _ (unless_many_sent d) (refusing refusal.TooFine w) h

      pub link_many : 256 < n - 1 + k + o → at_link_of w i p e ≡ refusing refusal.TooManyPackets w
      link_many l = fine_is ∙ too_many _ (n - 1 + k + o) w _ after_is l

      pub link_done : n - 1 + k + o ≤ 256 → (v : List ℕ) → v ≡ sends d to → at_link_of w i p e ≡ taking v
      link_done l v x = fine_is ∙ (few _ (n - 1 + k + o) w _ after_is l ∙ ap taking (ap (sends d) (sym on) ∙ sym x))

-- A SOURCE AND A DESTINATION ------------------------------------------------------------------------------------------

module _ (w : List ℕ) (i : ℕ) (p : Packet) where
  module _ (d : SourceDid) (n o : ℕ) (is : d ≡ source_step_of p.kind (source_of w p.session)) (en : n ≡ count_of w) (eo : o ≡ one_if d.on) where
    abbrev source_writes : SourceDid → List ℕ
    source_writes x = send_on_of (put_source (removed w i) p.session x.source) p.session 0 x.on

    at_source_is : at_source_of w i p ≡ unless_many (count_of w - 1 + one_if d.on) w (source_writes d)
    unfolding at_source_of
    at_source_is = ap (λ (x : SourceDid). unless_many (count_of w - 1 + one_if x.on) w (source_writes x)) (sym is)

    pub source_many : 256 < n - 1 + o → at_source_of w i p ≡ refusing refusal.TooManyPackets w
    source_many l = at_source_is ∙ too_many _ (n - 1 + o) w _ (ap₂ (λ a b. a - 1 + b) en eo) l

    pub source_done : n - 1 + o ≤ 256 → (v : List ℕ) → v ≡ source_writes d → at_source_of w i p ≡ taking v
    source_done l v x = at_source_is ∙ (few _ (n - 1 + o) w _ (ap₂ (λ a b. a - 1 + b) en eo) l ∙ ap taking (sym x))

  module _ (d : Option Kind) (n o : ℕ) (is : d ≡ destination_step_of p.kind) (en : n ≡ count_of w) (eo : o ≡ one_if d) where
    abbrev destination_writes : Option Kind → List ℕ
    destination_writes x = send_on_of (removed w i) p.session p.hop x

    at_destination_is : at_destination_of w i p ≡ unless_many (count_of w - 1 + one_if d) w (destination_writes d)
    unfolding at_destination_of
    at_destination_is = ap (λ (x : Option Kind). unless_many (count_of w - 1 + one_if x) w (destination_writes x)) (sym is)

    pub destination_many : 256 < n - 1 + o → at_destination_of w i p ≡ refusing refusal.TooManyPackets w
    destination_many l = at_destination_is ∙ too_many _ (n - 1 + o) w _ (ap₂ (λ a b. a - 1 + b) en eo) l

    pub destination_done : n - 1 + o ≤ 256 → (v : List ℕ) → v ≡ destination_writes d → at_destination_of w i p ≡ taking v
    destination_done l v x = at_destination_is ∙ (few _ (n - 1 + o) w _ (ap₂ (λ a b. a - 1 + b) en eo) l ∙ ap taking (sym x))

-- A SESSION -----------------------------------------------------------------------------------------------------------

module _ (w v : List ℕ) (t : ℕ) (d : SourceDid) (r : Bool) (e : r ≡ not (ltb 256 (count_of w + one_if d.on))) where
  pub sends_many : r ≡ false → source_sends w v t d ≡ refusing refusal.TooManyPackets w
  unfolding source_sends
  sends_many h = chosen (ltb 256 (count_of w + one_if d.on)) _ (refusing refusal.TooManyPackets w) (taking (send_on_of (put_source v t d.source) t 0 d.on)) (not-false _ (sym e ∙ h))

  pub sends_done : r ≡ true → (u : List ℕ) → u ≡ send_on_of (put_source v t d.source) t 0 d.on → source_sends w v t d ≡ taking u
  unfolding source_sends
  sends_done h u x = chosen (ltb 256 (count_of w + one_if d.on)) _ (refusing refusal.TooManyPackets w) (taking (send_on_of (put_source v t d.source) t 0 d.on)) (not_true _ (sym e ∙ h)) ∙ ap taking (sym x)

module _ (w : List ℕ) (t : ℕ) (z : Source) (is : z ≡ source_of w t) where
  active_is : (source_of w t).active ≡ z.active
  active_is = sym (ap (λ (x : Source). x.active) is)

  pub leave_not : z.active ≡ false → leave_of w t ≡ refusing refusal.NotActive w
  unfolding leave_of
  leave_not h = chosen (source_of w t).active _ (source_sends w w t (leaving_of (source_of w t))) (refusing refusal.NotActive w) (active_is ∙ h)

  pub leave_does : z.active ≡ true → (d : SourceDid) → d ≡ leaving_of z → leave_of w t ≡ source_sends w w t d
  unfolding leave_of
  leave_does h d e =
      chosen (source_of w t).active _ (source_sends w w t (leaving_of (source_of w t))) (refusing refusal.NotActive w) (active_is ∙ h)
      ∙ ap (source_sends w w t) (ap leaving_of (sym is) ∙ sym e)

  module _ (m : ℕ) where
    abbrev changes : Step
    changes = source_sends w w t (changing_of (source_of w t) m)

    abbrev unless_above : Step
    unless_above = cond (above_line (source_of w t).access m) (refusing refusal.AboveLine w) changes

    pub change_not : z.active ≡ false → change_of w t m ≡ refusing refusal.NotActive w
    unfolding change_of
    change_not h = chosen (source_of w t).active _ unless_above (refusing refusal.NotActive w) (active_is ∙ h)

    module _ (h : z.active ≡ true) (r : Bool) (er : r ≡ above_line z.access m) where
      is_active : change_of w t m ≡ unless_above
      unfolding change_of
      is_active = chosen (source_of w t).active _ unless_above (refusing refusal.NotActive w) (active_is ∙ h)

      above_is : above_line (source_of w t).access m ≡ r
      above_is = ap (λ (x : Source). above_line x.access m) (sym is) ∙ sym er

      pub change_above : r ≡ true → change_of w t m ≡ refusing refusal.AboveLine w
      change_above k = is_active ∙ chosen (above_line (source_of w t).access m) _ (refusing refusal.AboveLine w) changes (above_is ∙ k)

      pub change_does : r ≡ false → (d : SourceDid) → d ≡ changing_of z m → change_of w t m ≡ source_sends w w t d
      change_does k d e =
          is_active
          ∙ (chosen (above_line (source_of w t).access m) _ (refusing refusal.AboveLine w) changes (above_is ∙ k)
          ∙ ap (source_sends w w t) (ap (λ (x : Source). changing_of x m) (sym is) ∙ sym e))

-- a session that is not active joins, where its maximum is not above the line, its links are declared and none of its packets is in flight
module _ (s w : List ℕ) (t access maximum n at : ℕ) (z : Source) (is : z ≡ source_of w t) where
  abbrev joins : Step
  joins = source_sends w (put_hops (put_path w t s at) t n) t (joining_of access maximum)

  abbrev unless_leaving : Step
  unless_leaving = cond (none_of w t (count_of w)) joins (refusing refusal.StillLeaving w)

  abbrev if_declared : Step
  if_declared = cond (path_declared_in w s at n) unless_leaving (refusing refusal.UndeclaredLink w)

  abbrev unless_above_line : Step
  unless_above_line = cond (above_line access maximum) (refusing refusal.AboveLine w) if_declared

  pub join_active : z.active ≡ true → join_of s w t access maximum n at ≡ refusing refusal.AlreadyThere w
  unfolding join_of
  join_active h = chosen (source_of w t).active _ (refusing refusal.AlreadyThere w) _ (active_is w t z is ∙ h)

  not_active : z.active ≡ false → join_of s w t access maximum n at ≡ unless_above_line
  unfolding join_of
  not_active h = chosen (source_of w t).active _ (refusing refusal.AlreadyThere w) unless_above_line (active_is w t z is ∙ h)

  pub join_above : z.active ≡ false → above_line access maximum ≡ true → join_of s w t access maximum n at ≡ refusing refusal.AboveLine w
  join_above h b = not_active h ∙ chosen (above_line access maximum) _ (refusing refusal.AboveLine w) if_declared b

  module _ (h : z.active ≡ false) (b : above_line access maximum ≡ false) (r : Bool) (er : r ≡ path_declared_in w s at n) where
    not_above : join_of s w t access maximum n at ≡ if_declared
    not_above = not_active h ∙ chosen (above_line access maximum) _ (refusing refusal.AboveLine w) if_declared b

    pub join_undeclared : r ≡ false → join_of s w t access maximum n at ≡ refusing refusal.UndeclaredLink w
    join_undeclared k = not_above ∙ chosen (path_declared_in w s at n) _ unless_leaving (refusing refusal.UndeclaredLink w) (sym er ∙ k)

    module _ (k : r ≡ true) (c : ℕ) (q : Bool) (ec : c ≡ count_of w) (eq : q ≡ none_of w t c) where
      declared : join_of s w t access maximum n at ≡ unless_leaving
      declared = not_above ∙ chosen (path_declared_in w s at n) _ unless_leaving (refusing refusal.UndeclaredLink w) (sym er ∙ k)

      none_is : none_of w t (count_of w) ≡ q
      none_is = ap (none_of w t) (sym ec) ∙ sym eq

      pub join_leaving : q ≡ false → join_of s w t access maximum n at ≡ refusing refusal.StillLeaving w
      join_leaving l = declared ∙ chosen (none_of w t (count_of w)) _ joins (refusing refusal.StillLeaving w) (none_is ∙ l)

      module _ (l : q ≡ true) (d : SourceDid) (m : Bool) (ed : d ≡ joining_of access maximum) (em : m ≡ not (ltb 256 (count_of w + one_if d.on))) where
        free : join_of s w t access maximum n at ≡ source_sends w (put_hops (put_path w t s at) t n) t d
        free =
            declared
            ∙ (chosen (none_of w t (count_of w)) _ joins (refusing refusal.StillLeaving w) (none_is ∙ l)
            ∙ ap (source_sends w (put_hops (put_path w t s at) t n) t) (sym ed))

        pub join_many : m ≡ false → join_of s w t access maximum n at ≡ refusing refusal.TooManyPackets w
        join_many f = free ∙ sends_many w (put_hops (put_path w t s at) t n) t d m em f

        pub join_done : m ≡ true → (v : List ℕ) → v ≡ send_on_of (put_source (put_hops (put_path w t s at) t n) t d.source) t 0 d.on
            → join_of s w t access maximum n at ≡ taking v
        join_done f v x = free ∙ sends_done w (put_hops (put_path w t s at) t n) t d m em f v x
