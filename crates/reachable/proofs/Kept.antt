-- What a table says of a packet, a session, an entry and a hop goes by the paths, the capacities, the packets and who is active.
-- Assumes nothing.
use mathlib.Core.Bool.{false, true}
use mathlib.Core.List.{List}
use mathlib.Core.Path.{◌≡◌, ap, refl, subst, sym, ◌∙◌}
use Prim.Native.Nat.{ℕ, zero, suc, ◌-◌, ◌<◌, ◌≤◌}
use native.Mathlib.Decide.{ℕ_discrete}
use native.Mathlib.Omega.{arith}
use lib.ListN.{get_or, length}
use Rattle.table.specs.Words.{hop_from, hop_of, hops_of, link_of, packets_of, path_of, source_of, stop_of}
use Rattle.table.proofs.Hops.{hop_from_first, hop_of_stop}
use Rattle.table.proofs.InRange.{path_length, path_stop}
use Rattle.tasks.specs.declared.Packet.{Packet}
use Rattle.reachable.specs.Invariant.{EntryOk, PacketOk, Reaches, SourceOk, active_in}

-- what holds at e, and at f where it is another, holds at f
pub one_or_other : (P : ℕ → Type 0) (e f : ℕ) → P e → ((f ≡ e → ⊥) → P f) → P f
one_or_other P e f a b = go (ℕ_discrete f e)
  where
    go : Dec (f ≡ e) → P f
    go (yes q) = subst P (sym q) a
    go (no n) = b n

-- THE SAME PATHS ------------------------------------------------------------------------------------------------------

module _ (w v : List ℕ) (s : ℕ) (same : path_of v s ≡ path_of w s) where
  pub hops_same : hops_of v s ≡ hops_of w s
  hops_same = sym (path_length v s) ∙ ap length same ∙ path_length w s

  pub stop_same : (i : ℕ) → i < hops_of w s → stop_of v s i ≡ stop_of w s i
  stop_same i h =
      sym (path_stop v s i 0 (omega (arith, hops_same, h))) ∙ ap (λ (l : List ℕ). get_or l i 0) same ∙ path_stop w s i 0 h

  pub hop_same : (e : ℕ) → hop_of v s e ≡ hop_of w s e
  hop_same e = ap (λ (l : List ℕ). hop_from 1 l e) same

pub packet_kept : (w v : List ℕ) (q : Packet) → path_of v q.session ≡ path_of w q.session → PacketOk w q → PacketOk v q
packet_kept w v q same o =
    let h = hops_same w v q.session same in
    record {
      within = o.within;
      known = omega (arith, h, o.known);
      way = o.way;
      down = λ d. let u = o.down d in (u.0, omega (arith, h, u.1));
      up = λ d. omega (arith, h, o.up d);
    }

-- the links of the path stay declared
pub source_kept : (w v : List ℕ) (s : ℕ)
    → path_of v s ≡ path_of w s
    → ((source_of v s).active ≡ true → 0 < hops_of w s)
    → ((i : ℕ) → i < hops_of w s → 0 < (link_of w (stop_of w s i)).capacity → 0 < (link_of v (stop_of w s i)).capacity)
    → SourceOk w s
    → SourceOk v s
source_kept w v s same a c o =
    let h = hops_same w v s same in
    let at : (i : ℕ) → i < hops_of v s → stop_of v s i ≡ stop_of w s i = λ i l. stop_same w v s same i (omega (arith, h)) in
    record {
      joined = λ t. omega (arith, h, a t);
      declared = λ i l.
          subst (λ (e : ℕ). 0 < (link_of v e).capacity) (sym (at i l)) (c i (omega (arith, h)) (o.declared i (omega (arith, h))));
      once = λ i j l k q. o.once i j (omega (arith, h)) k (sym (at j (omega (arith, l, k))) ∙ q ∙ at i l);
    }

-- an entry whose session keeps its path, and has a Leave to come where it is not active
pub entry_kept : (w v : List ℕ) (e s : ℕ) → path_of v s ≡ path_of w s → 0 < hop_of w s e
    → (active_in v s ≡ false → Reaches s (hop_of w s e) (packets_of v))
    → EntryOk v e s
entry_kept w v e s same on live =
    let h = hop_same w v s same e in
    record { on_path = omega (arith, h, on); live = λ a. subst (λ (n : ℕ). Reaches s n (packets_of v)) (sym h) (live a) }

-- THE LINK AT A HOP ---------------------------------------------------------------------------------------------------

-- no link stands twice on the path, so the link at place i has its hop there
pub hop_at : (w : List ℕ) (s i : ℕ) → SourceOk w s → i < hops_of w s → hop_of w s (stop_of w s i) ≡ suc i
hop_at w s i o l =
    let g : get_or (path_of w s) i 0 ≡ stop_of w s i = path_stop w s i 0 l in
    let n : i < length (path_of w s) = omega (arith, path_length w s, l) in
    let f =
    hop_from_first 1 (path_of w s) i 0 n
    (λ j k q. o.once i j l k (sym (path_stop w s j 0 (omega (arith, l, k))) ∙ q ∙ g)) in
    ap (hop_from 1 (path_of w s)) (sym g) ∙ f ∙ omega arith

-- a link on the path has a hop of it
pub record OnHop (w : List ℕ) (s e : ℕ) : Type 0 where
  pub joined : 0 < hops_of w s
  pub upto : hop_of w s e ≤ hops_of w s
  pub stop : stop_of w s (hop_of w s e - 1) ≡ e

pub hop_on : (w : List ℕ) (s e : ℕ) → 0 < hop_of w s e → OnHop w s e
hop_on w s e h = go (hop_of w s e) refl
  where
    go : (n : ℕ) → hop_of w s e ≡ n → OnHop w s e
    go zero q = absurd (omega arith)
    go (suc i) q =
        let p = hop_of_stop w s e i q in
        let z : hop_of w s e - 1 ≡ i = omega (arith, q) in
        record { joined = omega (arith, p.0); upto = omega (arith, p.0, q); stop = ap (stop_of w s) z ∙ p.1 }

-- at each hop of the path stands one link
pub same_hop : (w : List ℕ) (s e f : ℕ) → 0 < hop_of w s e → hop_of w s f ≡ hop_of w s e → f ≡ e
same_hop w s e f h q =
    sym (hop_on w s f (omega (arith, h, q))).stop ∙ ap (λ (n : ℕ). stop_of w s (n - 1)) q ∙ (hop_on w s e h).stop
