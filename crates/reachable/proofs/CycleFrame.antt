-- What keeps the law of probe cycles: the packets that are left, and those that are sent.
-- Assumes nothing.
use mathlib.Core.Bool.{Bool, cond, false, true}
use mathlib.Core.List.{List, ◌++◌}
use mathlib.Core.Path.{◌≡◌, refl, subst, sym, ◌∙◌}
use Prim.Native.Nat.{ℕ, ◌+◌, ◌<◌, ◌≤◌}
use native.Mathlib.Omega.{arith}
use Rattle.sending.specs.Sending.{sent_from}
use Rattle.links.specs.declared.Place.{Place}
use Rattle.links.specs.Links.{is_idle}
use Rattle.records.proofs.Somes.{clash}
use Rattle.soundness.specs.LinkDid.{is_join}
use Rattle.soundness.specs.ProbeCycle.{Waiting, in_cycle, is_response}
use Rattle.soundness.specs.Sound.{Held}
use Rattle.table.specs.Words.{packets_of, path_of, place_of, source_of}
use Rattle.tasks.specs.declared.Kind.{Kind}
use Rattle.tasks.specs.declared.Kind.TheVariants as kind
use Rattle.tasks.specs.declared.Packet.{Packet}
use Rattle.tasks.specs.Packets.{goes_down}
use Rattle.reachable.specs.Cycle.{Awaited, Cycle, cycles_of, front_of}
use Rattle.reachable.specs.Invariant.{Every, PacketOk}
use Rattle.reachable.proofs.CycleCounts.{counted, cycles_append}
use Rattle.reachable.proofs.Kept.{hop_same}
use Rattle.reachable.proofs.PacketLists.{every_append, every_both, every_map}

-- ONE PACKET ----------------------------------------------------------------------------------------------------------

pub join_in_cycle : (k : Kind) → is_join k ≡ true → in_cycle k ≡ true
join_in_cycle (kind.Join x η) t = refl
join_in_cycle (kind.Probe x η) t = refl
join_in_cycle (kind.Response τ x η) t = refl
join_in_cycle kind.Update t = t
join_in_cycle kind.Bottleneck t = t
join_in_cycle (kind.SetBottleneck β) t = t
join_in_cycle kind.Leave t = t

pub response_in_cycle : (k : Kind) → is_response k ≡ true → in_cycle k ≡ true
response_in_cycle (kind.Join x η) t = refl
response_in_cycle (kind.Probe x η) t = refl
response_in_cycle (kind.Response τ x η) t = refl
response_in_cycle kind.Update t = t
response_in_cycle kind.Bottleneck t = t
response_in_cycle (kind.SetBottleneck β) t = t
response_in_cycle kind.Leave t = t

-- of a packet that is of no probe cycle nothing is asked
pub not_awaited : (w : List ℕ) (q : Packet) → in_cycle q.kind ≡ false → Awaited w q
not_awaited w q n = record {
  new = λ j. absurd (clash (in_cycle q.kind) (join_in_cycle q.kind j) n);
  waits = λ t. absurd (clash (in_cycle q.kind) t n);
}

-- the hop of a packet is not beyond its front
pub hop_front : (q : Packet) → q.hop ≤ front_of q
hop_front q = go (goes_down q.kind)
  where
    go : (b : Bool) → q.hop ≤ cond b q.hop (q.hop + 1)
    go true = omega arith
    go false = omega arith

-- the front of a packet that is sent from hop h: the next hop downstream, and h upstream
pub front_down : (s h : ℕ) (k : Kind) → goes_down k ≡ true → front_of (sent_from s h k) ≡ h + 1
front_down s h k t = rw t

pub front_up : (s h : ℕ) (k : Kind) → goes_down k ≡ false → 0 < h → front_of (sent_from s h k) ≡ h
front_up s h k t l = rw t (omega arith)

-- THE PACKETS THAT ARE LEFT -------------------------------------------------------------------------------------------

-- the entries that session s has in v it had in w, and where it waited it waits
abbrev pub Stays : List ℕ → List ℕ → ℕ → Type 0
Stays w v s = (e : ℕ) → e < 64 → Held (place_of v e) s → Held (place_of w e) s × (Waiting (place_of w e) s → Waiting (place_of v e) s)

pub same_stays : (w v : List ℕ) (s e : ℕ) → place_of v e ≡ place_of w e → Held (place_of v e) s
    → Held (place_of w e) s × (Waiting (place_of w e) s → Waiting (place_of v e) s)
same_stays w v s e q h = (subst (λ (x : Place). Held x s) q h, λ a. subst (λ (x : Place). Waiting x s) (sym q) a)

awaited_kept : (w v : List ℕ) (q : Packet) → path_of v q.session ≡ path_of w q.session → Stays w v q.session → Awaited w q → Awaited v q
awaited_kept w v q same stays a = record {
  new = λ j e l h. omega (arith, hop_same w v q.session same e, a.new j e l (stays e l h).0);
  waits = λ c e l h n. let u = stays e l h in u.1 (a.waits c e l u.0 (omega (arith, hop_same w v q.session same e, n)));
}

-- v has the packets `rest` of w, and behind them `sent`
module _ (w v : List ℕ) (rest sent : List Packet) (packets : packets_of v ≡ rest ++ sent) (ok : Every (PacketOk w) rest) (awaited : Every (Awaited w) rest)
    (stays : (s : ℕ) → s < 32 → 0 < cycles_of s rest → (path_of v s ≡ path_of w s) × Stays w v s) where
  rest_awaited : Every (Awaited v) rest
  rest_awaited =
      every_map rest (λ q u. go q u.0.within.session u.1.0 u.1.1 (in_cycle q.kind) refl)
      (every_both rest ok (every_both rest awaited (counted rest)))
    where
      go : (q : Packet) → q.session < 32 → Awaited w q → (in_cycle q.kind ≡ true → 0 < cycles_of q.session rest)
          → (b : Bool) → in_cycle q.kind ≡ b → Awaited v q
      go q l a f true t = let u = stays q.session l (f t) in awaited_kept w v q u.0 u.1 a
      go q l a f false t = not_awaited v q t

  pub cycle_after : ((s : ℕ) → s < 32 → cycles_of s rest + cycles_of s sent ≤ 1)
      → ((s : ℕ) → s < 32 → is_idle (source_of v s).mu ≡ true → cycles_of s rest + cycles_of s sent ≡ 0)
      → Every (Awaited v) sent
      → Cycle v
  cycle_after one idle new = record {
    one = λ s l. omega (arith, one s l, total s);
    idle = λ s l t. total s ∙ idle s l t;
    awaited = subst (Every (Awaited v)) (sym packets) (every_append rest sent rest_awaited new);
  }
    where
      total : (s : ℕ) → cycles_of s (packets_of v) ≡ cycles_of s rest + cycles_of s sent
      total s = subst (λ (l : List Packet). cycles_of s l ≡ cycles_of s rest + cycles_of s sent) (sym packets) (cycles_append s rest sent)
