-- What more holds of every table that is reached, of the packets of probe cycles (01, "The tasks"): each session has at most one in flight, none
-- where its source is idle, and at the links behind it the session waits for a response. w are the words of the table.
-- Assumes nothing: definitions.
use Rattle.std.specs.Prelude.{cond, true, ◌&&◌, List, [], ◌∷◌, ◌≡◌, ℕ, ◌+◌, ◌<◌, ◌≤◌, eqb}
use Rattle.links.specs.Links.{is_idle}
use Rattle.soundness.specs.LinkDid.{is_join}
use Rattle.soundness.specs.ProbeCycle.{Waiting, in_cycle}
use Rattle.soundness.specs.Sound.{Held}
use Rattle.table.specs.Words.{hop_of, packets_of, place_of, source_of}
use Rattle.table.specs.Codes.{bit_of}
use Rattle.tasks.specs.declared.Kind.{Kind}
use Rattle.tasks.specs.declared.Packet.{Packet}
use Rattle.tasks.specs.Packets.{goes_down}
use Rattle.reachable.specs.Invariant.{Every}

-- 1 where a packet of session r and kind k is of the probe cycle of session s, else 0
abbrev pub cycle_of : ℕ → ℕ → Kind → ℕ
cycle_of s r k = bit_of (in_cycle k && eqb r s)

-- how many packets of a list are of the probe cycle of session s
unfoldable pub cycles_of : ℕ → List Packet → ℕ
cycles_of s [] = 0
cycles_of s (q ∷ l) = cycle_of s q.session q.kind + cycles_of s l

-- the hops below this one are behind a packet: it has passed them on its way down, or it is still to reach them on its way up
abbrev pub front_of : Packet → ℕ
front_of q = cond (goes_down q.kind) q.hop (q.hop + 1)

-- no link from a Join's hop on holds its session, and at the links behind a packet of the probe cycle that hold its session it waits for a response
pub record Awaited (w : List ℕ) (q : Packet) : Type 0 where
  pub new : is_join q.kind ≡ true → (e : ℕ) → e < 64 → Held (place_of w e) q.session → hop_of w q.session e < q.hop
  pub waits : in_cycle q.kind ≡ true → (e : ℕ) → e < 64 → Held (place_of w e) q.session → hop_of w q.session e < front_of q
      → Waiting (place_of w e) q.session

pub record Cycle (w : List ℕ) : Type 0 where
  pub one : (s : ℕ) → s < 32 → cycles_of s (packets_of w) ≤ 1
  pub idle : (s : ℕ) → s < 32 → is_idle (source_of w s).mu ≡ true → cycles_of s (packets_of w) ≡ 0
  pub awaited : Every (Awaited w) (packets_of w)
