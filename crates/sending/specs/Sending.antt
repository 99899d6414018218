-- What a step sends, and whose turn it is (01, "The tasks"): packets go to the end of the list in order of sending, each to the next hop on its way.
-- w are the words.
-- Assumes nothing: definitions.
use Rattle.std.specs.Prelude.{Bool, cond, not, ◌&&◌, List, ℕ, ◌+◌, ◌-◌, eqb, None, Option, Some}
use Rattle.records.specs.Format.{all}
use Rattle.sessions.specs.Set.{members, put, walk}
use Rattle.table.specs.Words.{appended, hop_of, packet_of}
use Rattle.tasks.specs.declared.Burst.{Burst}
use Rattle.tasks.specs.declared.Burst.TheVariants as burst
use Rattle.tasks.specs.declared.Kind.{Kind}
use Rattle.tasks.specs.declared.Kind.TheVariants as kind
use Rattle.tasks.specs.declared.Packet.{Packet}
use Rattle.tasks.specs.Packets.{goes_down, same_way}

-- the hop after h, downstream or upstream
abbrev pub next_hop : Bool → ℕ → ℕ
next_hop down h = cond down (h + 1) (h - 1)

-- a packet of session s, sent from hop h
abbrev pub sent_from : ℕ → ℕ → Kind → Packet
sent_from s h k = record { session = s; hop = next_hop (goes_down k) h; down = goes_down k; kind = k }

-- at most one packet of the session itself
abbrev pub send_on_of : List ℕ → ℕ → ℕ → Option Kind → List ℕ
send_on_of w s h None = w
send_on_of w s h (Some k) = appended w (sent_from s h k)

abbrev pub one_if : Option Kind → ℕ
one_if None = 0
one_if (Some k) = 1

abbrev pub burst_kind : Burst → Kind
burst_kind burst.Update = kind.Update
burst_kind burst.Bottleneck = kind.Bottleneck

-- link e sends one packet to session r
unfoldable pub send_up_of : ℕ → Burst → List ℕ → ℕ → List ℕ
send_up_of e b w r = appended w (sent_from r (hop_of w r e) (burst_kind b))

-- and one to each session of a set: "A "for each" goes by rising session number"
unfoldable pub send_all_of : List ℕ → ℕ → Burst → ℕ → List ℕ
send_all_of w e b to = walk (send_up_of e b) w (members to)

-- the sessions of a set whose path has link e: to no other can link e send. In a table that passes the test of refusal 14 all of them have it
-- (`passes_burst_on_path`); an entry off its session's path can come about only from a handed table with a Join and no Leave behind it of a session
-- that has left
abbrev pub add_on_path : List ℕ → ℕ → ℕ → ℕ → ℕ
add_on_path w e a r = cond (eqb (hop_of w r e) 0) a (put r a)

unfoldable pub on_path_of : List ℕ → ℕ → ℕ → ℕ
on_path_of w e to = walk (add_on_path w e) 0 (members to)

-- 01: "it is out of turn if an earlier packet has the same session, hop and direction"
abbrev pub same_lane : Packet → Packet → Bool
same_lane p q = eqb p.session q.session && (eqb p.hop q.hop && same_way p.down q.down)

unfoldable pub in_turn_of : List ℕ → ℕ → Bool
in_turn_of w i = all i (λ j. not (same_lane (packet_of w j) (packet_of w i)))

-- none of the first n packets is one of session s
unfoldable pub none_of : List ℕ → ℕ → ℕ → Bool
none_of w s n = all n (λ i. not (eqb (packet_of w i).session s))
