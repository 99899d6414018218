-- What a step sends, as a list of packets, and the table after it.
-- Assumes nothing.
use Rattle.std.specs.Prelude.{None, Option, Some}
use mathlib.Core.List.{List, [], ◌∷◌, ◌++◌, append_assoc, append-nil}
use mathlib.Core.Path.{◌≡◌, ap, ap₂, refl, sym, ◌∙◌}
use Prim.Native.Nat.{ℕ, suc, ◌+◌, ◌<◌, ◌≤◌}
use native.Mathlib.Omega.{arith}
use lib.ListN.{length}
use Rattle.sending.specs.Sending.{burst_kind, one_if, send_on_of, send_up_of, sent_from}
use Rattle.sessions.specs.Set.{walk}
use Rattle.table.specs.Values.{PacketWithin}
use Rattle.table.specs.Words.{appended, count_of, hop_from, hop_of, packets_of, path_of}
use Rattle.ranges.proofs.FitsMeans.{packet_within}
use Rattle.table.proofs.Packets.{count_appended, packets_appended}
use Rattle.table.proofs.Unchanged.{path_after_appended}
use Rattle.tasks.specs.declared.Burst.{Burst}
use Rattle.tasks.specs.declared.Kind.{Kind}
use Rattle.tasks.specs.declared.Packet.{Packet}
use Rattle.reachable.specs.Invariant.{Every, Fits, also, none}
use Rattle.reachable.proofs.FitsKept.{fits_appended}
use Rattle.reachable.proofs.Lines.{SameLines, lines_appended, lines_refl, lines_trans}

-- THE PACKETS ---------------------------------------------------------------------------------------------------------

-- at most one of the session itself
abbrev pub onward_to : ℕ → ℕ → Option Kind → List Packet
onward_to s h None = []
onward_to s h (Some k) = sent_from s h k ∷ []

-- one from link e to each session of a list
unfoldable pub burst_to : List ℕ → ℕ → Kind → List ℕ → List Packet
burst_to w e k [] = []
burst_to w e k (r ∷ l) = sent_from r (hop_of w r e) k ∷ burst_to w e k l

-- packets one after the other
unfoldable pub appended_all : List ℕ → List Packet → List ℕ
appended_all u [] = u
appended_all u (q ∷ l) = appended_all (appended u q) l

pub appended_both : (u : List ℕ) (xs ys : List Packet) → appended_all (appended_all u xs) ys ≡ appended_all u (xs ++ ys)
unfolding appended_all
appended_both u [] ys = refl
appended_both u (x ∷ xs) ys = appended_both (appended u x) xs ys

pub sends_on : (u : List ℕ) (s h : ℕ) (o : Option Kind) → send_on_of u s h o ≡ appended_all u (onward_to s h o)
unfolding appended_all
sends_on u s h None = refl
sends_on u s h (Some k) = refl

pub length_onward : (s h : ℕ) (o : Option Kind) → length (onward_to s h o) ≡ one_if o
length_onward s h None = refl
length_onward s h (Some k) = refl

pub length_burst : (w : List ℕ) (e : ℕ) (k : Kind) (l : List ℕ) → length (burst_to w e k l) ≡ length l
unfolding burst_to
length_burst w e k [] = refl
length_burst w e k (r ∷ l) = ap suc (length_burst w e k l)

-- a property of every session of a list
pub data Each (P : ℕ → Type 0) : List ℕ → Type 0 where
  nobody : Each P []
  more : {r : ℕ} {l : List ℕ} → P r → Each P l → Each P (r ∷ l)

abbrev pub Sessions : List ℕ → Type 0
Sessions l = Each (λ r. r < 32) l

-- packets change no path
pub burst_same : (w v : List ℕ) (e : ℕ) (k : Kind) (l : List ℕ) → Sessions l → ((r : ℕ) → r < 32 → path_of v r ≡ path_of w r) → burst_to v e k l ≡ burst_to w e k l
unfolding burst_to
burst_same w v e k [] nobody f = refl
burst_same w v e k (r ∷ l) (more h g) f =
    ap₂ (λ (n : ℕ) (m : List Packet). sent_from r n k ∷ m) (ap (λ (p : List ℕ). hop_from 1 p e) (f r h)) (burst_same w v e k l g f)

pub sends_each : (u : List ℕ) (e : ℕ) (b : Burst) (l : List ℕ) → Sessions l → walk (send_up_of e b) u l ≡ appended_all u (burst_to u e (burst_kind b) l)
unfolding walk send_up_of appended_all burst_to
sends_each u e b [] nobody = refl
sends_each u e b (r ∷ l) (more h g) =
    let q = sent_from r (hop_of u r e) (burst_kind b) in
    sends_each (appended u q) e b l g
    ∙ ap (appended_all (appended u q)) (burst_same u (appended u q) e (burst_kind b) l g (λ t k. path_after_appended u q t k))

-- THE TABLE -----------------------------------------------------------------------------------------------------------

-- v is u with the packets `rest`, and xs at the end
pub record Sent (u : List ℕ) (rest xs : List Packet) (v : List ℕ) : Type 0 where
  pub lines : SameLines u v
  pub packets : packets_of v ≡ rest ++ xs
  pub fits : Fits v

pub all_sent : (u : List ℕ) (xs : List Packet) → Fits u → count_of u + length xs ≤ 256 → Every PacketWithin xs → Sent u (packets_of u) xs (appended_all u xs)
unfolding appended_all
all_sent u [] f n none = record { lines = lines_refl u; packets = sym (append-nil (packets_of u)); fits = f }
all_sent u (x ∷ xs) f n (also o e) =
    let c : count_of u < 256 = omega arith in
    let a : count_of (appended u x) ≡ count_of u + 1 = count_appended u x f.long c in
    let r = all_sent (appended u x) xs (fits_appended u x c o f) (omega (arith, a)) e in
    record {
      lines = lines_trans (lines_appended u x f.long) r.lines;
      packets = r.packets
          ∙ ap (λ (l : List Packet). l ++ xs) (packets_appended u x f.long c (packet_within o))
          ∙ append_assoc (packets_of u) (x ∷ []) xs;
      fits = r.fits;
    }
