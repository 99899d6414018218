-- A source is written and it sends: what is read of the table after it.
-- Assumes nothing.
use mathlib.Core.List.{List, ◌++◌}
use mathlib.Core.Path.{◌≡◌, ap, ◌∙◌}
use Prim.Native.Nat.{ℕ, ◌+◌, ◌<◌, ◌≤◌}
use native.Mathlib.Omega.{arith}
use lib.ListN.{length}
use Rattle.ends.specs.declared.Source.{Source}
use Rattle.table.specs.Values.{SourceWithin}
use Rattle.table.specs.Words.{count_of, hops_of, packets_of, path_of, place_of, put_source, source_of}
use Rattle.ranges.proofs.FitsMeans.{source_fits_means, source_within}
use Rattle.table.proofs.ReadBack.{source_back}
use Rattle.table.proofs.Unchanged.{count_after_source, packets_after_source, path_after_source, place_after_source, source_other}
use Rattle.tasks.specs.declared.Packet.{Packet}
use Rattle.reachable.specs.Invariant.{Every, Fits, PacketOk, Safe, active_in}
use Rattle.reachable.proofs.FitsKept.{fits_source}
use Rattle.reachable.proofs.Kept.{one_or_other}
use Rattle.reachable.proofs.Lines.{SameLines}
use Rattle.reachable.proofs.PacketLists.{every_map}
use Rattle.reachable.proofs.Sends.{Sent, all_sent, appended_all}

-- what a session that has joined keeps is in range
pub source_at : (w : List ℕ) (s : ℕ) → Safe w → s < 32 → 0 < hops_of w s → SourceWithin (source_of w s)
source_at w s i l h = source_fits_means w s (i.fits.sources s l h)

-- v is the table w, where the source of session s is z, with the packets `rest` and behind them `sent`
pub record Written (w : List ℕ) (s : ℕ) (z : Source) (rest sent : List Packet) (v : List ℕ) : Type 0 where
  pub fits : Fits v
  pub places : (e : ℕ) → e < 64 → place_of v e ≡ place_of w e
  pub paths : (r : ℕ) → r < 32 → path_of v r ≡ path_of w r
  pub source : source_of v s ≡ z
  pub others : (r : ℕ) → r < 32 → (r ≡ s → ⊥) → source_of v r ≡ source_of w r
  pub packets : packets_of v ≡ rest ++ sent

-- u is the table w, with or without a packet that was taken out
pub source_written : (w u : List ℕ) → SameLines w u → Fits u → (s : ℕ) → s < 32 → (z : Source) → SourceWithin z
    → (rest sent : List Packet)
    → packets_of u ≡ rest
    → Every (PacketOk w) sent
    → count_of u + length sent ≤ 256
    → Written w s z rest sent (appended_all (put_source u s z) sent)
source_written w u lines fits s ls z o rest sent is ok few =
    let all : Sent (put_source u s z) (packets_of (put_source u s z)) sent (appended_all (put_source u s z) sent) =
    all_sent (put_source u s z) sent (fits_source u s z ls o fits) (omega (arith, few, count_after_source u s z ls))
    (every_map sent (λ q k. k.within) ok) in
    record {
      fits = all.fits;
      places = λ e l. all.lines.place e l ∙ place_after_source u s z e ls l ∙ lines.place e l;
      paths = λ r l. all.lines.path r l ∙ path_after_source u s z r ls l ∙ lines.path r l;
      source = all.lines.source s ls ∙ source_back u s z fits.long ls (source_within o);
      others = λ r l n. all.lines.source r l ∙ source_other u s z r n ∙ lines.source r l;
      packets = all.packets ∙ ap (λ (l : List Packet). l ++ sent) (packets_after_source u s z ls ∙ is);
    }

-- where the source is as active as it was, all are
pub active_same : {w : List ℕ} {s : ℕ} {z : Source} {rest sent : List Packet} {v : List ℕ} → Written w s z rest sent v → z.active ≡ active_in w s
    → (r : ℕ) → r < 32 → active_in v r ≡ active_in w r
active_same {w} {s} {z} {rest} {sent} {v} a k r l =
    one_or_other (λ (x : ℕ). active_in v x ≡ active_in w x) s r (ap (λ (y : Source). y.active) a.source ∙ k)
    (λ n. ap (λ (y : Source). y.active) (a.others r l n))
