-- `reading::read_full` meets its contract: the bytes of a read stand right behind those of the reads before it.
use Rattle.std.proofs.Common.{◌≡◌, ℕ, ◌+◌, ◌++◌, List, rules, drop, take, sym, ap, ◌∙◌, subst}
use Rattle.std.specs.Io.KnownBytes.{Consumes}
use Rattle.std.proofs.KnownBytes.{Consumes-trans}
use lib.Seq.{take-add}
use Rattle.reading.proofs.read_full.Goals as goal

joined : (a n : ℕ) (old new : List ℕ) → take a new ≡ take a old → take a old ++ take n (drop a new) ≡ take (a + n) new
joined a n old new front = ap (λ l. l ++ take n (drop a new)) (sym front) ∙ sym (take-add a n new)

pub loop-done-preserved : goal.loop-done-preserved
loop-done-preserved g c =
    let read = c.in_ok-n.ensures in record {
      within = search rules;
      bytes =
          subst (Consumes _ _)
          (joined c.loop-done.done c.in_ok-n.n c.loop-done.buf c.read_at.new.buf read.front)
          (Consumes-trans _ _ _ _ _ c.loop-done.invariant.bytes read.bytes);
    }
