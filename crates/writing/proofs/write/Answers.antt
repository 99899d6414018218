-- `writing::write` meets its contract.
-- Assumes nothing.
use Rattle.std.specs.Prelude.{Ok}
use mathlib.Core.List.{List}
use mathlib.Core.Path.{ap, ap₂, sym, ◌∙◌}
use Prim.Native.Nat.{ℕ, ◌≤◌}
use native.Mathlib.Omega.{arith}
use lib.ListN.{length}
use lib.Seq.{length-sets, sets}
use Rattle.sessions.proofs.Counts.{count_most}
use Rattle.writing.specs.Writing.{link_records, records_of, session_records}
use Rattle.writing.specs.Written.{Written}
use Rattle.writing.proofs.Lengths.{links_long, output_long, sessions_long}
use Rattle.writing.proofs.Whole.{both, enough, too_short}
use Rattle.writing.proofs.write.Goals as goal

pub returns-then-out-link_bytes : goal.returns-then-out-link_bytes
returns-then-out-link_bytes c =
    let a = c.args in
    let short =
    too_short a.d a.out.now (omega (arith, c.if-out-link_bytes.true, c.size-sessions.ensures, c.size-links.ensures, output_long a.d)) in
    (ap (λ (o : Written). o.answer) (sym short), ap (λ (o : Written). o.bytes) (sym short))

pub put_links-requires : goal.put_links-requires
put_links-requires c =
    let a = c.args in (
      omega arith,
      omega (arith, c.if-out-link_bytes.false, c.size-links.ensures, links_long a.d.links a.d.capacity),
      c.requires.0,
    )

pub put_sessions-requires : goal.put_sessions-requires
put_sessions-requires c =
    let a = c.args in
    let p = c.requires in
    let links = c.size-links.ensures in (
      omega (arith, links, count_most 64 a.d.links),
      omega (
        arith,
        links,
        c.size-sessions.ensures,
        c.if-out-link_bytes.false,
        sessions_long a.d.sessions a.d.access a.d.maximum a.d.path,
        ap length c.put_links.ensures,
        length-sets a.out.now 0 (link_records a.d.links a.d.capacity),
      ),
      p.1,
      p.2,
    )

pub returns : goal.returns
returns c =
    let a = c.args in
    let links = c.size-links.ensures in
    let sessions = c.size-sessions.ensures in
    let fits : length (records_of a.d) ≤ length a.out.now = omega (arith, c.if-out-link_bytes.false, links, sessions, output_long a.d) in
    let whole = enough a.d a.out.now fits in (
      ap Ok (omega (arith, links, sessions, output_long a.d)) ∙ ap (λ (o : Written). o.answer) (sym whole),
      c.put_sessions.ensures
          ∙ ap₂ (λ (l : List ℕ) (k : ℕ). sets l k (session_records a.d.sessions a.d.access a.d.maximum a.d.path))
          c.put_links.ensures
          (omega (arith, links, links_long a.d.links a.d.capacity))
          ∙ both a.d a.out.now fits
          ∙ ap (λ (o : Written). o.bytes) (sym whole),
    )
