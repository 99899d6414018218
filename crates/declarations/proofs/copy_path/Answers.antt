-- `declarations::copy_path` meets its contract.
-- Assumes nothing.
use Rattle.std.proofs.Common.{rules, arith, ◌∙◌, sym, ◌+◌, ◌-◌, ◌*◌}
use Rattle.std.specs.List.{slice_range}
use Rattle.std.proofs.lemmas.Slice.{put_mid-paste}
use Rattle.declarations.proofs.Copied.{copied_pasted, eight_bytes, eight_long}
use Rattle.declarations.proofs.copy_path.Goals as goal

pub returns : goal.returns
returns c =
    let a = c.args in
    let from = a.t * 8 in
    let b = slice_range a.s.now a.at (a.at + 8) in
    put_mid-paste from (from + 8 - from) a.path.now c.copy_from_slice.new.self b 8 c.copy_from_slice.ensures.after (omega arith) (sym (eight_long a.s.now a.at c.requires.1))
    ∙ sym (copied_pasted 8 a.path.now from a.s.now a.at b (omega (arith, eight_long a.s.now a.at c.requires.1)) (omega arith) (eight_bytes a.s.now a.at))
