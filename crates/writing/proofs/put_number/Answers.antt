-- `writing::put_number` meets its contract.
-- Assumes nothing.
use mathlib.Core.Path.{◌∙◌}
use native.Mathlib.Omega.{arith}
use Rattle.writing.specs.Writing.{bytes4}
use Rattle.writing.proofs.Laying.{big_endian, put_part}
use Rattle.writing.proofs.put_number.Goals as goal

pub returns : goal.returns
returns c =
    let a = c.args in
    let bytes = c.copy_from_slice.ensures.after ∙ c.to_be_bytes-bytes.ensures ∙ big_endian a.n c.requires.1 in
    put_part a.out.now c.copy_from_slice.new.self (bytes4 a.n) a.at _ bytes (omega arith) c.requires.0
