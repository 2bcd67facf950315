-- `put_name` meets its contract: a name between its brackets, and blanks. Assumes nothing.
use native.Mathlib.Omega.{arith}
use Rattle.printing.specs.PieceLaws.{name-length}
use Rattle.printing.specs.PutLaws.{name-put}
use Rattle.printing.proofs.pieces.put_name.Goals as goal

pub put_byte-from-requires : goal.put_byte-from-requires
put_byte-from-requires c =
    let a = c.args in omega (arith, name-length a.grade a.name.now)

pub put-behind-requires : goal.put-behind-requires
put-behind-requires c =
    let a = c.args in omega (arith, name-length a.grade a.name.now)

pub put_byte-end-requires : goal.put_byte-end-requires
put_byte-end-requires c =
    let a = c.args in omega (arith, name-length a.grade a.name.now)

pub put_blanks-requires : goal.put_blanks-requires
put_blanks-requires c =
    let a = c.args in omega (arith, name-length a.grade a.name.now, c.blanks.ensures)

pub returns : goal.returns
returns c =
    let a = c.args in
    name-put a.grade a.name.now c.opening.ensures c.closing.ensures c.blanks.ensures
    c.put_byte-from.ensures c.put-behind.ensures
    c.put_byte-end.ensures c.put_blanks.ensures
