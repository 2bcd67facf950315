-- `put_line` meets its contract: the pieces, one after another. Assumes nothing.
use native.Mathlib.Omega.{arith}
use Rattle.printing.specs.PutLaws.{line-length, line-put}
use Rattle.printing.proofs.pieces.put_line.Goals as goal

pub put_address-a-requires : goal.put_address-a-requires
put_address-a-requires c =
    let a = c.args in omega (arith, line-length a.library.now a.line c.name-name.ensures)

pub put_blanks-b-requires : goal.put_blanks-b-requires
put_blanks-b-requires c =
    let a = c.args in omega
    (arith, line-length a.library.now a.line c.name-name.ensures)

pub put_name-c-requires : goal.put_name-c-requires
put_name-c-requires c =
    let a = c.args in omega (arith, line-length a.library.now a.line c.name-name.ensures)

pub put_blanks-d-requires : goal.put_blanks-d-requires
put_blanks-d-requires c =
    let a = c.args in omega
    (arith, line-length a.library.now a.line c.name-name.ensures)

pub put_remark-e-requires : goal.put_remark-e-requires
put_remark-e-requires c =
    let a = c.args in omega (arith, line-length a.library.now a.line c.name-name.ensures)

pub put_byte-requires : goal.put_byte-requires
put_byte-requires c =
    let a = c.args in omega (arith, line-length a.library.now a.line c.name-name.ensures)

pub returns : goal.returns
returns c =
    let a = c.args in
    line-put a.library.now a.line c.name-name.ensures
    c.put_address-a.ensures c.put_blanks-b.ensures
    c.put_name-c.ensures
    c.put_blanks-d.ensures c.put_remark-e.ensures c.put_byte.ensures
