-- `cell` gives what the definition says: a row that is whole is within memory. Assumes nothing.
use Rattle.std.proofs.Common.{sym, length, arith}
use Rattle.lent.specs.RowLaws.{row_fits, row-lacks, cell-there, cell-past, cell-lacks}
use Rattle.lent.proofs.rows.cell.Goals as goal
use Rattle.lent.proofs.rows.cell.Goals.{else-j-width-via-then-j-width+else-i-m, else-j-width-via-else-j-width}

pub returns-then-i-m : goal.returns-then-i-m
returns-then-i-m c =
    let a = c.args in
    sym (cell-there a.width a.m.now a.i a.j (row_fits (length a.m.now) a.width a.i (omega arith) c.if-i-m.true) c.if-j-width.true)

pub returns-else-j-width : goal.returns-else-j-width
returns-else-j-width c =
    let a = c.args in
    elim c.else-j-width.branch [
      | else-j-width-via-then-j-width+else-i-m w ↦ sym (cell-lacks a.width a.m.now a.i a.j (row-lacks (length a.m.now) a.width a.i (omega arith) w.if-i-m.false))
      | else-j-width-via-else-j-width w ↦ sym (cell-past a.width a.m.now a.i a.j w.if-j-width.false)
    ]
