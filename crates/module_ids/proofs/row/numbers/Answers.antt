-- `numbers`: a row that is whole is read, any other is zeros. Assumes nothing.
use Prim.Native.Nat.{◌*◌}
use native.Mathlib.Nat.{add-zero}
use native.Mathlib.Omega.{arith}
use Rattle.lent.specs.RowLaws.{cell-there, cell-lacks}
use Rattle.module_ids.proofs.row.numbers.Goals as goal

pub returns-then-at-table : goal.returns-then-at-table
returns-then-at-table c =
    let a = c.args in
    let h = c.if-at-table.true in
    rw (
      cell-there 3 a.table.now a.id.0 0 h (omega arith),
      cell-there 3 a.table.now a.id.0 1 h (omega arith),
      cell-there 3 a.table.now a.id.0 2 h (omega arith),
      add-zero (a.id.0 * 3),
    )

pub returns : goal.returns
returns c =
    let a = c.args in
    let h = c.if-at-table.false in
    rw (cell-lacks 3 a.table.now a.id.0 0 h, cell-lacks 3 a.table.now a.id.0 1 h, cell-lacks 3 a.table.now a.id.0 2 h)
