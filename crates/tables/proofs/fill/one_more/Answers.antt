-- `one_more`: whether the row fits, by a division and no product that could wrap. Assumes nothing.
use Rattle.std.proofs.Common.{sym, arith}
use Rattle.lent.specs.RowLaws.{row_fits, row-lacks}
use Rattle.tables.specs.fill.FilledRowLaws.{stays-over, no-width, more-fits, more-lacks, few-rows}
use Rattle.tables.proofs.fill.one_more.Goals as goal

pub returns-then-f : goal.returns-then-f
returns-then-f c =
    let a = c.args in sym (stays-over a.f a.width a.len c.if-f.true)

pub returns-then-width-eq0 : goal.returns-then-width-eq0
returns-then-width-eq0 c =
    let a = c.args in sym (no-width a.f a.width a.len c.if-f.false c.if-width-eq0.true)

pub overflow_add-result : goal.overflow_add-result
overflow_add-result c =
    let a = c.args in omega
    (arith, few-rows a.f.rows a.width (omega arith) (row_fits a.len a.width a.f.rows (omega arith) c.if-f-len.true))

pub returns-then-f-len : goal.returns-then-f-len
returns-then-f-len c =
    let a = c.args in sym
    (more-fits a.f a.width a.len c.if-f.false c.if-width-eq0.false
    (row_fits a.len a.width a.f.rows (omega arith) c.if-f-len.true))

pub returns : goal.returns
returns c =
    let a = c.args in sym
    (more-lacks a.f a.width a.len c.if-f.false c.if-width-eq0.false (row-lacks a.len a.width a.f.rows (omega arith) c.if-f-len.false))
