-- `tag_at` reads what the definition says, cell by cell. Assumes nothing.
use Rattle.tables.specs.by_name.TagLaws.{tag-made, tag-none}
use Rattle.tables.proofs.by_name.tag_at.Goals as goal

pub returns-then-width-eq0 : goal.returns-then-width-eq0
returns-then-width-eq0 c =
    let a = c.args in tag-none a.width a.m.now a.i c.if-width-eq0.true

pub returns : goal.returns
returns c =
    let a = c.args in tag-made a.width a.m.now a.i
    c.cell.ensures c.cell-2.ensures c.cell-3.ensures c.cell-4.ensures
