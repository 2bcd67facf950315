-- `find` goes two ways, by whether the rows are whole. Assumes nothing.
use Rattle.std.proofs.Common.{sym, arith}
use Rattle.tables.specs.by_name.FollowLaws.{follow-none}
use Rattle.tables.proofs.by_name.find.Goals as goal

pub returns-then-link-eq0 : goal.returns-then-link-eq0
returns-then-link-eq0 c =
    let a = c.args in
    sym (follow-none a.library.now a.width a.m.now a.key a.name a.link a.link c.if-link-eq0.true)

pub find_whole-requires : goal.find_whole-requires
find_whole-requires c =
    let some = c.if-link-eq0.false in
    let rows = c.whole_rows.ensures in
    (omega (arith, some), record { whole = omega (arith, c.if-whole_rows-link.false, rows.whole); wide = λ l. rows.wide (omega (arith, l, c.if-whole_rows-link.false)) })
