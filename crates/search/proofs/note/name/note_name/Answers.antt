-- `note_name`, case by case: too many before, known there and valid now or as it was, no room, one row more. Assumes nothing.
use Rattle.std.proofs.Common.{refl, arith}
use Rattle.lent.specs.Parts.{bytes_of}
use Rattle.tables.specs.by_name.NamedLaws.{bucket-small}
use Rattle.tables.specs.by_name.Tables.{table}
use Rattle.tables.specs.by_name.OneLaws.{takes-over, takes-known, found-is, takes-new, takes-lacks}
use Rattle.search_rules.specs.Search.{Noting, note}
use Rattle.search_rules.specs.SearchRows.{noted_sheet}
use Rattle.search_rules.proofs.FindableLaws.{noted-reads}
use Rattle.search.specs.note.NotedNameLaws.{note-new, note-grows, note-single, note-invalid, takes-valid}
use Rattle.search.proofs.note.name.note_name.Goals as goal

pub returns-then-f : goal.returns-then-f
returns-then-f c =
    let new : Noting = record { target = c.args.target; name = c.args.name; valid = c.args.valid } in
    let a = c.args in
    takes-over noted_sheet a.library.now noted-reads (note a.library.now) (new) {t = table a.noted.now a.heads.now a.f}
    c.if-f.true (note-grows a.library.now (new)) (note-single a.library.now (new))

pub overflow_add-shared : goal.overflow_add-shared
overflow_add-shared c =
    omega (arith, c.bucket-shared.ensures, bucket-small c.args.target (bytes_of c.args.library.now c.args.name))

pub returns-then-valid : goal.returns-then-valid
returns-then-valid c =
    let new : Noting = record { target = c.args.target; name = c.args.name; valid = c.args.valid } in
    let a = c.args in
    takes-valid a.library.now (new) a.noted.now a.heads.now a.f c.if-f.false c.find-there.result
    (found-is noted_sheet a.library.now noted-reads (note a.library.now) (new) a.noted.now a.heads.now a.f c.if-f.false
    c.bucket-shared.result c.head_at-alike.result c.find-there.result c.bucket-shared.ensures c.head_at-alike.ensures c.find-there.ensures)
    c.if-there-ne0.true c.if-valid.true c.validate.new.m c.validate.ensures

pub returns-else-valid : goal.returns-else-valid
returns-else-valid c =
    let new : Noting = record { target = c.args.target; name = c.args.name; valid = c.args.valid } in
    let a = c.args in
    takes-known noted_sheet a.library.now noted-reads (note a.library.now) (new) a.noted.now a.heads.now a.f
    c.if-f.false c.bucket-shared.result c.head_at-alike.result c.find-there.result
    c.bucket-shared.ensures c.head_at-alike.ensures c.find-there.ensures c.if-there-ne0.true (note-invalid a.library.now (new) c.if-valid.false)

pub returns-then-more : goal.returns-then-more
returns-then-more c =
    let new : Noting = record { target = c.args.target; name = c.args.name; valid = c.args.valid } in
    let a = c.args in
    takes-lacks noted_sheet a.library.now noted-reads (note a.library.now) (new) a.noted.now a.heads.now a.f
    c.if-f.false c.bucket-shared.result c.head_at-alike.result c.find-there.result
    c.bucket-shared.ensures c.head_at-alike.ensures c.find-there.ensures c.if-there-ne0.false (note-new a.library.now (new))
    c.head_at-link.result c.head_at-link.ensures c.append-more.new.m a.heads.now
    c.append-more.result c.append-more.ensures.0 c.append-more.ensures.1 c.if-more.true refl

pub returns : goal.returns
returns c =
    let new : Noting = record { target = c.args.target; name = c.args.name; valid = c.args.valid } in
    let a = c.args in
    takes-new noted_sheet a.library.now noted-reads (note a.library.now) (new) a.noted.now a.heads.now a.f
    c.if-f.false c.bucket-shared.result c.head_at-alike.result c.find-there.result
    c.bucket-shared.ensures c.head_at-alike.ensures c.find-there.ensures c.if-there-ne0.false (note-new a.library.now (new))
    c.head_at-link.result c.head_at-link.ensures c.append-more.new.m c.set_heads.new.heads
    c.append-more.result c.append-more.ensures.0 c.append-more.ensures.1 c.if-more.false c.set_heads.ensures
