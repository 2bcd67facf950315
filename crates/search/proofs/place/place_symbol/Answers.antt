-- `place_symbol`, case by case: too many before, past the end, known there, no room, one row more. Assumes nothing.
use Rattle.std.proofs.Common.{refl, arith}
use Rattle.lent.specs.Parts.{bytes_of}
use Rattle.tables.specs.by_name.NamedLaws.{bucket-small}
use Rattle.tables.specs.by_name.Tables.{table}
use Rattle.tables.specs.by_name.OneLaws.{takes-nothing, takes-over, takes-known, takes-new, takes-lacks}
use Rattle.search_rules.specs.Search.{Placing, place}
use Rattle.search_rules.proofs.SearchLaws.{place-past, place-again, place-new}
use Rattle.search_rules.specs.SearchRows.{placed_sheet}
use Rattle.search_rules.proofs.FindableLaws.{placed-reads}
use Rattle.search.specs.place.PlacedSymbols.{placing_of}
use Rattle.search.specs.place.PlacedSymbolLaws.{place-grows, place-single}
use Rattle.search.proofs.place.place_symbol.Goals as goal
use Rattle.search.proofs.place.place_symbol.Goals.{then-f-via-then-f, then-f-via-else-f+then-end-base, then-f-via-else-f+else-end-base+then-end-base-2}

pub returns-then-f : goal.returns-then-f
returns-then-f c =
    let new : Placing = placing_of c.args.number c.args.base c.args.valid c.args.y in
    let a = c.args in
    elim c.then-f.branch [
      | then-f-via-then-f w ↦
          takes-over placed_sheet a.library.now placed-reads (place a.library.now a.end) (new)
          {t = table a.placed.now a.heads.now a.f} w.if-f.true (place-grows a.library.now a.end (new)) (place-single a.library.now a.end (new))
      | then-f-via-else-f+then-end-base w ↦
          takes-nothing placed_sheet a.library.now placed-reads (place a.library.now a.end) (new)
          {t = table a.placed.now a.heads.now a.f} (λ xs. place-past a.library.now a.end xs (new) (omega (arith, w.if-end-base.true)))
      | then-f-via-else-f+else-end-base+then-end-base-2 w ↦
          takes-nothing placed_sheet a.library.now placed-reads (place a.library.now a.end) (new)
          {t = table a.placed.now a.heads.now a.f} (λ xs. place-past a.library.now a.end xs (new) (omega (arith, w.if-end-base-2.true, w.if-end-base.false)))
    ]

pub overflow_add-shared : goal.overflow_add-shared
overflow_add-shared c =
    let new : Placing = placing_of c.args.number c.args.base c.args.valid c.args.y in
    omega (arith, c.bucket-shared.ensures, bucket-small (new).position (bytes_of c.args.library.now (new).name))

pub returns-then-find-ne0 : goal.returns-then-find-ne0
returns-then-find-ne0 c =
    let new : Placing = placing_of c.args.number c.args.base c.args.valid c.args.y in
    let a = c.args in
    takes-known placed_sheet a.library.now placed-reads (place a.library.now a.end) (new) a.placed.now a.heads.now a.f
    c.if-f.false c.bucket-shared.result c.head_at-alike.result c.find.result
    c.bucket-shared.ensures c.head_at-alike.ensures c.find.ensures c.if-find-ne0.true (λ xs e. place-again a.library.now a.end xs (new) e)

pub returns-then-more : goal.returns-then-more
returns-then-more c =
    let new : Placing = placing_of c.args.number c.args.base c.args.valid c.args.y in
    let a = c.args in
    takes-lacks placed_sheet a.library.now placed-reads (place a.library.now a.end) (new) a.placed.now a.heads.now a.f
    c.if-f.false c.bucket-shared.result c.head_at-alike.result c.find.result
    c.bucket-shared.ensures c.head_at-alike.ensures c.find.ensures c.if-find-ne0.false
    (λ xs e. place-new a.library.now a.end xs (new) (omega (arith, c.if-end-base-2.false, c.if-end-base.false)) e)
    c.head_at-link.result c.head_at-link.ensures c.append-more.new.m a.heads.now
    c.append-more.result c.append-more.ensures.0 c.append-more.ensures.1 c.if-more.true refl

pub returns : goal.returns
returns c =
    let new : Placing = placing_of c.args.number c.args.base c.args.valid c.args.y in
    let a = c.args in
    takes-new placed_sheet a.library.now placed-reads (place a.library.now a.end) (new) a.placed.now a.heads.now a.f
    c.if-f.false c.bucket-shared.result c.head_at-alike.result c.find.result
    c.bucket-shared.ensures c.head_at-alike.ensures c.find.ensures c.if-find-ne0.false
    (λ xs e. place-new a.library.now a.end xs (new) (omega (arith, c.if-end-base-2.false, c.if-end-base.false)) e)
    c.head_at-link.result c.head_at-link.ensures c.append-more.new.m c.set_heads.new.heads
    c.append-more.result c.append-more.ensures.0 c.append-more.ensures.1
    c.if-more.false c.set_heads.ensures
