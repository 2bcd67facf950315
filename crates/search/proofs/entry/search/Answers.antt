-- `search`: too long an image, too few rows, or all rows. Assumes nothing.
use Rattle.std.proofs.Common.{◌∙◌, arith}
use Rattle.image.specs.View.{stretches_in, view}
use Rattle.image.proofs.ViewLaws.{view-length}
use Rattle.search.specs.visit.Visits.{Stored, stored}
use Rattle.search.specs.Outcome.{SearchLists}
use Rattle.search.specs.EndLaws.{long-found, lacks-found, done-found, zeroed-same}
use Rattle.search.proofs.entry.search.Goals as goal

pub returns-then-image-gt-LONGEST_IMAGE : goal.returns-then-image-gt-LONGEST_IMAGE
returns-then-image-gt-LONGEST_IMAGE c blank blank₂ =
    let rows : Stored = stored c.args.segments.now c.args.references.now c.args.symbols.now c.args.bytes.now c.args.masks.now in
    let lent : SearchLists = record { stored = rows; placed = c.args.placed.now; noted = c.args.noted.now } in
    let a = c.args in
    long-found (view a.image.now (stretches_in a.s.now)) a.asked a.library.now a.n (lent) a.positions.now a.goals.now
    (omega (arith, c.if-image-gt-LONGEST_IMAGE.true, view-length a.image.now (stretches_in a.s.now)))

pub fill_rows-f-requires : goal.fill_rows-f-requires
fill_rows-f-requires c =
    omega (arith, c.if-image-gt-LONGEST_IMAGE.false)

pub returns-then-lacks_room : goal.returns-then-lacks_room
returns-then-lacks_room c blank blank₂ =
    let rows : Stored = stored c.args.segments.now c.args.references.now c.args.symbols.now c.args.bytes.now c.args.masks.now in
    let lent : SearchLists = record { stored = rows; placed = c.args.placed.now; noted = c.args.noted.now } in
    let a = c.args in
    let f = c.fill_rows-f in
    let v = f.ensures blank blank₂ in
    lacks-found (view a.image.now (stretches_in a.s.now)) a.asked a.library.now a.n (lent)
    (omega (arith, c.if-image-gt-LONGEST_IMAGE.false, view-length a.image.now (stretches_in a.s.now)))
    f.new.placed f.new.positions
    f.new.noted f.new.goals f.result v
    c.lacks_room.result c.lacks_room.ensures c.if-lacks_room.true
    (c.clear_all.ensures ∙ zeroed-same (rows) a.placed.now a.noted.now f.new.placed
    f.new.noted f.auto.placed f.auto.noted)

pub returns : goal.returns
returns c blank blank₂ =
    let rows : Stored = stored c.args.segments.now c.args.references.now c.args.symbols.now c.args.bytes.now c.args.masks.now in
    let lent : SearchLists = record { stored = rows; placed = c.args.placed.now; noted = c.args.noted.now } in
    let a = c.args in
    let f = c.fill_rows-f in
    done-found (view a.image.now (stretches_in a.s.now)) a.asked a.library.now a.n (lent)
    (omega (arith, c.if-image-gt-LONGEST_IMAGE.false, view-length a.image.now (stretches_in a.s.now)))
    f.new.placed f.new.positions
    f.new.noted f.new.goals f.result (f.ensures blank blank₂)
    c.lacks_room.result c.lacks_room.ensures c.if-lacks_room.false
