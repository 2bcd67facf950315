-- `take_noted`, case by case. Assumes nothing.
use mathlib.Core.Path.{refl}
use Rattle.listing.specs.grade.GradeLaws.{turned-true, turned-false}
use Rattle.listing.specs.position.Bests.{noted_lines}
use Rattle.listing.specs.position.RowsAtLaws.{meets-none, meets-this}
use Rattle.listing.specs.position.RowLines.{noted-elsewhere, noted-invalid, noted-this}
use Rattle.listing.proofs.position.noted.take_noted.Goals as goal

pub returns-then-row-at : goal.returns-then-row-at
returns-then-row-at c =
    meets-none c.args.from (noted_lines c.args.at c.args.row) c.args.m.now c.args.b (noted-elsewhere c.args.at c.args.row c.if-row-at.true)

pub returns-then-not-row : goal.returns-then-not-row
returns-then-not-row c =
    let a = c.args in
    meets-none a.from (noted_lines a.at a.row) a.m.now a.b (noted-invalid a.at a.row c.if-row-at.false (turned-true a.row.valid refl c.if-not-row.true))

pub take_in-requires : goal.take_in-requires
take_in-requires c =
    c.requires

pub returns : goal.returns
returns c =
    let a = c.args in
    meets-this a.from (noted_lines a.at a.row) (record { address = a.at; grade = 0; name = a.row.name }) a.m.now
    c.take_in.new.m a.b c.take_in.result
    (noted-this a.at a.row c.if-row-at.false (turned-false a.row.valid refl c.if-not-row.false)) c.take_in.ensures
