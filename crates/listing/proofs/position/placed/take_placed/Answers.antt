-- `take_placed`, case by case. Assumes nothing.
use mathlib.Core.Path.{sym, subst, ◌∙◌}
use Prim.Native.Nat.{ℕ}
use Rattle.lent.specs.Lists.{one}
use Rattle.image.specs.View.{stretches_in, view}
use Rattle.listing.specs.grade.Grades.{row_grade}
use Rattle.listing.specs.position.Bests.{Meets, placed_lines}
use Rattle.listing.specs.position.RowsAtLaws.{meets-none, meets-this}
use Rattle.listing.specs.position.RowLines.{placed-elsewhere, placed-dropped, placed-this}
use Rattle.listing.proofs.position.placed.take_placed.Goals as goal

pub returns-then-row-at : goal.returns-then-row-at
returns-then-row-at c =
    let graded : ℕ = row_grade (view c.args.image.now (stretches_in c.args.s.now)) c.args.found.now.library.now c.args.rules c.args.found.now.segments.now
    c.args.found.now.references.now c.args.found.now.n c.args.found.now.placed.now c.args.found.now.positions.now c.args.found.now.noted.now c.args.found.now.goals.now c.args.row in
    meets-none c.args.from (placed_lines c.args.at (graded) c.args.row) c.args.m.now c.args.b
    (placed-elsewhere c.args.at (graded) c.args.row c.if-row-at.true)

pub returns-then-grade-eq0 : goal.returns-then-grade-eq0
returns-then-grade-eq0 c =
    let graded : ℕ = row_grade (view c.args.image.now (stretches_in c.args.s.now)) c.args.found.now.library.now c.args.rules c.args.found.now.segments.now
    c.args.found.now.references.now c.args.found.now.n c.args.found.now.placed.now c.args.found.now.positions.now c.args.found.now.noted.now c.args.found.now.goals.now c.args.row in
    let a = c.args in
    meets-none a.from (placed_lines a.at (graded) a.row) a.m.now a.b
    (placed-dropped a.at (graded) a.row c.if-row-at.false (sym c.grade-grade.ensures ∙ c.if-grade-eq0.true))

pub take_in-requires : goal.take_in-requires
take_in-requires c =
    c.requires

pub returns : goal.returns
returns c =
    let graded : ℕ = row_grade (view c.args.image.now (stretches_in c.args.s.now)) c.args.found.now.library.now c.args.rules c.args.found.now.segments.now
    c.args.found.now.references.now c.args.found.now.n c.args.found.now.placed.now c.args.found.now.positions.now c.args.found.now.noted.now c.args.found.now.goals.now c.args.row in
    let a = c.args in
    meets-this a.from (placed_lines a.at (graded) a.row) (record { address = a.at; grade = graded; name = a.row.name })
    a.m.now c.take_in.new.m a.b c.take_in.result
    (placed-this a.at (graded) a.row c.if-row-at.false (λ z. c.if-grade-eq0.false (c.grade-grade.ensures ∙ z)))
    (subst (λ g. Meets a.from (one (record { address = a.at; grade = g; name = a.row.name })) a.m.now a.b c.take_in.new.m
    c.take_in.result) c.grade-grade.ensures c.take_in.ensures)
