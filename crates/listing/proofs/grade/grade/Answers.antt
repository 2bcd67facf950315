-- `grade`, case by case. Assumes nothing.
use mathlib.Core.Path.{◌≡◌, sym, ◌∙◌}
use mathlib.Core.Bool.{Bool, true, ◌||◌}
use Rattle.std.proofs.lemmas.Bool.{not-true, not-false}
use Rattle.image.specs.View.{stretches_in, view}
use Rattle.listing.specs.grade.Grades.{is_noted_row, is_borne}
use Rattle.listing.specs.grade.GradeLaws.{dropped, kept-noted, kept-valid, grade-dropped, grade-one, grade-two, grade-three}
use Rattle.listing.proofs.grade.grade.Goals as goal
use Rattle.listing.proofs.grade.grade.Goals.{After-is_found-there, Joined-else-not-row, else-not-row-via-then-not-row+else-not-there, else-not-row-via-else-not-row}

abbrev there : (c : After-is_found-there) → Bool
there c =
    is_noted_row c.args.found.now.library.now c.args.found.now.noted.now c.args.found.now.goals.now c.args.row

abbrev borne : (c : After-is_found-there) → Bool
borne c =
    is_borne (view c.args.image.now (stretches_in c.args.s.now)) c.args.found.now.library.now c.args.rules c.args.found.now.segments.now c.args.found.now.references.now c.args.found.now.n c.args.found.now.placed.now c.args.found.now.positions.now c.args.row.segment.0 c.args.row.base

-- such a symbol is graded
kept : (c : Joined-else-not-row) → (c.args.row.valid || is_noted_row c.args.found.now.library.now c.args.found.now.noted.now c.args.found.now.goals.now c.args.row) ≡ true
kept c = elim c.else-not-row.branch [
  | else-not-row-via-then-not-row+else-not-there w ↦ kept-noted c.args.row.valid (sym c.is_found-there.ensures ∙ w.if-not-there.false)
  | else-not-row-via-else-not-row w ↦ kept-valid (is_noted_row c.args.found.now.library.now c.args.found.now.noted.now c.args.found.now.goals.now c.args.row) (not-false c.args.row.valid w.if-not-row.false)
]

pub returns-then-not-there : goal.returns-then-not-there
returns-then-not-there c =
    let at = (goal.at.returns-then-not-there c).After-is_found-there in
    sym (grade-dropped c.args.row.valid (there at) (borne at) (dropped (not-true c.args.row.valid c.if-not-row.true) (sym c.is_found-there.ensures ∙ c.if-not-there.true)))

pub returns-then-not-is_borne : goal.returns-then-not-is_borne
returns-then-not-is_borne c =
    let at = (goal.at.returns-then-not-is_borne c).After-is_found-there in
    sym (grade-one c.args.row.valid (there at) (borne at) (kept (goal.at.returns-then-not-is_borne c).Joined-else-not-row) (sym c.if-not-is_borne.ensures))

pub returns-then-there : goal.returns-then-there
returns-then-there c =
    let at = (goal.at.returns-then-there c).After-is_found-there in
    sym (grade-three c.args.row.valid (there at) (borne at) (kept (goal.at.returns-then-there c).Joined-else-not-row) (sym c.if-not-is_borne.ensures)
    (sym c.is_found-there.ensures ∙ c.if-there.true))

pub returns-else-there : goal.returns-else-there
returns-else-there c =
    let at = (goal.at.returns-else-there c).After-is_found-there in
    sym (grade-two c.args.row.valid (there at) (borne at) (kept (goal.at.returns-else-there c).Joined-else-not-row) (sym c.if-not-is_borne.ensures)
    (sym c.is_found-there.ensures ∙ c.if-there.false))
