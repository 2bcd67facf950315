-- `is_borne`: a number that is not below n has no segment. Assumes nothing.
use Rattle.std.specs.Prelude.{if◌then◌else◌}
use mathlib.Core.Path.{refl, sym, ap, ◌∙◌}
use mathlib.Core.Bool.{Bool}
use mathlib.Core.List.{[]}
use borrow.Author.Tests.{lt-ltb, le-ltb}
use Rattle.lent.specs.Lists.{all}
use Rattle.image.specs.View.{stretches_in, view}
use Rattle.segments.specs.declared.Reference.{Reference}
use Rattle.segments.specs.SegmentLayouts.{reference_layout, segment_row_at}
use Rattle.segments.specs.recalled.Recall.{rows_of}
use Rattle.listing.specs.grade.Grades.{is_found, bears_out}
use Rattle.listing.specs.grade.GradeLaws.{all_end}
use Rattle.listing.proofs.grade.is_borne.Goals as goal

pub returns-then-found-i : goal.returns-then-found-i
returns-then-found-i c =
    let bears : Reference → Bool = bears_out (is_found c.args.found.now.library.now 8 c.args.found.now.placed.now c.args.found.now.positions.now) (view c.args.image.now (stretches_in c.args.s.now)) c.args.rules c.args.base in
    rw (le-ltb c.args.number.0
    c.args.found.now.n c.if-found-i.true) (sym (all_end (bears) refl))

pub returns : goal.returns
returns c =
    let bears : Reference → Bool = bears_out (is_found c.args.found.now.library.now 8 c.args.found.now.placed.now c.args.found.now.positions.now) (view c.args.image.now (stretches_in c.args.s.now)) c.args.rules c.args.base in
    let a = c.args in
    c.bear_out.ensures
    ∙ ap (λ row. all (bears) (rows_of reference_layout a.found.now.references.now row.references)) c.segment_at-row.ensures
    ∙ sym (ap (λ t. all (bears) (if t then rows_of reference_layout a.found.now.references.now
    (segment_row_at a.found.now.segments.now a.number.0).references else [])) (lt-ltb a.number.0 a.found.now.n c.if-found-i.false))
