-- `append_left` appends a reference, if there is one. Assumes nothing.
use native.Mathlib.Omega.{arith}
use Rattle.segments.specs.SegmentLayouts.{reference_layout}
use Rattle.segments.proofs.SegmentLayoutLaws.{reference-width}
use Rattle.tables.specs.fill.FilledRowLaws.{put-more-length}
use Rattle.tables.specs.fill.AddedRowLaws.{adds_one}
use Rattle.segment_parts.proofs.references.append_left.Goals as goal

pub returns-in-Some : goal.returns-in-Some
returns-in-Some c =
    let a = c.args in
    let r = c.in-Some.reference in
    rw (
      c.in-Some.is,
      c.append.ensures.0,
      c.append.ensures.1,
    )
    (adds_one reference_layout reference-width (λ e. absurd (omega arith)) a.m.now a.f r, put-more-length reference_layout a.f r a.m.now)
