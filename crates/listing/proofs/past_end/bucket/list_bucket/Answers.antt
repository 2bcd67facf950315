-- `list_bucket`: left out, or too many, or written. Assumes nothing.
use native.Mathlib.Omega.{arith}
use mathlib.Core.Path.{sym, ◌∙◌}
use Rattle.listing.specs.past_end.TargetLaws.{bucket-crowded, bucket-full, bucket-written}
use Rattle.listing.proofs.past_end.bucket.list_bucket.Goals as goal

pub returns-then-is_crowded : goal.returns-then-is_crowded
returns-then-is_crowded c =
    let a = c.args in
    bucket-crowded a.noted.now a.head a.t a.skip c.count.result c.count.ensures a.lines.now a.f (sym c.is_crowded.ensures ∙ c.if-is_crowded.true)

pub returns-then-room-f : goal.returns-then-room-f
returns-then-room-f c =
    let a = c.args in
    bucket-full a.noted.now a.head a.t a.skip c.count.result c.count.ensures a.lines.now a.f
    (sym c.is_crowded.ensures ∙ c.if-is_crowded.false)
    c.count-valid.result c.count-valid.ensures (omega (arith, c.if-room-f.true))

pub returns-then-room-f-2 : goal.returns-then-room-f-2
returns-then-room-f-2 c =
    let a = c.args in
    bucket-full a.noted.now a.head a.t a.skip c.count.result c.count.ensures a.lines.now a.f
    (sym c.is_crowded.ensures ∙ c.if-is_crowded.false)
    c.count-valid.result c.count-valid.ensures (omega (arith, c.if-room-f.false, c.if-room-f-2.true))

pub overflow_add-end : goal.overflow_add-end
overflow_add-end c =
    omega (arith, c.if-room-f.false, c.if-room-f-2.false, c.well_formed.1.1.1.1.0)

pub returns : goal.returns
returns c =
    let a = c.args in
    bucket-written a.noted.now a.head a.t a.skip c.count.result c.count.ensures a.lines.now a.f
    (sym c.is_crowded.ensures ∙ c.if-is_crowded.false)
    c.count-valid.result c.count-valid.ensures c.write_names.new.lines
    (omega (arith, c.if-room-f.false, c.if-room-f-2.false)) c.write_names.auto.lines c.write_names.ensures
