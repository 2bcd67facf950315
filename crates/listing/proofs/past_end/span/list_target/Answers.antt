-- `list_target`: nothing is added, or what the bucket has. Assumes nothing.
use Rattle.listing.specs.past_end.TargetLaws.{target-over, target-empty, target-bucket}
use Rattle.listing.proofs.past_end.span.list_target.Goals as goal

pub returns-then-f : goal.returns-then-f
returns-then-f c =
    let a = c.args in target-over a.noted.now a.goals.now a.t a.skip a.lines.now a.f c.if-f.true

pub returns-then-head-eq0 : goal.returns-then-head-eq0
returns-then-head-eq0 c =
    let a = c.args in target-empty a.noted.now a.goals.now a.t a.skip
    a.lines.now a.f c.head_at-head.result c.head_at-head.ensures c.if-head-eq0.true

pub returns : goal.returns
returns c =
    let a = c.args in
    target-bucket a.noted.now a.goals.now a.t a.skip a.lines.now a.f c.head_at-head.result c.head_at-head.ensures
    c.list_bucket.new.lines c.list_bucket.result c.if-f.false c.list_bucket.ensures
