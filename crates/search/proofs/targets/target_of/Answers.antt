-- `target_of`: past the image's end there is no target, and else the sum is one of 64 bits. Assumes nothing.
use Rattle.image.specs.View.{stretches_in}
use Rattle.std.proofs.Common.{◌+◌, sym, arith}
use Rattle.search.specs.targets.MatchLaws.{past-target}
use Rattle.search.proofs.targets.target_of.Goals as goal
use Rattle.search.proofs.targets.target_of.Goals.{then-image-position-via-then-image-position, then-image-position-via-else-image-position+then-image-position-2}

pub returns-then-image-position : goal.returns-then-image-position
returns-then-image-position c =
    let a = c.args in
    elim c.then-image-position.branch [
      | then-image-position-via-then-image-position w ↦
          sym (past-target a.image.now (stretches_in a.s.now) a.rules (a.position + a.r.place) a.r.kind a.r.offset (omega (arith, w.if-image-position.true)))
      | then-image-position-via-else-image-position+then-image-position-2 w ↦
          sym (past-target a.image.now (stretches_in a.s.now) a.rules (a.position + a.r.place) a.r.kind a.r.offset (omega (arith, w.if-image-position-2.true, w.if-image-position.false)))
    ]
