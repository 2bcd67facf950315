-- `put` passes over places past the end. Assumes nothing.
use mathlib.Core.Path.{sym}
use lib.Seq.{set_out}
use Rattle.segments.proofs.masks.put.Goals as goal

pub returns-else-at-masks : goal.returns-else-at-masks
returns-else-at-masks c =
    let a = c.args in sym (set_out a.masks.now a.at a.mask c.if-at-masks.false)
