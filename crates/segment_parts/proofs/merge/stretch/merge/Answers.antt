-- `merge` lends on the part from the offset to the end. Assumes nothing.
use native.Mathlib.Omega.{arith}
use Rattle.segment_parts.specs.merge.MergeLaws.{merged-through, merged-past}
use Rattle.segment_parts.proofs.merge.stretch.merge.Goals as goal

pub returns-then-offset-pattern : goal.returns-then-offset-pattern
returns-then-offset-pattern c =
    let a = c.args in
    let o = c.or_into in
    merged-through a.pattern.now a.offset a.new.now o.new.old o.ensures

pub returns-else-offset-pattern : goal.returns-else-offset-pattern
returns-else-offset-pattern c =
    let a = c.args in
    merged-past a.pattern.now a.offset a.new.now (omega arith)
