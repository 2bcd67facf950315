use native.Mathlib.Omega.{arith}
use Rattle.listing.specs.past_end.BoundLaws.{past_more}
use Rattle.listing.proofs.past_end.bounds.highest.Goals as goal

pub loop-i-preserved : goal.loop-i-preserved
loop-i-preserved c =
    past_more c.args.noted.now c.loop-i.i c.cell.result c.cell.ensures c.loop-i.top c.max-top.result c.loop-i.invariant
    (record { first = omega (arith, c.max-top.ensures); second = omega (arith, c.max-top.ensures) })
