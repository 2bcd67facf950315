use Prim.Native.Nat.{◌+◌}
use native.Mathlib.Omega.{arith}
use Rattle.listing.specs.BareLaws.{skips-none, skips-on}
use Rattle.listing.proofs.bare.skip_parts.Goals as goal

pub loop-at-init : goal.loop-at-init
loop-at-init c =
    let a = c.args in skips-none a.positions.now a.goals.now a.from a.end

pub loop-at-preserved : goal.loop-at-preserved
loop-at-preserved c =
    let a = c.args in
    let l = c.loop-at in
    skips-on a.positions.now a.goals.now a.from a.end l.at (l.at + 8) l.invariant (omega arith)
    (omega (arith, c.if-most-at-ge-PART.true, c.loop-at-test.true)) (c.is_bare.ensures c.if-is_bare.true)
