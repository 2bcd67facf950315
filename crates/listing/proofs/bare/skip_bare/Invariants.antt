-- `skip_bare`: a position without rows, and then whole parts. Assumes nothing.
use Prim.Native.Nat.{◌-◌}
use Rattle.listing.specs.Bare.{Skips}
use Rattle.listing.proofs.bare.skip_bare.Given as goal

abbrev pub invariant-loop-at : goal.invariant-loop-at
invariant-loop-at l =
    Skips l.positions l.goals l.from l.end l.at

abbrev pub decreases-loop-at : goal.decreases-loop-at
decreases-loop-at l =
    l.end - l.at
