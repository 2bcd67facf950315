-- `highest`: no target of the rows so far is past it. Assumes nothing.
use Rattle.listing.specs.past_end.Beyond.{NonePast}
use Rattle.listing.proofs.past_end.bounds.highest.Given as goal

abbrev pub invariant-loop-i : goal.invariant-loop-i
invariant-loop-i l =
    NonePast (l.noted) l.i l.top
