-- `lowest`: no target of the rows so far that is at or past the bound is before it. Assumes nothing.
use Rattle.listing.specs.past_end.Beyond.{NoneBefore}
use Rattle.listing.proofs.past_end.bounds.lowest.Given as goal

abbrev pub invariant-loop-i : goal.invariant-loop-i
invariant-loop-i l =
    NoneBefore (l.noted) l.i l.bound l.top l.least
