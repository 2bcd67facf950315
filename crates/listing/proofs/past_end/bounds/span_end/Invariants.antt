-- `span_end` only goes up from the first. Assumes nothing.
use Prim.Native.Nat.{◌≤◌}
use Rattle.listing.proofs.past_end.bounds.span_end.Given as goal

abbrev pub invariant-loop-i : goal.invariant-loop-i
invariant-loop-i l =
    l.first ≤ l.last
