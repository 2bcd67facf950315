-- `write_names`: those behind stand in memory. Assumes nothing.
use Rattle.listing.specs.past_end.WalkLaws.{Writing}
use Rattle.listing.proofs.past_end.bucket.write_names.Given as goal

abbrev pub invariant-loop-here : goal.invariant-loop-here
invariant-loop-here l =
    Writing (l.noted) l.head l.t l.end l.initial.lines l.lines l.k l.here

abbrev pub decreases-loop-here : goal.decreases-loop-here
decreases-loop-here l =
    l.here
