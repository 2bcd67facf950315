-- `count`: so many of those behind were met. Assumes nothing.
use Rattle.listing.specs.past_end.WalkLaws.{Counted}
use Rattle.listing.proofs.past_end.bucket.count.Given as goal

abbrev pub invariant-loop-here : goal.invariant-loop-here
invariant-loop-here l =
    Counted (l.noted) l.head l.t l.all l.here l.n

abbrev pub decreases-loop-here : goal.decreases-loop-here
decreases-loop-here l =
    l.here
