-- `over_contents`: each step leaves fewer contents. Assumes nothing.
use lib.ListN.{length}
use Rattle.omf51.specs.Module.{sections_at}
use Rattle.library.specs.Gathered.{items_at}
use Rattle.counting.proofs.passes.over_contents.Given as goal

abbrev pub invariant-loop-content : goal.invariant-loop-content
invariant-loop-content l =
    Unit

abbrev pub decreases-loop-content : goal.decreases-loop-content
decreases-loop-content l =
    length (items_at l.library (sections_at l.library) l.at)
