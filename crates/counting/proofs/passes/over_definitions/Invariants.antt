-- `over_definitions`: each step leaves fewer definitions. Assumes nothing.
use lib.ListN.{length}
use Rattle.library.specs.items.Left.{definitions_left}
use Rattle.counting.proofs.passes.over_definitions.Given as goal

abbrev pub invariant-loop-definition : goal.invariant-loop-definition
invariant-loop-definition l =
    Unit

abbrev pub decreases-loop-definition : goal.decreases-loop-definition
decreases-loop-definition l =
    length (definitions_left l.library l.c)
