-- `over_fixups`: each step leaves fewer fixups. Assumes nothing.
use lib.ListN.{length}
use Rattle.library.specs.items.Left.{fixups_left}
use Rattle.counting.proofs.passes.over_fixups.Given as goal

abbrev pub invariant-loop-fixup : goal.invariant-loop-fixup
invariant-loop-fixup l =
    Unit

abbrev pub decreases-loop-fixup : goal.decreases-loop-fixup
decreases-loop-fixup l =
    length (fixups_left l.library l.c)
