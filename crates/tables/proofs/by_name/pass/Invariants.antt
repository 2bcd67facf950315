-- `pass`: wherever it stands, the way that is left comes to what the whole way comes to. Assumes nothing.
use Rattle.std.proofs.Common.{◌+◌}
use Rattle.tables.specs.by_name.Tags.{Passes}
use Rattle.tables.proofs.by_name.pass.Given as goal

abbrev pub invariant-loop-width : goal.invariant-loop-width
invariant-loop-width l =
    Passes l.width l.m l.key l.wanted l.link (l.i + 1)

abbrev pub decreases-loop-width : goal.decreases-loop-width
decreases-loop-width l =
    l.i
