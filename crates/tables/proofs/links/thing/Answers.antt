-- `thing` puts the place above the key. Assumes nothing.
use Rattle.std.proofs.Common.{arith}
use Rattle.tables.specs.links.Things.{thing_of}
use Rattle.tables.proofs.links.thing.Goals as goal

pub returns : goal.returns
unfolding thing_of
returns c =
    (rw c.from.ensures, omega arith)
