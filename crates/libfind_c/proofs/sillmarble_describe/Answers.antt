-- `sillmarble_describe` makes a number of the answer. Assumes nothing.
use mathlib.Core.Path.{ap}
use Rattle.exported.specs.Exported.{said_in}
use Rattle.libfind_c.proofs.sillmarble_describe.Goals as goal

pub returns : goal.returns
returns c =
    rw c.length_of.ensures (ap said_in c.describe.ensures)
