-- `sillmarble_print` makes a number of the answer. Assumes nothing.
use mathlib.Core.Path.{ap}
use Rattle.exported.specs.Exported.{written_in}
use Rattle.libfind_c.proofs.sillmarble_print.Goals as goal

pub returns : goal.returns
returns c =
    rw c.size_of.ensures (ap written_in c.print.ensures)
