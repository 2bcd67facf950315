-- `sillmarble_print_heading` makes a number of the answer. Assumes nothing.
use mathlib.Core.Path.{ap}
use Rattle.exported.specs.Exported.{written_in}
use Rattle.libfind_c.proofs.sillmarble_print_heading.Goals as goal

pub returns : goal.returns
returns c =
    rw c.size_of.ensures (ap written_in c.print_heading.ensures)
