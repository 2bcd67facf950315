-- `nothing` makes cells of which none was given. Assumes nothing.
use mathlib.Core.Path.{refl}
use Rattle.intel_hex.specs.Cells.{no_cells}
use Rattle.intel_hex.proofs.memory.nothing.Goals as goal

pub returns : goal.returns
unfolding no_cells
returns c =
    refl
