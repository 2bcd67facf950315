-- `fits` meets its contract: the room that is left is for the lines that are left. Assumes nothing.
use mathlib.Core.Path.{◌≡◌}
use lib.Dec.{leb}
use lib.ListN.{length}
use Rattle.listing_rules.specs.Print.{printed}
use Rattle.printing.specs.PrintedText.{stored_lines}
use Rattle.printing.specs.Pieces.{lines_from}
use Rattle.printing.proofs.fits.Given as goal

abbrev pub invariant-loop-i : goal.invariant-loop-i
invariant-loop-i l =
    leb (length (lines_from l.library l.lines l.n l.i)) l.left ≡ leb (length (printed l.library (stored_lines l.lines l.n))) l.room
