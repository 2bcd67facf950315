-- `find_by_cells`: wherever it stands, the way that is left comes to what the whole way comes to. Assumes nothing.
use Rattle.std.proofs.Common.{◌≡◌}
use Rattle.lent.specs.declared.part.Part.{Part}
use Rattle.lent.specs.Parts.{bytes_of}
use Rattle.tables.specs.by_name.Tables.{followed}
use Rattle.tables.proofs.by_name.find_by_cells.Given as goal

abbrev pub invariant-loop-here : goal.invariant-loop-here
invariant-loop-here l =
    (name : Part) → l.bytes ≡ bytes_of l.library name → followed l.library l.width l.m l.key name l.here ≡ followed l.library l.width l.m l.key name l.link

abbrev pub decreases-loop-here : goal.decreases-loop-here
decreases-loop-here l =
    l.here
