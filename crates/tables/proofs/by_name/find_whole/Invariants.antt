-- `find_whole`: wherever it stands, the way that is left comes to what the whole way comes to. Assumes nothing.
use Rattle.std.proofs.Common.{◌≡◌, ◌≤◌}
use Rattle.lent.specs.declared.part.Part.{Part}
use Rattle.lent.specs.Parts.{bytes_of}
use Rattle.tables.specs.by_name.Tables.{followed}
use Rattle.tables.proofs.by_name.find_whole.Given as goal

abbrev pub invariant-loop-bytes : goal.invariant-loop-bytes
invariant-loop-bytes l =
    (l.here ≤ l.link) × ((name : Part) → l.bytes ≡ bytes_of l.library name → followed l.library l.width l.m l.key name l.here ≡ followed l.library l.width l.m l.key name l.link)

abbrev pub decreases-loop-bytes : goal.decreases-loop-bytes
decreases-loop-bytes l =
    l.here
